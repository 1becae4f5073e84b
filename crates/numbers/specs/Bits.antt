-- A set of numbers as bits in bytes. Assumes nothing.
use Rattle.std.specs.Prelude.{ℕ, ◌+◌, ◌/◌, ◌%◌, ◌^◌, Bool, cond, List, eqb, get_or, set}

unfoldable pub bit_of : ℕ → ℕ → Bool
bit_of x k = eqb (x / 2 ^ k % 2) 1

unfoldable pub with_bit : ℕ → ℕ → ℕ
with_bit x k = cond (bit_of x k) x (x + 2 ^ k)

-- n is in the set
unfoldable pub bit_at : List ℕ → ℕ → Bool
bit_at map n = bit_of (get_or map (n / 8) 0) (n % 8)

-- the set with n put in, if it has room for n
unfoldable pub marked : List ℕ → ℕ → List ℕ
marked map n = set map (n / 8) (with_bit (get_or map (n / 8) 0) (n % 8))
