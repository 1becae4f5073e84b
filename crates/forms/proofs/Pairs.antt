-- Two digits within a range, and what stands at a place. Assumes nothing.
use mathlib.Core.Path.{◌≡◌, refl}
use Prim.Native.Nat.{ℕ, suc, ◌+◌, ◌-◌, ◌*◌}
use native.Mathlib.Omega.{arith}
use mathlib.Core.Bool.{Bool, true, false, ◌&&◌}
use mathlib.Core.List.{List, [], ◌∷◌}
use lib.Dec.{leb}
use borrow.Author.Tests.{le-leb}
use borrow.Author.Tests.{le-leb}
use lib.ListN.{length, take, get_or}
use Rattle.numbers.specs.Decimal.{digit, digits, value_from}
use Rattle.forms.specs.Words.{is_two}

-- as the code has it
pub pair_is : (lo hi a b : ℕ) → is_two lo hi (a ∷ b ∷ []) ≡ (digit a && digit b && (leb lo ((a - 48) * 10 + (b - 48)) && leb ((a - 48) * 10 + (b - 48)) hi))
unfolding is_two digits value_from
pair_is lo hi a b = rw zero (go (digit a) (digit b))
  where
    zero : 0 * 10 + (a - 48) ≡ a - 48
    zero = omega arith

    v : ℕ
    v = (a - 48) * 10 + (b - 48)

    go : (t u : Bool) → (t && (u && true) && (leb lo v && leb v hi)) ≡ (t && u && (leb lo v && leb v hi))
    go true true = refl
    go true false = refl
    go false u = refl

-- the first two bytes
pub front_is : (lo hi : ℕ) (s : List ℕ) → is_two lo hi (take 2 s) ≡ (leb 2 (length s) && is_two lo hi (get_or s 0 0 ∷ get_or s 1 0 ∷ []))
unfolding is_two
front_is lo hi [] = refl
front_is lo hi (a ∷ []) = refl
front_is lo hi (a ∷ b ∷ s) = rw (le-leb 2 (suc (suc (length s))) (omega arith))
