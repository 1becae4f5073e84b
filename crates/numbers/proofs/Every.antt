-- Facts about every byte, by one computed test each. Assumes nothing.
use mathlib.Core.Path.{◌≡◌, refl, sym, subst}
use mathlib.Core.Bool.{Bool, true, false, true≢false}
use Prim.Native.Nat.{ℕ, zero, suc, ◌<◌, ◌%◌, ◌^◌, ◌*◌}
use native.Mathlib.Omega.{arith}
use native.Mathlib.Nat.{eq-or-lt_of_le, le_of_suc-le-suc}
use mathlib.Core.Logic.{⊎_elim}
use lib.Dec.{T, eqb, eqb→eq, ltb, ltb→lt}
use borrow.Author.Tests.{ne_eqb}
use Rattle.std.proofs.Common.{bit_or}
use Rattle.numbers.specs.Bits.{bit_of, with_bit}

abbrev both : Bool → Bool → Bool
both true b = b
both false b = false

both_left : (a b : Bool) → T (both a b) → T a
both_left true b t = tt
both_left false b t = t

both_right : (a b : Bool) → T (both a b) → T b
both_right true b t = t
both_right false b t = absurd t

-- the test f passes at each number below n
abbrev pub below : ℕ → (ℕ → Bool) → Bool
below zero f = true
below (suc n) f = both (f n) (below n f)

pub all : (n : ℕ) (f : ℕ → Bool) → T (below n f) → (k : ℕ) → k < n → T (f k)
all zero f t k h = absurd (omega arith)
all (suc n) f t k h =
    ⊎_elim (λ e. subst (λ (m : ℕ). T (f m)) (sym e) (both_left (f n) (below n f) t)) (λ l. all n f (both_right (f n) (below n f) t) k l) (eq-or-lt_of_le (le_of_suc-le-suc h))

-- two tests agree
abbrev pub agree : Bool → Bool → Bool
agree true b = b
agree false true = false
agree false false = true

pub agree_is : (a b : Bool) → T (agree a b) → a ≡ b
agree_is true true t = refl
agree_is true false t = absurd t
agree_is false true t = absurd t
agree_is false false t = refl

abbrev either : Bool → Bool → Bool
either true b = true
either false b = b

either_right : (a b : Bool) → a ≡ false → T (either a b) → T b
either_right true b e t = absurd (true≢false e)
either_right false b e t = t

T_true : (b : Bool) → T b → b ≡ true
T_true true t = refl
T_true false t = absurd t

pub bit_fits : (x k : ℕ) → x < 256 → k < 8 → with_bit x k < 256
unfolding bit_of with_bit
bit_fits x k hx hk = ltb→lt (with_bit x k) 256 (all 256 (λ x. ltb (with_bit x k) 256) (all 8 (λ k. below 256 (λ x. ltb (with_bit x k) 256)) tt k hk) x hx)

pub bit_set : (x k : ℕ) → x < 256 → k < 8 → bit_of (with_bit x k) k ≡ true
unfolding bit_of with_bit
bit_set x k hx hk = T_true (bit_of (with_bit x k) k) (all 256 (λ x. bit_of (with_bit x k) k) (all 8 (λ k. below 256 (λ x. bit_of (with_bit x k) k)) tt k hk) x hx)

pub bit_kept : (x k j : ℕ) → x < 256 → k < 8 → j < 8 → (j ≡ k → ⊥) → bit_of (with_bit x k) j ≡ bit_of x j
unfolding bit_of with_bit
bit_kept x k j hx hk hj ne =
    agree_is (bit_of (with_bit x k) j) (bit_of x j) (all 256 (λ x. agree (bit_of (with_bit x k) j) (bit_of x j)) (either_right (eqb j k) (below 256 (λ x. agree (bit_of (with_bit x k) j) (bit_of x j))) (ne_eqb j k ne)
    (all 8 (λ j. either (eqb j k) (below 256 (λ x. agree (bit_of (with_bit x k) j) (bit_of x j)))) (all 8 (λ k. below 8 (λ j. either (eqb j k) (below 256 (λ x. agree (bit_of (with_bit x k) j) (bit_of x j))))) tt k hk) j hj)) x hx)

-- `x | 1 << k` of a byte
pub bit_or_is : (x k : ℕ) → x < 256 → k < 8 → bit_or x ((1 * 2 ^ k) % 256) ≡ with_bit x k
unfolding bit_of with_bit
bit_or_is x k hx hk = eqb→eq (bit_or x ((1 * 2 ^ k) % 256)) (with_bit x k) (all 256 (λ x. eqb (bit_or x ((1 * 2 ^ k) % 256)) (with_bit x k)) (all 8 (λ k. below 256 (λ x. eqb (bit_or x ((1 * 2 ^ k) % 256)) (with_bit x k))) tt k hk) x hx)
