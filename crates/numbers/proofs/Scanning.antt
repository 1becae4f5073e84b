-- Laws of the loop that takes the digits in front. Assumes nothing.
use mathlib.Core.Path.{◌≡◌, refl, sym, ap, ◌∙◌}
use mathlib.Core.Bool.{true, false}
use mathlib.Core.List.{List, [], ◌∷◌}
use Prim.Native.Nat.{ℕ, suc, ◌+◌, ◌-◌, ◌*◌, ◌≤◌, ◌<◌, min}
use native.Mathlib.Omega.{arith}
use native.Mathlib.Nat.{add-zero}
use native.Mathlib.Numerals.{add-one}
use lib.ListN.{length, drop, get_or, drop_of_length-le, length-drop}
use lib.Seq.{drop-cons}
use Rattle.numbers.specs.Decimal.{digit, value_from, value}
use Rattle.numbers.specs.Scan.{leading_digits}

-- a number that is capped at each digit is capped at the end
capped : (cap : ℕ) (s : List ℕ) (a : ℕ) → min (value_from a s) cap ≡ min (value_from (min a cap) s) cap
unfolding value_from
capped cap [] a = omega arith
capped cap (b ∷ s) a =
    let e : min (a * 10 + (b - 48)) cap ≡ min (min a cap * 10 + (b - 48)) cap = omega arith in
    capped cap s (a * 10 + (b - 48)) ∙ ap (λ n. min (value_from n s) cap) e ∙ sym (capped cap s (min a cap * 10 + (b - 48)))

-- v is the capped value of the first i bytes of s, which are digits
pub record Counted (cap : ℕ) (s : List ℕ) (v i : ℕ) : Type 0 where
  pub small : v ≤ cap
  pub value : min (value (leading_digits s)) cap ≡ min (value_from v (leading_digits (drop i s))) cap
  pub place : length (leading_digits s) ≡ i + length (leading_digits (drop i s))

abbrev pub Number : ℕ → List ℕ → ℕ → ℕ → Type 0
Number cap s v i = (v ≡ min (value (leading_digits s)) cap) × (i ≡ length (leading_digits s))

pub number_start : (top : ℕ) (s : List ℕ) → Counted top s 0 0
number_start top s = record { small = omega arith; value = refl; place = omega arith }

module _ (cap : ℕ) (s : List ℕ) (v i : ℕ) (inv : Counted cap s v i) where
  stops : leading_digits (drop i s) ≡ [] → Number cap s v i
  unfolding value_from
  stops e = (rw (inv.value, e) (omega (arith, inv.small)), sym (inv.place ∙ rw (e, add-zero)))

  pub number_end : length s ≤ i → Number cap s v i
  unfolding leading_digits
  number_end h = stops (rw (drop_of_length-le s))

  pub number_stop : i < length s → digit (get_or s i 0) ≡ false → Number cap s v i
  unfolding leading_digits
  number_stop h e = stops (rw (drop-cons s i 0, e))

  pub number_turn : i < length s → digit (get_or s i 0) ≡ true → (w : ℕ) → w ≡ min (v * 10 + (get_or s i 0 - 48)) cap → Counted cap s w (i + 1)
  unfolding leading_digits value_from
  number_turn h d w e = record {
    small = omega (arith, e);
    value = inv.value ∙ rw (add-one, drop-cons s i 0, d, e) (capped cap (leading_digits (drop (suc i) s)) (v * 10 + (get_or s i 0 - 48)));
    place = inv.place ∙ rw (add-one, drop-cons s i 0, d) (omega arith);
  }

-- of what is left from a place on
module _ (items s : List ℕ) (from : ℕ) (is : items ≡ drop from s) where
  pub place_in : (i : ℕ) → i < length items → from + i < length s
  place_in i h = let e : length items ≡ length s - from = rw (is, length-drop) in omega (arith, e)

  pub number_of : (cap v i end : ℕ) → end ≡ from + i → Number cap items v i
      → (v ≡ min (value (leading_digits (drop from s))) cap) × (end ≡ from + length (leading_digits (drop from s)))
  number_of cap v i end e n = rw (← is, e) (n.0, ap (λ k. from + k) n.1)
