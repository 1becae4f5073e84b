-- Laws of the value of digits and of the sum of bytes, and of the loops that find them. Assumes nothing.
use mathlib.Core.Path.{◌≡◌, sym, ◌∙◌}
use mathlib.Core.List.{List, [], ◌∷◌}
use Prim.Native.Nat.{ℕ, ◌+◌, ◌-◌, ◌*◌, ◌%◌, ◌≤◌, ◌<◌}
use native.Mathlib.Omega.{arith}
use native.Mathlib.Numerals.{add-one}
use lib.ListN.{length, drop, get_or, drop_of_length-le}
use lib.Seq.{drop-cons}
use Rattle.numbers.specs.Bytes.{total}
use Rattle.numbers.specs.Decimal.{value_from, value}

-- more digits never make it less
value_grows : (s : List ℕ) (a : ℕ) → a ≤ value_from a s
unfolding value_from
value_grows [] a = omega arith
value_grows (b ∷ s) a = let h = value_grows s (a * 10 + (b - 48)) in omega (arith, h)

-- the loop that takes the value: v of the first i bytes
module _ (s : List ℕ) (v i : ℕ) (inv : value s ≡ value_from v (drop i s)) where
  pub value_turn : i < length s → value s ≡ value_from (v * 10 + (get_or s i 0 - 48)) (drop (i + 1) s)
  unfolding value_from
  value_turn h = inv ∙ rw (add-one, drop-cons s i 0 h)

  pub value_least : i < length s → v * 10 + (get_or s i 0 - 48) ≤ value s
  value_least h =
      let g = value_grows (drop (i + 1) s) (v * 10 + (get_or s i 0 - 48)) in
      omega (arith, g, value_turn h)

  pub value_end : length s ≤ i → v ≡ value s
  unfolding value_from
  value_end h = sym (inv ∙ rw (drop_of_length-le s h))

-- the loop that sums: t of the first i bytes
pub record Summing (s : List ℕ) (t i : ℕ) : Type 0 where
  pub small : t < 256
  pub is : total s % 256 ≡ (t + total (drop i s)) % 256

module _ (s : List ℕ) (t i : ℕ) (inv : Summing s t i) where
  pub sum_turn : i < length s → Summing s ((t + get_or s i 0) % 256) (i + 1)
  unfolding total
  sum_turn h =
      let e : total (drop i s) ≡ get_or s i 0 + total (drop (i + 1) s) = rw (add-one, drop-cons s i 0 h) in
      record { small = omega arith; is = inv.is ∙ omega (arith, e) }

  pub sum_end : length s ≤ i → t ≡ total s % 256
  unfolding total
  sum_end h = sym (inv.is ∙ rw (drop_of_length-le s h) (omega (arith, inv.small)))
