-- Laws of lists of tags. Assumes nothing.
use mathlib.Core.Path.{◌≡◌, refl}
use mathlib.Core.Bool.{Bool, true, false, ◌&&◌, ◌||◌, not, or-true}
use mathlib.Core.List.{List, [], ◌∷◌, ◌++◌}
use Prim.Native.Nat.{ℕ}
use lib.Dec.{eqb}
use borrow.Author.Tests.{eqb-true, not-true}
use Rattle.numbers.specs.Bytes.{mem}
use Rattle.numbers.proofs.Tests.{clash, and_left, and_right, or_left, or_right}

unfoldable pub distinct : List ℕ → Bool
unfolding mem
distinct [] = true
distinct (x ∷ l) = not (mem x l) && distinct l

module _ (t : ℕ) where
  pub mem_left : (a b : List ℕ) → mem t (a ++ b) ≡ false → mem t a ≡ false
  unfolding mem
  mem_left [] b e = refl
  mem_left (x ∷ a) b e = rw (or_left (eqb t x) _ e) (mem_left a b (or_right (eqb t x) _ e))

  pub mem_right : (a b : List ℕ) → mem t (a ++ b) ≡ false → mem t b ≡ false
  unfolding mem
  mem_right [] b e = e
  mem_right (x ∷ a) b e = mem_right a b (or_right (eqb t x) _ e)

  pub mem_join : (a b : List ℕ) → mem t (a ++ b) ≡ (mem t a || mem t b)
  unfolding mem
  mem_join [] b = refl
  mem_join (x ∷ a) b = rw (mem_join a b) (go (eqb t x))
    where
      go : (c : Bool) → (c || (mem t a || mem t b)) ≡ (c || mem t a || mem t b)
      go true = refl
      go false = refl

  pub mem_behind : (a b : List ℕ) → mem t b ≡ true → mem t (a ++ b) ≡ true
  mem_behind a b e = rw (mem_join a b, e) (or-true (mem t a))

  pub disjoint : (a b : List ℕ) → distinct (a ++ b) ≡ true → mem t b ≡ true → mem t a ≡ false
  unfolding mem distinct
  disjoint [] b d e = refl
  disjoint (x ∷ a) b d e = go (eqb t x) refl (disjoint a b (and_right (not (mem x (a ++ b))) _ d) e)
    where
      go : (c : Bool) → eqb t x ≡ c → mem t a ≡ false → (eqb t x || mem t a) ≡ false
      go false p h = rw p h
      go true p h =
          let n : mem x (a ++ b) ≡ false = not-true _ (and_left (not (mem x (a ++ b))) _ d) in
          clash (mem x (a ++ b)) (rw (← eqb-true t x p) (mem_behind a b e)) n

pub distinct_left : (a b : List ℕ) → distinct (a ++ b) ≡ true → distinct a ≡ true
unfolding distinct
distinct_left [] b d = refl
distinct_left (x ∷ a) b d =
    let n : mem x (a ++ b) ≡ false = not-true _ (and_left (not (mem x (a ++ b))) _ d) in
    rw (mem_left x a b n) (distinct_left a b (and_right (not (mem x (a ++ b))) _ d))

pub distinct_right : (a b : List ℕ) → distinct (a ++ b) ≡ true → distinct b ≡ true
unfolding distinct
distinct_right [] b d = d
distinct_right (x ∷ a) b d = distinct_right a b (and_right (not (mem x (a ++ b))) _ d)
