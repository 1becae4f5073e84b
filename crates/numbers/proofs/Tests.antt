-- Laws of tests. Assumes nothing.
use mathlib.Core.Path.{◌≡◌, refl, sym, ◌∙◌}
use mathlib.Core.Bool.{Bool, true, false, ◌&&◌, ◌||◌, true≢false}
use Prim.Native.Nat.{ℕ}
use native.Mathlib.Omega.{arith}
use lib.Dec.{leb, eqb}
use borrow.Author.Tests.{leb-true, eqb-false, eq-eqb, ne_eqb, le-leb, lt-leb}

pub clash : {A : Type 0} (b : Bool) → b ≡ true → b ≡ false → A
clash b p q = absurd (true≢false (sym p ∙ q))

pub to_false : (t : Bool) → (t ≡ true → ⊥) → t ≡ false
to_false true h = absurd (h refl)
to_false false h = refl

pub and_left : (a b : Bool) → (a && b) ≡ true → a ≡ true
and_left true b e = refl
and_left false b e = e

pub and_right : (a b : Bool) → (a && b) ≡ true → b ≡ true
and_right true b e = e
and_right false b e = absurd (true≢false (sym e))

pub or_left : (a b : Bool) → (a || b) ≡ false → a ≡ false
or_left true b e = e
or_left false b e = refl

pub or_right : (a b : Bool) → (a || b) ≡ false → b ≡ false
or_right true b e = absurd (true≢false e)
or_right false b e = e

-- from a to a is a alone
pub only_one : (a b : ℕ) → (leb a b && leb b a) ≡ eqb b a
only_one a b = go (eqb b a) refl
  where
    under : (t : Bool) → leb a b ≡ t → (b ≡ a → ⊥) → (leb a b && leb b a) ≡ false
    under true e n = let h = leb-true a b e in rw (e, lt-leb b a (omega (arith, n)))
    under false e n = rw e

    go : (t : Bool) → eqb b a ≡ t → (leb a b && leb b a) ≡ t
    go true e = let q : b ≡ a = borrow.Author.Tests.eqb-true b a e in rw (le-leb a b (omega (arith, q)), le-leb b a (omega (arith, q)))
    go false e = under (leb a b) refl (eqb-false b a e)
