-- The walk over records: the law that removes its bound, and what a record's size says. Assumes nothing.
use mathlib.Core.Path.{◌≡◌, refl, sym, ap, ◌∙◌}
use mathlib.Core.Bool.{Bool, true, false, cond, ◌&&◌}
use mathlib.Core.List.{List}
use Prim.Native.Nat.{ℕ, zero, suc, ◌+◌, ◌-◌, ◌≤◌, zero-le}
use native.Mathlib.Omega.{arith}
use borrow.Author.Tests.{eq-eqb, ne_eqb, eqb-false, leb-true}
use lib.Dec.{eqb, leb}
use lib.ListN.{length, take, drop, length-drop}
use lib.Seq.{drop-drop}
use Rattle.numbers.specs.Bytes.{le16}
use Rattle.numbers.proofs.Parts.{rest}
use Rattle.numbers.proofs.Tests.{and_left, and_right}
use Rattle.book.specs.Records.{size, walk_from, walk, stop}

cond_le : (a b : Bool) (n m : ℕ) → (b ≡ true → n ≤ m) → cond (a && b) n 0 ≤ m
cond_le true true n m h = h refl
cond_le true false n m h = zero-le
cond_le false b n m h = zero-le

pub size_fits : (s : List ℕ) → size s ≤ length s
unfolding size
size_fits s = cond_le (leb 2 (length s) && leb 2 (le16 s)) (leb (2 + le16 s) (length s)) (2 + le16 s) (length s) (leb-true _ _)

cond_true : (b : Bool) (n : ℕ) → (cond b n 0 ≡ 0 → ⊥) → b ≡ true
cond_true true n h = refl
cond_true false n h = absurd (h refl)

-- what a size above 0 says
pub record Whole (s : List ℕ) : Type 0 where
  pub is : size s ≡ 2 + le16 s
  pub low : 2 ≤ le16 s
  pub fits : 2 + le16 s ≤ length s

pub whole : (s : List ℕ) → (size s ≡ 0 → ⊥) → Whole s
unfolding size
whole s h =
    let all = cond_true (leb 2 (length s) && leb 2 (le16 s) && leb (2 + le16 s) (length s)) (2 + le16 s) h in
    let front = and_left (leb 2 (length s) && leb 2 (le16 s)) (leb (2 + le16 s) (length s)) all in
    record {
      is = rw all;
      low = leb-true 2 (le16 s) (and_right (leb 2 (length s)) (leb 2 (le16 s)) front);
      fits = leb-true (2 + le16 s) (length s) (and_right (leb 2 (length s) && leb 2 (le16 s)) (leb (2 + le16 s) (length s)) all);
    }

module _ {R : Type 0} (none : ℕ → R) (more : ℕ → List ℕ → R → R) where
  enough : (f g at : ℕ) (s : List ℕ) → length s ≤ f → length s ≤ g → walk_from none more f at s ≡ walk_from none more g at s
  unfolding walk_from
  enough zero zero at s p q = refl
  enough zero (suc g) at s p q = rw (eq-eqb (size s) 0 (omega (arith, size_fits s)))
  enough (suc f) zero at s p q = rw (eq-eqb (size s) 0 (omega (arith, size_fits s)))
  enough (suc f) (suc g) at s p q = go (eqb (size s) 0) refl (enough f g (at + size s) (drop (size s) s))
    where
      go : (t : Bool) → eqb (size s) 0 ≡ t
          → (length (drop (size s) s) ≤ f → length (drop (size s) s) ≤ g → walk_from none more f (at + size s) (drop (size s) s) ≡ walk_from none more g (at + size s) (drop (size s) s))
          → cond (eqb (size s) 0) (none at) (more at s (walk_from none more f (at + size s) (drop (size s) s)))
          ≡ cond (eqb (size s) 0) (none at) (more at s (walk_from none more g (at + size s) (drop (size s) s)))
      go true e ih = rw e
      go false e ih =
          let n : size s ≡ 0 → ⊥ = eqb-false _ _ e in
          rw (e, ih (rw length-drop (omega (arith, n))) (rw length-drop (omega (arith, n))))

  pub walk_law : (at : ℕ) (s : List ℕ)
      → walk none more at s ≡ cond (eqb (size s) 0) (none at) (more at s (walk none more (at + size s) (drop (size s) s)))
  unfolding walk walk_from
  walk_law at s =
      enough (length s) (suc (length s)) at s (omega arith) (omega arith)
      ∙ ap (λ r. cond (eqb (size s) 0) (none at) (more at s r))
      (enough (length s) (length (drop (size s) s)) (at + size s) (drop (size s) s) (rw length-drop (omega arith)) (omega arith))

-- the loops over records: s the book, at the place, n the size of the record there, as `record_size` tells it
module _ (s : List ℕ) (at n : ℕ) (e : n ≡ size (take (length s - at) (drop at s))) where
  pub is_size : n ≡ size (drop at s)
  is_size = rw (rest s at) at e

  pub within : at ≤ length s → at + n ≤ length s
  within h = omega (arith, is_size, h, size_fits (drop at s), length-drop at s)

  module _ {R : Type 0} (none : ℕ → R) (more : ℕ → List ℕ → R → R) where
    pub walk_end : n ≡ 0 → walk none more at (drop at s) ≡ none at
    walk_end z = walk_law none more at (drop at s) ∙ rw (← is_size, z)

    pub walk_turn : (n ≡ 0 → ⊥) → walk none more at (drop at s) ≡ more at (drop at s) (walk none more (at + n) (drop (at + n) s))
    walk_turn z = walk_law none more at (drop at s) ∙ rw (← is_size, ne_eqb n 0 z, drop-drop)

-- rule 1's loop
abbrev pub StopSofar : List ℕ → ℕ → Type 0
StopSofar s at = (at ≤ length s) × (stop s ≡ walk (λ at. at) (λ at r n. n) at (drop at s))

pub stop_start : (s : List ℕ) → StopSofar s 0
unfolding stop
stop_start s = (zero-le, refl)

module _ (s : List ℕ) (at n : ℕ) (inv : StopSofar s at) (e : n ≡ size (take (length s - at) (drop at s))) where
  pub stop_end : n ≡ 0 → at ≡ stop s
  stop_end z = sym (inv.1 ∙ walk_end s at n e (λ at. at) (λ at r n. n) z)

  pub stop_turn : (n ≡ 0 → ⊥) → StopSofar s (at + n)
  stop_turn z = (within s at n e inv.0, inv.1 ∙ walk_turn s at n e (λ at. at) (λ at r n. n) z)
