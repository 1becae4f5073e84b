-- `same` of the definitions is std's `==` on slices. A function whose contract says `same` writes `a == b` or `a != b`, at a literal
-- `a == b"10=".as_slice()`, and proves under `#[tactic(auto, using(numbers::proofs::Same::same_is_eq))]`, in this crate
-- `using(crate::proofs::Same::same_is_eq)`. A lemma that takes `r ≡ same a b` is given `c.eq.ensures ∙ sym (same_is_eq _ _)`. Assumes nothing.
use mathlib.Core.Path.{◌≡◌, refl, ap}
use mathlib.Core.Bool.{◌&&◌}
use mathlib.Core.List.{List, [], ◌∷◌}
use Prim.Native.Nat.{ℕ}
use lib.Dec.{eqb}
use lib.Pointwise.{pointwise}
use Rattle.numbers.specs.Bytes.{same}

pub same_is_eq : (s t : List ℕ) → same s t ≡ pointwise eqb s t
unfolding same
same_is_eq [] [] = refl
same_is_eq [] (b ∷ t) = refl
same_is_eq (a ∷ s) [] = refl
same_is_eq (a ∷ s) (b ∷ t) = ap (λ r. eqb a b && r) (same_is_eq s t)
