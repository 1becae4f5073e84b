-- The numbers of no datatype. Assumes nothing.
use mathlib.Core.Path.{◌≡◌, ap, ◌∙◌}
use Prim.Native.Nat.{ℕ, ◌<◌}
use mathlib.Core.Bool.{false}
use mathlib.Core.List.{List}
use mathlib.Core.Logic.{◌⊎◌, inl, inr}
use lib.ListN.{get_or-eq_default}
use Rattle.forms.specs.Form.{none, accepts}
use Rattle.forms.specs.Meaning.{none_law}
use Rattle.forms.specs.Types.{form_of, of_type}

beyond : (n : ℕ) → 16 < n → form_of n ≡ none
unfolding form_of
beyond n l = simp get_or-eq_default

pub of_none : (n : ℕ) (s : List ℕ) → (n ≡ 0) ⊎ (16 < n) → of_type n s ≡ false
unfolding of_type form_of
of_none n s (inl e) = rw e (none_law s)
of_none n s (inr l) = ap (λ f. accepts f s) (beyond n l) ∙ none_law s
