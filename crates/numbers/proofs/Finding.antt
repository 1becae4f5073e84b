-- The words of this crate's definitions in std's. Assumes nothing.
use mathlib.Core.Path.{◌≡◌, refl, sym, ap, ◌∙◌}
use mathlib.Core.Bool.{Bool, true, false, cond, not, ◌&&◌}
use mathlib.Core.List.{List, [], ◌∷◌}
use Prim.Native.Nat.{ℕ, suc, ◌+◌}
use native.Mathlib.Omega.{arith}
use lib.Dec.{eqb, ltb}
use lib.ListN.{length, take}
use Rattle.std.specs.List.{position, position_or_len, list_all, prefix_len}
use Rattle.std.specs.Option.{unwrap_or}
use Rattle.std.proofs.Common.{Some, None}
use Rattle.std.proofs.lemmas.List.Sums.{prefix_len-le-length}
use borrow.Author.Tests.{ltb-false}
use Rattle.numbers.specs.Decimal.{digit, digits}
use Rattle.numbers.specs.Before.{before}
use Rattle.numbers.specs.Scan.{upto, leading_digits}

-- Both words for the count of the bytes in front of the first c. A caller of find_byte whose contract says `upto` proves under
-- `#[tactic(auto, using(numbers::proofs::Finding::upto_is_before))]`, or gives a lemma `c.find_byte.ensures ∙ ap (λ n. from + n) (sym (upto_is_before _ _))`.
pub upto_is_before : (c : ℕ) (s : List ℕ) → upto c s ≡ before c s
unfolding upto before
upto_is_before c [] = refl
upto_is_before c (b ∷ s) = ap (λ n. cond (eqb b c) 0 (suc n)) (upto_is_before c s)

pub before_is : (c : ℕ) (s : List ℕ) → before c s ≡ position_or_len (λ b. eqb b c) s
unfolding before
before_is c [] = refl
before_is c (b ∷ s) = by_test (eqb b c) (before_is c s)
  where
    by_test : (t : Bool) → before c s ≡ position_or_len (λ b. eqb b c) s → cond t 0 (suc (before c s)) ≡ cond (not t) (1 + position_or_len (λ b. eqb b c) s) 0
    by_test true h = refl
    by_test false h = omega arith

-- what `position` answers, the length in place of `None`
pub found_is : (c : ℕ) (s : List ℕ) → unwrap_or (position (λ b. eqb b c) s) (length s) ≡ before c s
found_is c s = by_test (ltb (position_or_len (λ b. eqb b c) s) (length s)) refl
  where
    by_test : (t : Bool) → ltb (position_or_len (λ b. eqb b c) s) (length s) ≡ t → unwrap_or (cond t (Some (position_or_len (λ b. eqb b c) s)) None) (length s) ≡ before c s
    by_test true e = sym (before_is c s)
    by_test false e = omega (arith, before_is c s, ltb-false _ _ e, prefix_len-le-length (λ b. not (eqb b c)) s)

pub digits_is : (s : List ℕ) → digits s ≡ list_all digit s
unfolding digits
digits_is [] = refl
digits_is (b ∷ s) = ap (λ r. digit b && r) (digits_is s)

one_more : (n : ℕ) → 1 + n ≡ suc n
one_more n = omega arith

pub leading_is : (s : List ℕ) → leading_digits s ≡ take (prefix_len digit s) s
unfolding leading_digits
leading_is [] = refl
leading_is (b ∷ s) = by_test (digit b) (leading_is s)
  where
    by_test : (t : Bool) → leading_digits s ≡ take (prefix_len digit s) s → cond t (b ∷ leading_digits s) [] ≡ take (cond t (1 + prefix_len digit s) 0) (b ∷ s)
    by_test true h = ap (λ l. b ∷ l) h ∙ rw (one_more (prefix_len digit s))
    by_test false h = refl
