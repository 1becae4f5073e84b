-- Laws of type texts. Assumes nothing.
use mathlib.Core.Path.{◌≡◌, refl, sym, ap, ◌∙◌}
use mathlib.Core.Bool.{Bool, true, false, cond, ◌&&◌, not, true≢false}
use mathlib.Core.List.{List, [], ◌∷◌}
use Prim.Native.Nat.{ℕ, suc, ◌+◌, ◌≤◌}
use native.Mathlib.Omega.{arith}
use borrow.Author.Tests.{eqb-true, ne_eqb}
use lib.Dec.{eqb, leb, ltb}
use Rattle.std.specs.Prelude.{Option, Some, None, get_or}
use Rattle.std.specs.Option.{unwrap_or}
use Rattle.std.proofs.lemmas.Bool.{ltb-false}
use Rattle.std.proofs.lemmas.List.Sums.{prefix_len-le-length}
use lib.ListN.{length, take, drop}
use lib.Seq.{drop-drop}
use Rattle.std.specs.List.{list_all, position_or_len}
use Rattle.numbers.specs.Bytes.{some, same, le16}
use Rattle.numbers.proofs.Tests.{and_left, and_right}
use Rattle.book.specs.Records.{type_text}
use Rattle.book.specs.Rules.{zeros, text_rest, good_type_text}

-- a type text ends before the first zero
pub text_is : (w : List ℕ) → take (position_or_len (λ b. eqb b 0) w) w ≡ type_text w
unfolding type_text
text_is [] = refl
text_is (b ∷ w) = go (eqb b 0) (text_is w)
  where
    one : (n : ℕ) → 1 + n ≡ suc n
    one n = omega arith

    go : (z : Bool) → take (position_or_len (λ b. eqb b 0) w) w ≡ type_text w
        → take (cond (not z) (1 + position_or_len (λ b. eqb b 0) w) 0) (b ∷ w) ≡ cond z [] (b ∷ type_text w)
    go true e = refl
    go false e = rw one (ap (λ t. b ∷ t) e)

abbrev pub printable : ℕ → Bool
printable b = leb 33 b && leb b 126

abbrev pub is_zero : ℕ → Bool
is_zero b = eqb b 0

zeros_is : (w : List ℕ) → list_all is_zero w ≡ zeros w
unfolding zeros
zeros_is [] = refl
zeros_is (b ∷ w) = ap (λ t. eqb b 0 && t) (zeros_is w)

printed : (b : ℕ) → eqb b 0 ≡ true → printable b ≡ false
printed b e = rw (eqb-true b 0 e)

pub rest_is : (w : List ℕ) → (list_all printable (type_text w) && list_all is_zero (drop (length (type_text w)) w)) ≡ text_rest w
unfolding type_text text_rest zeros
rest_is [] = refl
rest_is (b ∷ w) = go (eqb b 0) refl (printable b) refl (rest_is w)
  where
    go : (z : Bool) → eqb b 0 ≡ z → (p : Bool) → printable b ≡ p → (list_all printable (type_text w) && list_all is_zero (drop (length (type_text w)) w)) ≡ text_rest w
        → (list_all printable (cond (eqb b 0) [] (b ∷ type_text w)) && list_all is_zero (drop (length (cond (eqb b 0) [] (b ∷ type_text w))) (b ∷ w))) ≡ cond (printable b) (text_rest w) (eqb b 0 && zeros w)
    go true ez p ep e = rw (ez, printed b ez, zeros_is w, ez)
    go false ez true ep e = rw (ez, ep) e
    go false ez false ep e = rw (ez, ep)

-- printable bytes, then zeros
pub good_text_is : (w : List ℕ) → (some (type_text w) && list_all printable (type_text w) && list_all is_zero (drop (length (type_text w)) w)) ≡ good_type_text w
unfolding good_type_text type_text text_rest
good_text_is [] = refl
good_text_is (b ∷ w) = go (eqb b 0) refl (printable b) refl (rest_is w)
  where
    go : (z : Bool) → eqb b 0 ≡ z → (p : Bool) → printable b ≡ p → (list_all printable (type_text w) && list_all is_zero (drop (length (type_text w)) w)) ≡ text_rest w
        → (some (cond (eqb b 0) [] (b ∷ type_text w)) && list_all printable (cond (eqb b 0) [] (b ∷ type_text w)) && list_all is_zero (drop (length (cond (eqb b 0) [] (b ∷ type_text w))) (b ∷ w)))
        ≡ (printable b && text_rest w)
    go true ez p ep e = rw (ez, printed b ez)
    go false ez true ep e = rw (ez, ep) e
    go false ez false ep e = rw (ez, ep)

pub some_is : (t : List ℕ) → not (eqb (length t) 0) ≡ some t
some_is [] = refl
some_is (b ∷ t) = rw (ne_eqb (suc (length t)) 0 (λ z. omega (arith, z)))

-- what `position` answers, or the end where it finds none
pub position_or_end : {X : Type 0} (p : X → Bool) (xs : List X) (r : Option ℕ) → r ≡ cond (ltb (position_or_len p xs) (length xs)) (Some (position_or_len p xs)) None
    → unwrap_or r (length xs) ≡ position_or_len p xs
position_or_end {X} p xs r e = rw e (go (position_or_len p xs) (prefix_len-le-length (λ x. not (p x)) xs))
  where
    go : (k : ℕ) → k ≤ length xs → unwrap_or (cond (ltb k (length xs)) (Some k) None) (length xs) ≡ k
    go k h = branch (ltb k (length xs)) refl
      where
        branch : (b : Bool) → ltb k (length xs) ≡ b → unwrap_or (cond b (Some k) None) (length xs) ≡ k
        branch true x = refl
        branch false x = let y : length xs ≤ k = ltb-false k (length xs) x in omega (arith, y, h)

-- a text that is the record's has the record's bytes, and a zero or the end behind them
same_head : (a b : ℕ) (w x : List ℕ) → same (type_text (a ∷ w)) (b ∷ x) ≡ true → a ≡ b
unfolding type_text same
same_head a b w x e = go (eqb a 0) e
  where
    go : (z : Bool) → same (cond z [] (a ∷ type_text w)) (b ∷ x) ≡ true → a ≡ b
    go true e = absurd (true≢false (sym e))
    go false e = eqb-true a b (and_left (eqb a b) (same (type_text w) x) e)

same_tail : (a b : ℕ) (w x : List ℕ) → same (type_text (a ∷ w)) (b ∷ x) ≡ true → same (type_text w) x ≡ true
unfolding type_text same
same_tail a b w x e = go (eqb a 0) e
  where
    go : (z : Bool) → same (cond z [] (a ∷ type_text w)) (b ∷ x) ≡ true → same (type_text w) x ≡ true
    go true e = absurd (true≢false (sym e))
    go false e = and_right (eqb a b) (same (type_text w) x) e

first_agrees : (w x : List ℕ) → same (type_text w) x ≡ true → get_or w 0 0 ≡ get_or x 0 0
unfolding type_text same
first_agrees [] [] e = refl
first_agrees [] (b ∷ x) e = absurd (true≢false (sym e))
first_agrees (a ∷ w) [] e = go (eqb a 0) refl e
  where
    go : (z : Bool) → eqb a 0 ≡ z → same (cond z [] (a ∷ type_text w)) [] ≡ true → a ≡ 0
    go true q e = eqb-true a 0 q
    go false q e = absurd (true≢false (sym e))
first_agrees (a ∷ w) (b ∷ x) e = same_head a b w x e

pair_agrees : (w x : List ℕ) → same (type_text w) x ≡ true → 1 ≤ length x → le16 w ≡ le16 x
unfolding type_text same
pair_agrees w [] e h = omega (arith, h)
pair_agrees [] (b ∷ x) e h = absurd (true≢false (sym e))
pair_agrees (a ∷ w) (b ∷ x) e h = rw (same_head a b w x e, first_agrees w x (same_tail a b w x e)) refl

next_agrees : (w x : List ℕ) → same (type_text w) x ≡ true → 3 ≤ length x → le16 (drop 2 w) ≡ le16 (drop 2 x)
unfolding type_text same
next_agrees w [] e h = omega (arith, h)
next_agrees w (b ∷ []) e h = omega (arith, h)
next_agrees [] (b ∷ c ∷ x) e h = absurd (true≢false (sym e))
next_agrees (a ∷ []) (b ∷ c ∷ x) e h = absurd (true≢false (sym (same_tail a b [] (c ∷ x) e)))
next_agrees (a ∷ d ∷ w) (b ∷ c ∷ x) e h = pair_agrees w x (same_tail d c w x (same_tail a b (d ∷ w) (c ∷ x) e)) (omega (arith, h))

four_first : (s : List ℕ) → le16 (take 4 s) ≡ le16 s
four_first [] = refl
four_first (a ∷ []) = refl
four_first (a ∷ b ∷ s) = refl

four_next : (s : List ℕ) → le16 (drop 2 (take 4 s)) ≡ le16 (drop 2 s)
four_next [] = refl
four_next (a ∷ []) = refl
four_next (a ∷ b ∷ s) = two s
  where
    two : (s : List ℕ) → le16 (take 2 s) ≡ le16 s
    two [] = refl
    two (a ∷ []) = refl
    two (a ∷ b ∷ s) = refl

module _ (s x : List ℕ) (e : same (type_text (take 4 (drop 4 s))) x ≡ true) where
  pub tag_agrees : 1 ≤ length x → le16 (drop 4 s) ≡ le16 x
  tag_agrees h = sym (four_first (drop 4 s)) ∙ pair_agrees (take 4 (drop 4 s)) x e h

  pub type_agrees : 3 ≤ length x → le16 (drop 6 s) ≡ le16 (drop 2 x)
  type_agrees h = rw drop-drop at (sym (four_next (drop 4 s)) ∙ next_agrees (take 4 (drop 4 s)) x e h)
