-- The tag at the head: the digits in front, where they end at a `=`. And the value behind it, up to `|`. Assumes nothing.
use mathlib.Core.Path.{◌≡◌, refl, sym, ap, ◌∙◌}
use mathlib.Core.Bool.{Bool, true, false, cond, ◌&&◌, not, and-false}
use mathlib.Core.List.{List, [], ◌∷◌}
use Prim.Native.Nat.{ℕ, suc, ◌+◌, ◌<◌, min}
use native.Mathlib.Omega.{arith}
use lib.Dec.{eqb, ltb, leb}
use lib.ListN.{length, drop, get_or, get_or-eq_default}
use borrow.Author.Tests.{ltb-true, ltb-false, leb-true, eqb-true, lt-ltb, ne_eqb}
use Rattle.numbers.specs.Decimal.{digit, digits, value, tag_form}
use Rattle.numbers.specs.Scan.{leading_digits}
use Rattle.numbers.proofs.Tests.{clash, to_false, and_left, and_right}
use Rattle.numbers.proofs.Shortest.{render_of}
use Rattle.message.specs.Rows.{lead}
use Rattle.reader.specs.Fields.{Cut, uncut, cut_at, grow, cut, torn, tag_in}

-- a cut with digits in front, one with a tag in front, or none
abbrev tidy_by : (List ℕ → Bool) → Cut → Cut
tidy_by good uncut = uncut
tidy_by good (cut_at d r) = cond (good d) (cut_at d r) uncut

grow_not : (b : ℕ) (c : Cut) → digit b ≡ false → tidy_by digits (grow b c) ≡ uncut
unfolding grow digits
grow_not b uncut e = refl
grow_not b (cut_at d r) e = rw e

grow_on : (b : ℕ) (c : Cut) → digit b ≡ true → tidy_by digits (grow b c) ≡ grow b (tidy_by digits c)
unfolding grow digits
grow_on b uncut e = refl
grow_on b (cut_at d r) e = rw e (go (digits d))
  where
    go : (t : Bool) → cond t (cut_at (b ∷ d) r) uncut ≡ grow b (cond t (cut_at d r) uncut)
    go true = refl
    go false = refl

grow_cond : (b : ℕ) (t : Bool) (d r : List ℕ) → grow b (cond t (cut_at d r) uncut) ≡ cond t (cut_at (b ∷ d) r) uncut
unfolding grow
grow_cond b true d r = refl
grow_cond b false d r = refl

digit_other : (b : ℕ) → digit b ≡ true → eqb b 61 ≡ false
digit_other b e = let h = leb-true b 57 (and_right (leb 48 b) _ e) in ne_eqb b 61 (omega arith)

digits_cut : (s : List ℕ)
    → tidy_by digits (cut 61 s)
    ≡ cond (eqb (get_or s (length (leading_digits s)) 0) 61) (cut_at (leading_digits s) (drop (suc (length (leading_digits s))) s)) uncut
unfolding cut leading_digits digits
digits_cut [] = refl
digits_cut (b ∷ s) = go (digit b) refl (eqb b 61) refl (digits_cut s)
  where
    go : (t : Bool) → digit b ≡ t → (u : Bool) → eqb b 61 ≡ u
        → tidy_by digits (cut 61 s) ≡ cond (eqb (get_or s (length (leading_digits s)) 0) 61) (cut_at (leading_digits s) (drop (suc (length (leading_digits s))) s)) uncut
        → tidy_by digits (cut 61 (b ∷ s))
        ≡ cond (eqb (get_or (b ∷ s) (length (leading_digits (b ∷ s))) 0) 61) (cut_at (leading_digits (b ∷ s)) (drop (suc (length (leading_digits (b ∷ s)))) (b ∷ s))) uncut
    go true e u q ih =
        rw (e, digit_other b e)
        (grow_on b (cut 61 s) e ∙ ap (grow b) ih ∙ grow_cond b (eqb (get_or s (length (leading_digits s)) 0) 61) (leading_digits s) (drop (suc (length (leading_digits s))) s))
    go false e true q ih = rw (e, q)
    go false e false q ih = rw (e, q) (grow_not b (cut 61 s) e)

leading_digits_lem : (s : List ℕ) → digits (leading_digits s) ≡ true
unfolding digits leading_digits
leading_digits_lem [] = refl
leading_digits_lem (b ∷ s) = go (digit b) refl (leading_digits_lem s)
  where
    go : (t : Bool) → digit b ≡ t → digits (leading_digits s) ≡ true → digits (cond (digit b) (b ∷ leading_digits s) []) ≡ true
    go true e ih = rw (e, e, ih)
    go false e ih = rw e

leading_form : (s : List ℕ) → tag_form (leading_digits s) ≡ (not (eqb (get_or s 0 0) 48) && ltb 0 (length (leading_digits s)))
unfolding leading_digits
leading_form [] = refl
leading_form (b ∷ s) = go (digit b) refl
  where
    go : (t : Bool) → digit b ≡ t
        → tag_form (cond (digit b) (b ∷ leading_digits s) []) ≡ (not (eqb b 48) && ltb 0 (length (cond (digit b) (b ∷ leading_digits s) [])))
    go true e = let h : ltb 0 (suc (length (leading_digits s))) ≡ true = lt-ltb 0 (suc (length (leading_digits s))) (omega arith) in rw (e, e, leading_digits_lem s, h)
    go false e = rw e (sym (and-false (not (eqb b 48))))

-- a tag of good form stands at the head
abbrev pub has_tag_head : List ℕ → Bool
has_tag_head s = not (eqb (get_or s 0 0) 48) && ltb 0 (length (leading_digits s)) && eqb (get_or s (length (leading_digits s)) 0) 61

form_digits : (d : List ℕ) → tag_form d ≡ true → digits d ≡ true
unfolding digits
form_digits [] e = refl
form_digits (b ∷ d) e = rw (and_left (digit b) _ (and_left (digit b && not (eqb b 48)) _ e), and_right (digit b && not (eqb b 48)) _ e)

tidy_tidy : (c : Cut) → tidy_by tag_form c ≡ tidy_by tag_form (tidy_by digits c)
tidy_tidy uncut = refl
tidy_tidy (cut_at d r) = go (digits d) refl
  where
    go : (t : Bool) → digits d ≡ t → cond (tag_form d) (cut_at d r) uncut ≡ tidy_by tag_form (cond (digits d) (cut_at d r) uncut)
    go true e = rw e
    go false e = rw (e, to_false (tag_form d) (λ f. clash (digits d) (form_digits d f) e))

tidy_cond : (a t : Bool) (d r : List ℕ) → tag_form d ≡ a → tidy_by tag_form (cond t (cut_at d r) uncut) ≡ cond (a && t) (cut_at d r) uncut
tidy_cond true true d r e = rw e
tidy_cond true false d r e = refl
tidy_cond false true d r e = rw e
tidy_cond false false d r e = refl

tidy_cut : (s : List ℕ) → tidy_by tag_form (cut 61 s) ≡ cond (has_tag_head s) (cut_at (leading_digits s) (drop (suc (length (leading_digits s))) s)) uncut
tidy_cut s =
    tidy_tidy (cut 61 s)
    ∙ ap (tidy_by tag_form) (digits_cut s)
    ∙ tidy_cond (not (eqb (get_or s 0 0) 48) && ltb 0 (length (leading_digits s))) (eqb (get_or s (length (leading_digits s)) 0) 61) (leading_digits s) (drop (suc (length (leading_digits s))) s) (leading_form s)

tag_tidy : (c : Cut) → tag_in c ≡ tag_in (tidy_by tag_form c)
tag_tidy uncut = refl
tag_tidy (cut_at d r) = go (tag_form d) refl
  where
    go : (t : Bool) → tag_form d ≡ t → cond (tag_form d) (min (value d) 65536) torn ≡ tag_in (cond (tag_form d) (cut_at d r) uncut)
    go true e = rw (e, e)
    go false e = rw e

pub tag_good : (s : List ℕ) (v : ℕ) → has_tag_head s ≡ true → v ≡ min (value (leading_digits s)) 65536 → v ≡ tag_in (cut 61 s)
tag_good s v h e =
    let f : tag_form (leading_digits s) ≡ true = leading_form s ∙ and_left (not (eqb (get_or s 0 0) 48) && ltb 0 (length (leading_digits s))) _ h in
    sym (tag_tidy (cut 61 s) ∙ rw (tidy_cut s, h, f) (sym e))

pub tag_torn : (s : List ℕ) → has_tag_head s ≡ false → torn ≡ tag_in (cut 61 s)
tag_torn s h = sym (tag_tidy (cut 61 s) ∙ rw (tidy_cut s, h))

-- the head is a tag
pub record Head (s : List ℕ) : Type 0 where
  pub cuts : cut 61 s ≡ cut_at (leading_digits s) (drop (suc (length (leading_digits s))) s)
  pub form : tag_form (leading_digits s) ≡ true
  pub inside : length (leading_digits s) < length s

untidy : (c : Cut) (d r : List ℕ) → tidy_by tag_form c ≡ cut_at d r → c ≡ cut_at d r
untidy uncut d r e = e
untidy (cut_at x y) d r e = go (tag_form x) refl
  where
    go : (t : Bool) → tag_form x ≡ t → cut_at x y ≡ cut_at d r
    go true f = rw f at e
    go false f = let h : uncut ≡ cut_at d r = rw f at e in let z : ◌≡◌ {A = ℕ} 0 1 = cc in absurd (omega arith)

pub head_of : (s : List ℕ) (v : ℕ) → v ≡ tag_in (cut 61 s) → (v ≡ 65537 → ⊥) → Head s
head_of s v e n = go (has_tag_head s) refl
  where
    within : (t : Bool) → ltb (length (leading_digits s)) (length s) ≡ t → eqb (get_or s (length (leading_digits s)) 0) 61 ≡ true → length (leading_digits s) < length s
    within true l q = ltb-true _ _ l
    within false l q =
        let z : get_or s (length (leading_digits s)) 0 ≡ 0 = get_or-eq_default s 0 (ltb-false _ _ l) in
        let y : get_or s (length (leading_digits s)) 0 ≡ 61 = eqb-true _ _ q in
        absurd (omega arith)

    go : (t : Bool) → has_tag_head s ≡ t → Head s
    go true h = record {
      cuts = untidy (cut 61 s) _ _ (tidy_cut s ∙ rw h);
      form = leading_form s ∙ and_left (not (eqb (get_or s 0 0) 48) && ltb 0 (length (leading_digits s))) _ h;
      inside = within (ltb (length (leading_digits s)) (length s)) refl (and_right (not (eqb (get_or s 0 0) 48) && ltb 0 (length (leading_digits s))) _ h);
    }
    go false h = absurd (n (e ∙ sym (tag_torn s h)))

pub head_tag : (s : List ℕ) → Head s → tag_in (cut 61 s) ≡ min (value (leading_digits s)) 65536
head_tag s h = rw (h.cuts, h.form)

pub head_lead : (s : List ℕ) → Head s → lead (value (leading_digits s)) ≡ length (leading_digits s) + 1
unfolding lead
head_lead s h = rw (render_of (leading_digits s) h.form)
