-- Laws of a cut at a byte, and of a field cut off: which bytes they were made of, and where in the message its parts stand. Assumes nothing.
use mathlib.Core.Path.{◌≡◌, refl, sym, ap, ◌∙◌}
use mathlib.Core.Bool.{Bool, true, false, cond, ◌&&◌}
use mathlib.Core.List.{List, [], ◌∷◌, ◌++◌}
use Prim.Native.Nat.{ℕ, suc, ◌+◌, ◌-◌, ◌≤◌, ◌<◌}
use native.Mathlib.Omega.{arith}
use native.Mathlib.Numerals.{add-one}
use borrow.Author.Tests.{lt-ltb, eqb-true}
use lib.Dec.{eqb, ltb, leb-suc-suc}
use lib.ListN.{length, take, drop, length-drop, length-append}
use lib.Seq.{drop-drop, take_at, take-length}
use Rattle.std.proofs.lemmas.Option.{same_Some}
use Rattle.std.proofs.lemmas.List.{drop_at}
use Rattle.std.specs.Prelude.{Option, Some, None}
use Rattle.std.specs.List.{position_or_len}
use Rattle.std.specs.Cmp.Lexicographic.{pointwise}
use Rattle.reader.specs.Fields.{Cut, uncut, cut_at, grow, cut}
use Rattle.reader.specs.Frame.{field}
use Rattle.reader.specs.Answers.{value_in}

-- the count of the bytes before the first c
abbrev pub ahead : ℕ → List ℕ → ℕ
ahead c s = position_or_len (λ b. eqb b c) s

grow_cond : (b : ℕ) (t : Bool) (d r : List ℕ) → grow b (cond t (cut_at d r) uncut) ≡ cond t (cut_at (b ∷ d) r) uncut
unfolding grow
grow_cond b true d r = refl
grow_cond b false d r = refl

pub cut_is : (c : ℕ) (s : List ℕ) → cut c s ≡ cond (ltb (ahead c s) (length s)) (cut_at (take (ahead c s) s) (drop (suc (ahead c s)) s)) uncut
unfolding cut
cut_is c [] = refl
cut_is c (b ∷ s) = go (eqb b c) refl (cut_is c s)
  where
    go : (t : Bool) → eqb b c ≡ t → cut c s ≡ cond (ltb (ahead c s) (length s)) (cut_at (take (ahead c s) s) (drop (suc (ahead c s)) s)) uncut
        → cut c (b ∷ s) ≡ cond (ltb (ahead c (b ∷ s)) (length (b ∷ s))) (cut_at (take (ahead c (b ∷ s)) (b ∷ s)) (drop (suc (ahead c (b ∷ s))) (b ∷ s))) uncut
    go true e ih = let h : ltb 0 (suc (length s)) ≡ true = lt-ltb 0 (suc (length s)) (omega arith) in rw (e, h)
    go false e ih =
        let k : 1 + ahead c s ≡ suc (ahead c s) = omega arith in
        let h : ltb (suc (ahead c s)) (suc (length s)) ≡ ltb (ahead c s) (length s) = leb-suc-suc (suc (ahead c s)) (length s) in
        rw (e, k, h, ih) (grow_cond b (ltb (ahead c s) (length s)) (take (ahead c s) s) (drop (suc (ahead c s)) s))

-- a field is its beginning, and a cut behind it
pub field_is : (p s : List ℕ) → field p s ≡ cond (pointwise eqb (take (length p) s) p) (cut 1 (drop (length p) s)) uncut
unfolding field
field_is [] s = refl
field_is (a ∷ p) [] = refl
field_is (a ∷ p) (b ∷ s) = go (eqb b a) refl (field_is p s)
  where
    go : (t : Bool) → eqb b a ≡ t → field p s ≡ cond (pointwise eqb (take (length p) s) p) (cut 1 (drop (length p) s)) uncut
        → cond (eqb b a) (field p s) uncut ≡ cond (eqb b a && pointwise eqb (take (length p) s) p) (cut 1 (drop (length p) s)) uncut
    go true e ih = rw e ih
    go false e ih = rw e

-- what a cut was made of
abbrev pub rejoin : List ℕ → ℕ → List ℕ → Cut → List ℕ
rejoin p c s uncut = s
rejoin p c s (cut_at v r) = p ++ (v ++ (c ∷ r))

cut_whole : (c : ℕ) (s : List ℕ) → rejoin [] c s (cut c s) ≡ s
unfolding cut grow
cut_whole c [] = refl
cut_whole c (b ∷ s) = go (eqb b c) refl (cut c s) (cut_whole c s)
  where
    go : (t : Bool) → eqb b c ≡ t → (k : Cut) → rejoin [] c s k ≡ s → rejoin [] c (b ∷ s) (cond (eqb b c) (cut_at [] s) (grow b k)) ≡ b ∷ s
    go true e k ih = rw e (ap (λ x. x ∷ s) (sym (eqb-true b c e)))
    go false e uncut ih = rw e
    go false e (cut_at v r) ih = rw e (ap (λ l. b ∷ l) ih)

field_whole : (p s : List ℕ) → rejoin p 1 s (field p s) ≡ s
unfolding field
field_whole [] s = cut_whole 1 s
field_whole (a ∷ p) [] = refl
field_whole (a ∷ p) (b ∷ s) = go (eqb b a) refl (field p s) (field_whole p s)
  where
    go : (t : Bool) → eqb b a ≡ t → (k : Cut) → rejoin p 1 s k ≡ s → rejoin (a ∷ p) 1 (b ∷ s) (cond (eqb b a) k uncut) ≡ b ∷ s
    go true e uncut ih = rw e
    go true e (cut_at v r) ih = rw e (ap (λ l. a ∷ l) ih ∙ ap (λ x. x ∷ s) (sym (eqb-true b a e)))
    go false e k ih = rw e

pub field_parts : (p s v r : List ℕ) → field p s ≡ cut_at v r → p ++ (v ++ (1 ∷ r)) ≡ s
field_parts p s v r e = rw e at (field_whole p s)

pub cut_parts : (s v r : List ℕ) → cut 1 s ≡ cut_at v r → v ++ (1 ∷ r) ≡ s
cut_parts s v r e = rw e at (cut_whole 1 s)

-- where a value from a place on ends, by what is left behind it
pub record Left (s : List ℕ) (from : ℕ) (v r : List ℕ) : Type 0 where
  pub value : value_in s from (length s - length r) ≡ v
  pub rest : drop (length s - length r) s ≡ r
  pub past : from < length s - length r
  pub inside : length r ≤ length s

-- of the bytes t from a place on
pub field_left : (s t p v r : List ℕ) (at : ℕ) → t ≡ drop at s → at ≤ length s → p ++ (v ++ (1 ∷ r)) ≡ t → Left s (at + length p) v r
field_left s t p v r at et i w =
    let l : length p + (length v + suc (length r)) ≡ length t = sym (length-append p (v ++ (1 ∷ r)) ∙ ap (λ n. length p + n) (length-append v (1 ∷ r))) ∙ ap length w in
    let k : length t ≡ length s - at = ap length et ∙ length-drop at s in
    let e : length s - length r ≡ at + length p + (length v + 1) = omega (arith, l, k, i) in
    let n : length s - length r - 1 - (at + length p) ≡ length v = omega (arith, e) in
    let d : drop (at + length p) s ≡ v ++ (1 ∷ r) = sym (drop-drop (length p) at s) ∙ ap (drop (length p)) (sym et ∙ sym w) ∙ drop_at p (v ++ (1 ∷ r)) (length p) refl in
    record {
      value = rw (n, d) (take_at v (1 ∷ r) (length v) refl);
      rest =
          rw e (sym (drop-drop (length v + 1) (at + length p) s) ∙ ap (drop (length v + 1)) d ∙ sym (drop-drop 1 (length v) (v ++ (1 ∷ r))) ∙ ap (drop 1) (drop_at v (1 ∷ r) (length v) refl));
      past = omega (arith, e);
      inside = omega (arith, l, k);
    }

-- what stands from a place on, as `&s[i..]` says it
pub take_rest : (s : List ℕ) (i : ℕ) → take (length s - i) (drop i s) ≡ drop i s
take_rest s i = rw (← length-drop i s) (take-length (drop i s))

-- what `position` says of the first c
module _ (s : List ℕ) (o : Option ℕ) (eo : o ≡ cond (ltb (ahead 1 s) (length s)) (Some (ahead 1 s)) None) where
  pub cut_none : o ≡ None → uncut ≡ cut 1 s
  cut_none n = sym (cut_is 1 s ∙ go (ltb (ahead 1 s) (length s)) (sym eo ∙ n))
    where
      go : (t : Bool) → cond t (Some (ahead 1 s)) None ≡ None → cond t (cut_at (take (ahead 1 s) s) (drop (suc (ahead 1 s)) s)) uncut ≡ uncut
      go true e = cc
      go false e = refl

  pub cut_some : (e : ℕ) → o ≡ Some e → cut_at (take e s) (take (length s - (e + 1)) (drop (e + 1) s)) ≡ cut 1 s
  cut_some e n = sym (cut_is 1 s ∙ go (ltb (ahead 1 s) (length s)) (sym eo ∙ n))
    where
      rest : take (length s - (e + 1)) (drop (e + 1) s) ≡ drop (suc e) s
      rest = take_rest s (e + 1) ∙ rw add-one

      go : (t : Bool) → cond t (Some (ahead 1 s)) None ≡ Some e
          → cond t (cut_at (take (ahead 1 s) s) (drop (suc (ahead 1 s)) s)) uncut ≡ cut_at (take e s) (take (length s - (e + 1)) (drop (e + 1) s))
      go true q = let k : ahead 1 s ≡ e = same_Some _ _ q in rw (k, rest)
      go false q = cc
