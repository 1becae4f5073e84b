-- Laws of looking for a record. Assumes nothing.
use mathlib.Core.Path.{◌≡◌, refl, sym, ap, ◌∙◌}
use mathlib.Core.Bool.{Bool, true, false, cond, ◌&&◌, not}
use mathlib.Core.List.{List, [], ◌∷◌}
use Prim.Native.Nat.{ℕ, zero, suc, ◌+◌, ◌-◌, ◌≤◌, ◌<◌}
use native.Mathlib.Omega.{arith}
use lib.ListN.{length, take, drop, length-drop}
use lib.Seq.{drop-drop}
use borrow.Author.Tests.{eq-eqb, ne_eqb, eqb-true, eqb-false, le-leb, lt-leb, not-true}
use lib.Dec.{eqb, leb}
use Rattle.std.specs.Prelude.{Option, Some, None}
use Rattle.std.specs.Option.{option_map}
use Rattle.std.specs.List.{find}
use Rattle.numbers.specs.Bytes.{le16}
use Rattle.numbers.proofs.Parts.{rest}
use Rattle.numbers.proofs.Tests.{and_left, and_right}
use Rattle.book.specs.Records.{size, walk_from, walk, Record, record_at, records, LookUp, nothing, found, look_up, is_message, kind_of}
use Rattle.book.specs.declared.records.Record as Code
use Rattle.book.specs.Walked.{record_in, records_at}
use Rattle.book.specs.Answers.{look_of, found_in}
use Rattle.book.proofs.Walk.{walk_law, size_fits, whole}

pub next_fits : (s : List ℕ) (n : ℕ) → size s ≡ n → n ≤ length s
next_fits s n e = omega (arith, e, size_fits s)

module _ (at : ℕ) (s : List ℕ) where
  pub no_record : size s ≡ 0 → records_at at s ≡ []
  no_record z = walk_law (λ at. []) (λ at r rs. record_at at r ∷ rs) at s ∙ rw z

  pub next_record : (n : ℕ) → size s ≡ n → 2 ≤ n → records_at at s ≡ record_at at s ∷ records_at (at + n) (take (length s - n) (drop n s))
  next_record n e h =
      walk_law (λ at. []) (λ at r rs. record_at at r ∷ rs) at s
      ∙ rw (e, ne_eqb n 0 (λ z. omega (arith, z, h)), rest s n)

-- a record takes ten bytes
ten_length : (s : List ℕ) → size s ≡ 10 → le16 s ≡ 8
ten_length s e = let w = whole s (λ z. omega (arith, z, e)) in omega (arith, e, w.is)

length_ten : (s : List ℕ) → 10 ≤ length s → le16 s ≡ 8 → size s ≡ 10
unfolding size
length_ten s h e = rw (e, le-leb 2 (length s) (omega (arith, h)), le-leb 10 (length s) h)

pub too_short : (s : List ℕ) → length s < 10 → leb 10 (length s) ≡ eqb (size s) 10
too_short s h = rw (lt-leb 10 (length s) h, ne_eqb (size s) 10 (λ z. omega (arith, z, h, size_fits s)))

pub takes_ten : (s : List ℕ) → 10 ≤ length s → eqb (le16 s) 8 ≡ eqb (size s) 10
takes_ten s h = go (eqb (le16 s) 8) refl
  where
    go : (t : Bool) → eqb (le16 s) 8 ≡ t → t ≡ eqb (size s) 10
    go true e = sym (eq-eqb (size s) 10 (length_ten s h (eqb-true (le16 s) 8 e)))
    go false e = sym (ne_eqb (size s) 10 (λ z. eqb-false (le16 s) 8 e (ten_length s z)))

-- such a record is no message
short_kind : (k : ℕ) → eqb (kind_of 8 k) 2 ≡ false
unfolding kind_of
short_kind k = go (eqb k 1) (eqb k 2) (eqb k 3)
  where
    go : (a b c : Bool) → eqb (cond (a && true) 1 (cond (b && true && false) 2 (cond (c && true && true) 3 0))) 2 ≡ false
    go true b c = refl
    go false true true = refl
    go false true false = refl
    go false false true = refl
    go false false false = refl

no_message : (x : List ℕ) (at : ℕ) (s : List ℕ) → size s ≡ 10 → is_message x (record_at at s) ≡ false
unfolding record_at
no_message x at s e = rw (ten_length s e, short_kind (le16 (drop 2 s))) refl

-- it is passed where the test does not hold
passed : (p : Record → Bool) (at : ℕ) (s : List ℕ) → size s ≡ 10 → p (record_at at s) ≡ false
    → look_up p (records_at at s) ≡ look_up p (records_at (at + 10) (take (length s - 10) (drop 10 s)))
unfolding look_up
passed p at s e q = rw (next_record at s 10 e (omega arith), q)

-- the part of a book from a place on: of a kind and tag the same is found there as in all of the book, and the same messages are
pub record Passed (p : Record → Bool) (b : List ℕ) (at : ℕ) (s : List ℕ) : Type 0 where
  pub inside : at + length s ≡ length b
  pub part : s ≡ drop at b
  pub same : look_up p (records_at at s) ≡ look_up p (records b)
  pub messages : (x : List ℕ) → look_up (is_message x) (records_at at s) ≡ look_up (is_message x) (records b)

module _ (p : Record → Bool) (b : List ℕ) where
  pub passed_none : Passed p b 0 b
  unfolding records
  passed_none = record { inside = omega arith; part = refl; same = refl; messages = λ x. refl }

  passed_more : (at : ℕ) (s : List ℕ) → Passed p b at s → (eqb (size s) 10 && not (p (record_at at s))) ≡ true → Passed p b (at + 10) (take (length s - 10) (drop 10 s))
  passed_more at s known q =
      let ten = eqb-true (size s) 10 (and_left (eqb (size s) 10) (not (p (record_at at s))) q) in
      let other = not-true (p (record_at at s)) (and_right (eqb (size s) 10) (not (p (record_at at s))) q) in
      record {
        inside = rw (rest s 10, length-drop) (omega (arith, known.inside, next_fits s 10 ten));
        part = rest s 10 ∙ rw known.part (rw drop-drop refl);
        same = sym (passed p at s ten other) ∙ known.same;
        messages = λ x. sym (passed (is_message x) at s ten (no_message x at s ten)) ∙ known.messages x;
      }

  -- two records
  pub passed_two : (at : ℕ) (s : List ℕ) → Passed p b at s → (eqb (size s) 10 && not (p (record_at at s))) ≡ true
      → (eqb (size (take (length s - 10) (drop 10 s))) 10 && not (p (record_at (at + 10) (take (length s - 10) (drop 10 s))))) ≡ true
      → Passed p b (at + 20) (take (length s - 20) (drop 20 s))
  passed_two at s known q q' =
      let two = passed_more (at + 10) (take (length s - 10) (drop 10 s)) (passed_more at s known q) q' in
      let e : at + 10 + 10 ≡ at + 20 = omega arith in
      let f : take (length (take (length s - 10) (drop 10 s)) - 10) (drop 10 (take (length s - 10) (drop 10 s))) ≡ take (length s - 20) (drop 20 s) =
      rw (rest s 10, rest (drop 10 s) 10, drop-drop, rest s 20) refl in
      rw (e, f) at two

-- what `find` answers
pub found_is : (p : Record → Bool) (B : List Record) (r : Option Code.Record) → option_map record_in r ≡ find p B → look_of r ≡ look_up p B
unfolding look_up
found_is p B r e = told r ∙ ap looked e ∙ go B
  where
    looked : Option Record → LookUp
    looked None = nothing
    looked (Some r) = found r

    told : (r : Option Code.Record) → look_of r ≡ looked (option_map record_in r)
    told None = refl
    told (Some r) = refl

    turn : (t : Bool) (r : Record) (B : List Record) → looked (find p B) ≡ look_up p B → looked (cond t (Some r) (find p B)) ≡ cond t (found r) (look_up p B)
    turn true r B e = refl
    turn false r B e = e

    go : (B : List Record) → looked (find p B) ≡ look_up p B
    go [] = refl
    go (r ∷ B) = turn (p r) r B (go B)

-- what is looked up among the records is a record at its offset of the book
placed : (p : Record → Bool) (b : List ℕ) (f at : ℕ) (x : Record)
    → look_up p (walk_from (λ at. []) (λ at r rs. record_at at r ∷ rs) f at (drop at b)) ≡ found x → x ≡ record_at x.offset (drop x.offset b)
unfolding walk_from look_up record_at
placed p b zero at x e = cc
placed p b (suc f) at x e = go (placed p b f (at + size (drop at b)) x) (eqb (size (drop at b)) 0) refl
  where
    Later : Type 0
    Later = look_up p (walk_from (λ at. []) (λ at r rs. record_at at r ∷ rs) f (at + size (drop at b)) (drop (at + size (drop at b)) b)) ≡ found x
        → x ≡ record_at x.offset (drop x.offset b)

    here : Later → (t : Bool) → p (record_at at (drop at b)) ≡ t → eqb (size (drop at b)) 0 ≡ false → x ≡ record_at x.offset (drop x.offset b)
    here later true h z = let k = rw (z, h) at e in let q : record_at at (drop at b) ≡ x = cc in rw (← q) refl
    here later false h z = later (let k = rw (z, h) at e in rw drop-drop at k)

    go : Later → (t : Bool) → eqb (size (drop at b)) 0 ≡ t → x ≡ record_at x.offset (drop x.offset b)
    go later true z = let k = rw z at e in cc
    go later false z = here later (p (record_at at (drop at b))) refl z

pub found_there : (p : Record → Bool) (b : List ℕ) (r : Option Code.Record) → look_of r ≡ look_up p (records b) → found_in b r ≡ look_up p (records b)
unfolding records walk record_at
found_there p b None e = e
found_there p b (Some r) e = ap found (sym (placed p b (length b) 0 (record_in r) (sym e))) ∙ e

pub found_at : (p : Record → Bool) (b : List ℕ) (x : Record) → look_up p (records b) ≡ found x → x ≡ record_at x.offset (drop x.offset b)
unfolding records walk
found_at p b x e = placed p b (length b) 0 x e

-- the test holds of what is found
pub look_holds : (p : Record → Bool) (B : List Record) (x : Record) → look_up p B ≡ found x → p x ≡ true
unfolding look_up
look_holds p [] x e = cc
look_holds p (r ∷ B) x e = go (p r) refl (look_holds p B x)
  where
    go : (t : Bool) → p r ≡ t → (look_up p B ≡ found x → p x ≡ true) → p x ≡ true
    go true h later = let k = rw h at e in let q : r ≡ x = cc in rw (← q) h
    go false h later = later (rw h at e)
