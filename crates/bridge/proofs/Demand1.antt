-- Demand 1 for the check and the reading: every input has an answer, and a refusal has its number, its place and its tag as document 01's
-- tables say. That there is an answer needs no theorem: `check`, `read_checked` and `read` are functions of any book, any message and any
-- room, with no requirement. Lent numbers stay on a refusal by the definition of `index_after`. Assumes nothing.
use mathlib.Core.Path.{◌≡◌, refl, sym, ap, ◌∙◌}
use mathlib.Core.Bool.{Bool, true, false, cond, ◌&&◌}
use mathlib.Core.List.{List, [], ◌∷◌, ◌++◌}
use mathlib.Core.Logic.{◌⊎◌, inl, inr, ⊎_elim}
use Prim.Native.Nat.{ℕ, ◌+◌, ◌-◌, ◌*◌, ◌≤◌}
use native.Mathlib.Omega.{arith}
use lib.Dec.{ltb, leb, eqb}
use lib.ListN.{length, length-append}
use borrow.Author.Tests.{ltb-true, leb-false, eqb-true}
use Rattle.numbers.specs.Decimal.{digits}
use Rattle.numbers.proofs.Tests.{and_left}
use Rattle.book.specs.Records.{Record, records, group_of}
use Rattle.book.specs.Check.{sound, broken, filled, rules_from, check, is_sound}
use Rattle.message.specs.Arrangement.{Piece, tag_of, Items, Arrangement, Page}
use Rattle.message.specs.Written.{put_field, put, put_all, header, type_field, trailer}
use Rattle.message.specs.Rows.{Row, width, rows_of}
use Rattle.reader.specs.Items.{Out, done, bad, late, read_items}
use Rattle.reader.specs.Frame.{Framed, framed, misframed, frame}
use Rattle.reader.specs.Reading.{Answer, gives, refused, on_answer, items_in, in_frame, arrangement_of, room_for, looked, read_checked, read, index_after}
use Rattle.reader.proofs.FillLaws.{arrangement_is, arrangement_long, checked_is, read_sound, read_unsound}
use Rattle.bridge.specs.Unsound.{StandsIn, Unsound, over, torn, rule}
use Rattle.bridge.specs.Refused.{Due, nothing, behind, put_due, Reaches, tags_onto, GroupLacks, OwnLacks, Lacks, Refusal, long, start, size, end, type, field, NoRoom, Missing, Complete, Part}
use Rattle.bridge.proofs.Sees.{put_size, field_size_lem}
use Rattle.bridge.proofs.Sound.{check_is}
use Rattle.bridge.proofs.Framing.{Fits, frame_true}
use Rattle.bridge.proofs.Places.{eight, nine}
use Rattle.bridge.proofs.Demand3.{verdict_sound}
use Rattle.bridge.proofs.Breaking.{Bad, Far, items_far}
use Rattle.bridge.proofs.MissingMember.{own_missing, group_missing}
use Rattle.bridge.proofs.Verdicts.{records_stand, and_then_broken, rules_broken, filled_broken, filled_whole, every_in}
use Rattle.bridge.proofs.BreakingFrame.{Misframed, at_3, at_4, at_end, at_7, Breaks, frame_breaks}

-- The check answers sound, or a rule and an offset: one of the lines of `Unsound` in specs/Unsound.
pub check_answer : (book : List ℕ) (n at : ℕ) → check book ≡ broken n at → Unsound book n at
check_answer book n at e =
    ⊎_elim (filled_broken book n at) later (and_then_broken (filled book) (rules_from 8 2 (records book)) n at (sym (check_is book) ∙ e))
  where
    later : (filled book ≡ sound) × (rules_from 8 2 (records book) ≡ broken n at) → Unsound book n at
    later w =
        let h = rules_broken 8 2 (records book) n at w.1 in
        let f = h.here in
        rule h.low (omega (arith, h.high)) (filled_whole book w.0) h.lower f.before f.after f.which f.is f.keep f.fails
        (every_in (StandsIn book) (records book) f.before f.after f.which f.is (records_stand book)) f.offset

-- In short: the rule is one of the nine, and the offset is in the book.
pub check_short : (book : List ℕ) (n at : ℕ) → check book ≡ broken n at → (1 ≤ n) × (n ≤ 9) × (at ≤ length book)
check_short book n at e = go (check_answer book n at e)
  where
    go : Unsound book n at → (1 ≤ n) × (n ≤ 9) × (at ≤ length book)
    go (over a b c) = ((omega arith), (omega arith), (omega arith))
    go (torn a b c d) = ((omega arith), (omega arith), (omega arith))
    go (rule a b w l x y r i k f g c) = ((omega arith), (omega arith), omega (arith, g.fits, c))

no_refusal : {X A : Type 0} (x : X) (n p t : ℕ) → gives x ≡ refused n p t → A
no_refusal x n p t e = let z : ◌≡◌ {A = ℕ} 0 1 = cc in absurd (omega arith)

refusal_parts : {X : Type 0} (n p t m q u : ℕ) → ◌≡◌ {A = Answer X} (refused n p t) (refused m q u) → (n ≡ m) × (p ≡ q) × (t ≡ u)
refusal_parts n p t m q u e = ((cc), (cc), (cc))

-- what is left is no longer than what there was
pieces_long : (l : List Piece) (r : List ℕ) → length r ≤ length (put_all put l r)
unfolding put_all
pieces_long [] r = omega arith
pieces_long (k ∷ l) r = omega (arith, put_size k (put_all put l r), pieces_long l r)

due_long : (d : Due) (r : List ℕ) → length r ≤ length (put_due d r)
due_long nothing r = omega arith
due_long (behind l w) r = omega (arith, field_size_lem l w r)

reach_long : (B : List Record) (s r : List ℕ) → Reaches B s r → length r ≤ length s
reach_long B s r h = rw h.is (omega (arith, pieces_long h.pieces (put_due h.due r), due_long h.due r))

-- the closing field has seven bytes
frame_length : (W N T b z : List ℕ) → length z ≡ 3 → 7 + length b ≤ length (header W N (type_field T b ++ trailer z))
frame_length W N T b z l =
    omega (
      arith,
      length-append W (1 ∷ 57 ∷ 61 ∷ (N ++ (1 ∷ (type_field T b ++ trailer z)))),
      length-append N (1 ∷ (type_field T b ++ trailer z)),
      length-append (T ++ (1 ∷ b)) (trailer z),
      length-append T (1 ∷ b),
      length-append z (1 ∷ []),
      l,
    )

trailer_length : (r z : List ℕ) → length z ≡ 3 → length (r ++ trailer z) ≡ length r + 7
trailer_length r z l = omega (arith, length-append r (trailer z), length-append z (1 ∷ []), l)

place_is : (n r k : ℕ) → 7 + r ≤ n → k ≡ r + 7 → n - 7 - r + k ≡ n
place_is n r k h e = omega (arith, h, e)

module _ (B : List Record) (s : List ℕ) where
  misframed_refusal : (m : ℕ) (r : List ℕ) → Misframed s m r → Refusal B s m (length s - length r) 0
  misframed_refusal m r (at_3 n e) = start n (rw e (omega arith)) refl
  misframed_refusal m r (at_4 n W v e) =
      size n W r v (e ∙ sym (eight W r)) (rw (e ∙ sym (eight W r)) (omega (arith, field_size_lem 8 W r))) refl
  misframed_refusal m r (at_end n l h) = end n (omega (arith, l, h)) refl
  misframed_refusal m r (at_7 n W N v e l) =
      let f : s ≡ put_field 8 W (put_field 9 N r) = e ∙ ap (λ x. 56 ∷ 61 ∷ (W ++ (1 ∷ x))) (sym (nine N r)) ∙ sym (eight W (put_field 9 N r)) in
      type n W N r v f l (rw f (omega (arith, field_size_lem 8 W (put_field 9 N r), field_size_lem 9 N r))) refl

  bad_refusal : (W N T b z : List ℕ) (P : Page) (n t : ℕ) (r : List ℕ) → s ≡ header W N (type_field T b ++ trailer z) → Fits B W N T P b z
      → Bad P.book (Lacks P b) b n t r → Refusal B s n (length s - 7 - length r) t
  bad_refusal W N T b z P n t r e F h =
      let L = F.type in
      let k : P.book ≡ B = ap (λ P. P.book) L.page in
      let three : length z ≡ 3 = eqb-true (length z) 3 (and_left (eqb (length z) 3) _ (and_left (eqb (length z) 3 && digits z) _ F.sum)) in
      field h.low h.high W N T b z e three L.entry L.found r (rw (← k) h.reach)
      (place_is (length s) (length r) (length (r ++ trailer z)) (rw e (omega (arith, frame_length W N T b z three, reach_long P.book b r h.reach))) (trailer_length r z three))
      h.plain (λ w. rw (← L.page) (h.missing w))

  items_refusal : (W N T b z : List ℕ) (P : Page) (o : Out Items) → s ≡ header W N (type_field T b ++ trailer z) → Fits B W N T P b z
      → Far P.book (Lacks P b) b o → (n p t : ℕ) → items_in s W N T z o ≡ refused n p t → Refusal B s n p t
  unfolding items_in
  items_refusal W N T b z P (done a r) e F h n p t w = no_refusal _ n p t w
  items_refusal W N T b z P (bad m u r) e F h n p t w =
      let x = refusal_parts m (length s - 7 - length r) u n p t w in
      rw (← x.0, ← x.1, ← x.2) (bad_refusal W N T b z P m u r e F h)
  items_refusal W N T b z P (late there r) e F h n p t w =
      let x = refusal_parts (cond there 10 9) (length s - 7 - length r) 0 n p t w in
      rw (← x.0, ← x.1, ← x.2) (bad_refusal W N T b z P (cond there 10 9) 0 r e F h)

  frame_refusal : (f : Framed) → frame B s ≡ f → Breaks s f → (n p t : ℕ) → in_frame s f ≡ refused n p t → Refusal B s n p t
  unfolding in_frame
  frame_refusal (misframed m r) ef h n p t w =
      let x = refusal_parts m (length s - length r) 0 n p t w in
      rw (← x.0, ← x.1, ← x.2) (misframed_refusal m r h)
  frame_refusal (framed W N T P b z) ef h n p t w =
      let f = frame_true B s W N T P b z ef in
      items_refusal W N T b z P (read_items P b) f.0 f.1 (items_far P b) n p t w

  -- A refusal of a message in its frame and its fields, of any book, is one of the lines of the table: see `Refusal` in specs/Refused.
  pub refusal : (n p t : ℕ) → arrangement_of B s ≡ refused n p t → Refusal B s n p t
  refusal n p t e = go (ltb 8192 (length s)) refl
    where
      go : (b : Bool) → ltb 8192 (length s) ≡ b → Refusal B s n p t
      go true w =
          let x = refusal_parts 2 0 0 n p t (sym (arrangement_long B s w) ∙ e) in
          long (sym x.0) (ltb-true 8192 (length s) w) (sym x.1) (sym x.2)
      go false w = frame_refusal (frame B s) refl (frame_breaks B s) n p t (sym (arrangement_is B s w) ∙ e)

-- Reading with a book that was checked before: one of these, or 15 at the message's length, where the rows do not fit.
pub checked_refusal : (book s : List ℕ) (room n p t : ℕ) → read_checked book s room ≡ refused n p t → Refusal (looked book) s n p t ⊎ NoRoom book s room n p t
checked_refusal book s room n p t e = go (arrangement_of (looked book) s) refl (sym (checked_is book s room) ∙ e)
  where
    full : (A : Arrangement) → arrangement_of (looked book) s ≡ gives A → (b : Bool) → leb (width * length (rows_of A)) room ≡ b
        → cond b (gives (rows_of A)) (refused 15 (length s) 0) ≡ refused n p t → NoRoom book s room n p t
    full A w true k e = no_refusal _ n p t e
    full A w false k e =
        let x = refusal_parts 15 (length s) 0 n p t e in
        record { which = A; accepted = w; short = leb-false (width * length (rows_of A)) room k; number = sym x.0; place = sym x.1; tag = sym x.2 }

    go : (a : Answer Arrangement) → arrangement_of (looked book) s ≡ a → on_answer a (λ A. room_for s room (rows_of A)) ≡ refused n p t
        → Refusal (looked book) s n p t ⊎ NoRoom book s room n p t
    go (refused m q u) w e =
        let k : ◌≡◌ {A = Answer (List Row)} (refused m q u) (refused n p t) = unfold on_answer in e in
        let x = refusal_parts m q u n p t k in
        inl (refusal (looked book) s n p t (w ∙ rw (x.0, x.1, x.2)))
    go (gives A) w e = inr (full A w (leb (width * length (rows_of A)) room) refl (unfold on_answer room_for in e))

-- Reading that checks the book: 1 at 0 exactly if it is not sound, else as above.
pub read_refusal : (book s : List ℕ) (room n p t : ℕ) → read book s room ≡ refused n p t
    → ((is_sound (check book) ≡ false) × (n ≡ 1) × (p ≡ 0) × (t ≡ 0))
    ⊎ ((check book ≡ sound) × (Refusal (looked book) s n p t ⊎ NoRoom book s room n p t))
read_refusal book s room n p t e = go (is_sound (check book)) refl
  where
    go : (b : Bool) → is_sound (check book) ≡ b
        → ((is_sound (check book) ≡ false) × (n ≡ 1) × (p ≡ 0) × (t ≡ 0)) ⊎ ((check book ≡ sound) × (Refusal (looked book) s n p t ⊎ NoRoom book s room n p t))
    go true w = inr (verdict_sound (check book) w, checked_refusal book s room n p t (sym (read_sound book s room w) ∙ e))
    go false w = let x = refusal_parts 1 0 0 n p t (sym (read_unsound book s room w) ∙ e) in inl (w, sym x.0, sym x.1, sym x.2)

-- In short: the number is one of the table's, the place is in the message, and the tag is 0 but for 14.
pub record Short (s : List ℕ) (n p t : ℕ) : Type 0 where
  pub low : 1 ≤ n
  pub high : n ≤ 15
  pub inside : p ≤ length s
  pub before : 5 ≤ n → n ≤ 14 → p + 7 ≤ length s
  pub tag : (n ≡ 14 → ⊥) → t ≡ 0

of_refusal : (B : List Record) (s : List ℕ) (n p t : ℕ) → Refusal B s n p t → Short s n p t
of_refusal B s n p t (long e l a b) = record { low = omega arith; high = omega arith; inside = omega arith; before = λ x y. absurd (omega (arith, x)); tag = λ h. b }
of_refusal B s n p t (start e a b) = record { low = omega arith; high = omega arith; inside = omega arith; before = λ x y. absurd (omega (arith, x)); tag = λ h. b }
of_refusal B s n p t (size e W r v w a b) = record {
  low = omega arith;
  high = omega arith;
  inside = rw (a, w) (omega (arith, field_size_lem 8 W r));
  before = λ x y. absurd (omega (arith, x));
  tag = λ h. b;
}
of_refusal B s n p t (end e a b) = record {
  low = ⊎_elim (λ e. omega (arith, e)) (λ e. omega (arith, e)) e;
  high = ⊎_elim (λ e. omega (arith, e)) (λ e. omega (arith, e)) e;
  inside = omega arith;
  before = λ x y. omega (arith, a);
  tag = λ h. b;
}
of_refusal B s n p t (type e W N r v w l a b) =
    let k : p + length r ≡ length s = rw (a, w) (omega (arith, field_size_lem 8 W (put_field 9 N r), field_size_lem 9 N r)) in
    record { low = omega arith; high = omega arith; inside = omega arith; before = λ x y. omega (arith, k, l); tag = λ h. b }
of_refusal B s n p t (field l h W N T b z w three e f r k a plain missing) =
    let m = trailer_length r z three in
    record { low = omega arith; high = omega arith; inside = omega arith; before = λ x y. omega (arith, a, m); tag = plain }

pub read_short : (book s : List ℕ) (room n p t : ℕ) → read book s room ≡ refused n p t → Short s n p t
read_short book s room n p t e = ⊎_elim unsound (λ h. ⊎_elim (of_refusal (looked book) s n p t) full h.1) (read_refusal book s room n p t e)
  where
    unsound : (is_sound (check book) ≡ false) × (n ≡ 1) × (p ≡ 0) × (t ≡ 0) → Short s n p t
    unsound h = record {
      low = omega (arith, h.1);
      high = omega (arith, h.1);
      inside = omega (arith, h.2);
      before = λ x y. absurd (omega (arith, x, h.1));
      tag = λ w. h.3;
    }

    full : NoRoom book s room n p t → Short s n p t
    full h = record {
      low = omega (arith, h.number);
      high = omega (arith, h.number);
      inside = omega (arith, h.place);
      before = λ x y. absurd (omega (arith, y, h.number));
      tag = λ w. h.tag;
    }

-- The tag of 14 is the member missing earliest in its list: of the message's list, or of that of a group whose instance was read.
pub own_14 : (P : Page) (q : List ℕ) (t : ℕ) (r : List ℕ) (h : OwnLacks P q t r) → Missing P.book (Complete P.book (tags_onto (tag_of 5) h.items []) t) P.own t
own_14 P q t r h = own_missing P.book (tags_onto (tag_of 5) h.items []) P.own t h.lack

pub group_14 : (P : Page) (q : List ℕ) (t : ℕ) (r : List ℕ) (h : GroupLacks P q t r) → Missing P.book (Part P.book (tag_of h.depth) t h.items) (group_of P.book h.c) t
group_14 P q t r h = group_missing P.book (tag_of h.depth) (group_of P.book h.c) h.items t h.lack

-- Lent numbers stay as they came.
pub refused_stays : (index : List ℕ) (n p t : ℕ) → index_after index (refused n p t) ≡ index
unfolding index_after
refused_stays index n p t = refl
