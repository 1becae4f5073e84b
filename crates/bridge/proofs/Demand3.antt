-- Demand 3: for a sound book a message is accepted exactly if some permitted arrangement, written out, gives those bytes; there is never
-- more than one; the index states it. Assumes nothing.
use mathlib.Core.Path.{◌≡◌, refl, sym, ◌∙◌}
use mathlib.Core.Bool.{Bool, true, false}
use mathlib.Core.List.{List, ◌∷◌, map, map-id}
use mathlib.Core.Logic.{◌↔◌}
use Prim.Native.Nat.{ℕ, ◌*◌, ◌≤◌}
use native.Mathlib.Omega.{arith}
use lib.Dec.{leb}
use lib.ListN.{length, drop}
use lib.Seq.{take_at}
use borrow.Author.Tests.{leb-true, le-leb}
use Rattle.numbers.proofs.Tests.{clash}
use Rattle.book.specs.Records.{Record}
use Rattle.book.specs.Check.{Verdict, sound, broken, check, is_sound}
use Rattle.message.specs.Arrangement.{Arrangement}
use Rattle.message.specs.Written.{put_field, written}
use Rattle.message.specs.Permitted.{permitted}
use Rattle.message.specs.Rows.{Row, width, row_of, rows_of}
use Rattle.reader.specs.Reading.{Answer, gives, refused, on_answer, arrangement_of, room_for, looked, read_checked, read}
use Rattle.reader.proofs.FillLaws.{checked_is, read_sound, read_unsound}
use Rattle.bridge.specs.FieldList.{field_of, fields_of, field_at}
use Rattle.bridge.proofs.Sound.{sound_rules}
use Rattle.bridge.proofs.Whole.{no_answer, arrangement_true, in_frame_back, arrangement_back}
use Rattle.bridge.proofs.Places.{value_place, rows_say}
use Rattle.bridge.proofs.Sizes.{rows_short}

-- What is accepted is a permitted arrangement that, written out, gives the bytes. Of any book, sound or not.
pub only : (B : List Record) (s : List ℕ) (A : Arrangement) → arrangement_of B s ≡ gives A → (written A ≡ s) × (permitted B A ≡ true)
only B s A e = let h = arrangement_true B s A e in (h.0, h.1)

-- A permitted arrangement that, written out, is not too long is read back as itself.
pub always : (book : List ℕ) → check book ≡ sound → (A : Arrangement) → permitted (looked book) A ≡ true → length (written A) ≤ 8192
    → arrangement_of (looked book) (written A) ≡ gives A
always book good A p n = arrangement_back (looked book) (sound_rules book good) A p n

-- Two permitted arrangements that give the same bytes, of whatever length, are the same.
pub unique : (book : List ℕ) → check book ≡ sound → (A C : Arrangement) → permitted (looked book) A ≡ true → permitted (looked book) C ≡ true → written A ≡ written C → A ≡ C
unique book good A C p q e =
    let S = sound_rules book good in
    let a = in_frame_back (looked book) S A p in
    let c = in_frame_back (looked book) S C q in
    let h : gives A ≡ gives C = sym (rw e at a) ∙ c in
    cc

-- So an arrangement is what reading answers exactly if it is permitted and gives the bytes, at most 8,192.
pub exactly : (book : List ℕ) → check book ≡ sound → (s : List ℕ) (A : Arrangement)
    → (arrangement_of (looked book) s ≡ gives A) ↔ ((written A ≡ s) × (permitted (looked book) A ≡ true) × (length s ≤ 8192))
exactly book good s A =
    ((λ e. arrangement_true (looked book) s A e), (λ h. rw (← h.0) (always book good A h.1 (rw h.0 h.2))))

-- The bytes are a permitted arrangement, written out, at most 8,192 of them, and these are its rows.
pub record Reads (book s : List ℕ) (q : List Row) : Type 0 where
  pub which : Arrangement
  pub allowed : permitted (looked book) which ≡ true
  pub bytes : written which ≡ s
  pub short : length s ≤ 8192
  pub stated : rows_of which ≡ q

on_answer_lem : {X Y : Type 0} (a : Answer X) (f : X → Answer Y) (y : Y) → on_answer a f ≡ gives y → (x : X) × (a ≡ gives x) × (f x ≡ gives y)
unfolding on_answer
on_answer_lem (gives x) f y e = (x, refl, e)
on_answer_lem (refused n p t) f y e = no_answer n p t y e

in_room : (s : List ℕ) (room : ℕ) (r q : List Row) → room_for s room r ≡ gives q → (r ≡ q) × (width * length r ≤ room)
unfolding room_for
in_room s room r q e = go (leb (width * length r) room) refl
  where
    go : (b : Bool) → leb (width * length r) room ≡ b → (r ≡ q) × (width * length r ≤ room)
    go true p = let h : gives r ≡ gives q = rw p at e in ((cc), leb-true (width * length r) room p)
    go false p = no_answer _ _ _ _ (rw p at e)

room_for_lem : (s : List ℕ) (room : ℕ) (q : List Row) → width * length q ≤ room → room_for s room q ≡ gives q
unfolding room_for
room_for_lem s room q h = rw (le-leb (width * length q) room h)

reads_of : (book s : List ℕ) (room : ℕ) (q : List Row) → read_checked book s room ≡ gives q → Reads book s q × (width * length q ≤ room)
reads_of book s room q e =
    let a = on_answer_lem (arrangement_of (looked book) s) (λ A. room_for s room (rows_of A)) q (sym (checked_is book s room) ∙ e) in
    let h = arrangement_true (looked book) s a.0 a.1 in
    let r = in_room s room (rows_of a.0) q a.2 in
    (record { which = a.0; allowed = h.1; bytes = h.0; short = h.2; stated = r.0 }, rw (← r.0) r.1)

of_reads : (book s : List ℕ) → check book ≡ sound → (room : ℕ) (q : List Row) → Reads book s q → width * length q ≤ room → read_checked book s room ≡ gives q
unfolding on_answer
of_reads book s good room q h n =
    rw (checked_is book s room, (exactly book good s h.which).1 (h.bytes, h.allowed, h.short), h.stated) (room_for_lem s room q n)

-- Reading with a book that was checked answers rows exactly if they are stated by a permitted arrangement that gives the bytes, and fit.
pub rows_exactly : (book : List ℕ) → check book ≡ sound → (s : List ℕ) (room : ℕ) (q : List Row)
    → (read_checked book s room ≡ gives q) ↔ (Reads book s q × (width * length q ≤ room))
rows_exactly book good s room q = (reads_of book s room q, (λ h. of_reads book s good room q h.0 h.1))

-- Each row takes four bytes of the message at least.
four_each : (book s : List ℕ) (q : List Row) → Reads book s q → length q * 4 ≤ length s
four_each book s q h = rw (← h.stated, ← h.bytes) (rows_short (looked book) h.which h.allowed)

-- 2,048 rows suffice for every message.
pub enough : (book s : List ℕ) (q : List Row) → Reads book s q → length q ≤ 2048
enough book s q h = let n = four_each book s q h in omega (arith, h.short)

-- So with that room the rows are answered exactly if a permitted arrangement that gives the bytes states them.
pub roomy_exactly : (book : List ℕ) → check book ≡ sound → (s : List ℕ) (room : ℕ) → width * 2048 ≤ room → (q : List Row)
    → (read_checked book s room ≡ gives q) ↔ Reads book s q
roomy_exactly book good s room n q =
    ((λ e. (reads_of book s room q e).0), (λ h. let m = four_each book s q h in of_reads book s good room q h (omega (arith, h.short))))

pub verdict_sound : (v : Verdict) → is_sound v ≡ true → v ≡ sound
unfolding is_sound
verdict_sound sound e = refl
verdict_sound (broken n at) e = clash false e refl

-- Reading answers rows exactly if the book is sound, they are stated by a permitted arrangement that gives the bytes, and they fit.
pub read_exactly : (book s : List ℕ) (room : ℕ) (q : List Row)
    → (read book s room ≡ gives q) ↔ ((check book ≡ sound) × Reads book s q × (width * length q ≤ room))
unfolding is_sound
read_exactly book s room q = ((λ e. go (is_sound (check book)) refl e), (λ h. read_sound book s room (rw h.0) ∙ of_reads book s h.0 room q h.1 h.2))
  where
    go : (b : Bool) → is_sound (check book) ≡ b → read book s room ≡ gives q → (check book ≡ sound) × Reads book s q × (width * length q ≤ room)
    go true w e = let h = reads_of book s room q (sym (read_sound book s room w) ∙ e) in (verdict_sound (check book) w, h.0, h.1)
    go false w e = no_answer _ _ _ _ (sym (read_unsound book s room w) ∙ e)

-- The rows are, in message order, the fields of the arrangement: each stated place is where that field's text stands in the bytes. Of any
-- arrangement. (That the bytes are these fields one after another, each tag, `=`, text, `|`, is `written_flat` in Places.)
pub places : (A : Arrangement) → map (field_at (written A)) (rows_of A) ≡ fields_of A
places A = rows_say A (field_at (written A)) (λ f. f) says ∙ map-id (fields_of A)
  where
    says : (e c j at t : ℕ) (v r : List ℕ) → drop at (written A) ≡ put_field t v r → field_at (written A) (row_of e c j at t v) ≡ field_of t v
    says e c j at t v r h = rw (value_place (written A) at t v r h, take_at v (1 ∷ r) (length v) refl)

-- And each stated length is that of the text.
pub lengths : (A : Arrangement) → map (λ r. r.value_length) (rows_of A) ≡ map (λ f. length f.text) (fields_of A)
lengths A = rows_say A (λ r. r.value_length) (λ f. length f.text) (λ e c j at t v r h. refl)
