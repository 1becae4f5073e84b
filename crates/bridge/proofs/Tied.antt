-- The theorem of the reader itself: its answer and the index that it leaves, against the arrangements that the book permits. The reader's
-- contract says that they tell `read` of reader/specs/Reading, of which Demand3 and Demand1 speak. Assumes nothing.
use mathlib.Core.Path.{◌≡◌, refl, sym, ◌∙◌}
use mathlib.Core.Bool.{true, false}
use mathlib.Core.List.{List, ◌++◌}
use mathlib.Core.Logic.{◌⊎◌, ⊎_elim, ◌↔◌}
use Prim.Native.Nat.{ℕ, ◌*◌, ◌≤◌}
use native.Mathlib.Omega.{arith}
use lib.ListN.{length, drop}
use Rattle.std.specs.Prelude.{Result, Ok, Err, IsOk, IfOk, IfErr, OnErr}
use Rattle.numbers.proofs.Tests.{clash}
use Rattle.book.specs.Check.{sound, check, is_sound}
use Rattle.message.specs.Arrangement.{Arrangement}
use Rattle.message.specs.Rows.{Row, width, flat, rows_of}
use Rattle.reader.specs.declared.refusal.Refused.{Refused}
use Rattle.reader.specs.Refusals.{number, tag_of}
use Rattle.reader.specs.Answers.{told_by}
use Rattle.reader.specs.Reading.{Answer, gives, refused, looked, read_checked, read, told, index_after}
use Rattle.reader.proofs.FillLaws.{read_sound}
use Rattle.reader.proofs.Told.{told_ok, told_err}
use Rattle.bridge.specs.Refused.{Refusal, NoRoom}
use Rattle.bridge.specs.Arranged.{Gives, IsRoomy, Fits, States, OfTable, of_book, of_message, of_room}
use Rattle.bridge.proofs.Sound.{sound_whole}
use Rattle.bridge.proofs.Whole.{no_answer, arrangement_true}
use Rattle.bridge.proofs.Demand3.{Reads, unique, enough, read_exactly, places}
use Rattle.bridge.proofs.Demand1.{read_refusal, read_short}

-- the index behind the rows stays
after_rows : (i j : List ℕ) (A : Answer (List Row)) (q r : List Row) (n : ℕ) → j ≡ index_after i A → A ≡ gives q → r ≡ q → n ≡ length r → j ≡ flat r ++ drop (width * n) i
unfolding index_after
after_rows i j A q r n h e f k = h ∙ rw (e, k, f)

after_refusal : (i j : List ℕ) (A : Answer (List Row)) (n p t : ℕ) → j ≡ index_after i A → A ≡ refused n p t → j ≡ i
unfolding index_after
after_refusal i j A n p t h e = h ∙ rw e

sound_is : (book : List ℕ) → check book ≡ sound → is_sound (check book) ≡ true
unfolding is_sound
sound_is book e = rw e

module _ (book s : List ℕ) where
  of_gives : check book ≡ sound → (A : Arrangement) → Gives book s A → length s ≤ 8192 → Reads book s (rows_of A)
  of_gives good A g short = record { which = A; allowed = rw (sound_whole book good) g.allowed; bytes = g.bytes; short = short; stated = refl }

  to_gives : check book ≡ sound → (q : List Row) (h : Reads book s q) → Gives book s h.which
  to_gives good q h = record { allowed = rw (sound_whole book good) at h.allowed; bytes = h.bytes }

  pub one : check book ≡ sound → (A C : Arrangement) → Gives book s A → Gives book s C → A ≡ C
  one good A C a c =
      let w = sound_whole book good in
      unique book good A C (rw w a.allowed) (rw w c.allowed) (a.bytes ∙ sym c.bytes)

  module _ (i : List ℕ) where
    abbrev Whole : Answer (List Row)
    Whole = read book s (length i)

    abbrev pub Tells : Result ℕ Refused → Type 0
    Tells x = told_by x ≡ told length Whole

    -- an answer of a reading under a sound book that does not check it
    pub tells_checked : (x : Result ℕ Refused) → check book ≡ sound → told_by x ≡ told length (read_checked book s (length i)) → Tells x
    tells_checked x good e = rw (read_sound book s (length i) (sound_is book good)) e

    pub leaves_checked : (j : List ℕ) → check book ≡ sound → j ≡ index_after i (read_checked book s (length i)) → j ≡ index_after i Whole
    leaves_checked j good e = rw (read_sound book s (length i) (sound_is book good)) e

    -- an accepted message's rows
    record Accepted (n : ℕ) : Type 0 where
      rows : List Row
      is : Whole ≡ gives rows
      count : n ≡ length rows
      good : check book ≡ sound
      reads : Reads book s rows
      room : width * length rows ≤ length i

    accepted_by : (n : ℕ) → Tells (Ok n) → Accepted n
    accepted_by n e =
        let r = told_ok n Whole e (λ m p t w. (read_short book s (length i) m p t w).low) in
        let h = (read_exactly book s (length i) r.0).0 r.1 in
        record { rows = r.0; is = r.1; count = r.2; good = h.0; reads = h.1; room = h.2 }

    refuses_by : (r : Refused) → Tells (Err r) → Whole ≡ refused (number r.why) r.at (tag_of r.why)
    refuses_by r e = told_err r Whole e

    fits_of : (n : ℕ) (h : Accepted n) → Fits book s i h.reads.which
    fits_of n h = record { is_sound = h.good; short = h.reads.short; room = rw h.reads.stated h.room }

    accepts : (A : Arrangement) → Gives book s A → Fits book s i A → (x : Result ℕ Refused) → Tells x → IsOk x
    accepts A g f (Ok n) e = refl
    accepts A g f (Err r) e =
        no_answer (number r.why) r.at (tag_of r.why) (rows_of A)
        (sym (refuses_by r e) ∙ (read_exactly book s (length i) (rows_of A)).1 (f.is_sound, of_gives f.is_sound A g f.short, f.room))

    pub exactly : (x : Result ℕ Refused) → Tells x → IsOk x ↔ ((A : Arrangement) × Gives book s A × Fits book s i A)
    exactly x e = (only x e, (λ h. accepts h.0 h.1 h.2 x e))
      where
        only : (x : Result ℕ Refused) → Tells x → IsOk x → (A : Arrangement) × Gives book s A × Fits book s i A
        only (Ok n) e ok = let h = accepted_by n e in (h.reads.which, to_gives h.good h.rows h.reads, fits_of n h)
        only (Err r) e ok = clash false ok refl

    -- "an index with room for any such message"
    roomy : IsRoomy book s i → (A : Arrangement) → Gives book s A → Fits book s i A
    roomy h A g =
        let n = enough book s (rows_of A) (of_gives h.is_sound A g h.short) in
        record { is_sound = h.is_sound; short = h.short; room = omega (arith, n, h.room) }

    pub accepted : (x : Result ℕ Refused) → Tells x → IsRoomy book s i → IsOk x ↔ ((A : Arrangement) × Gives book s A)
    accepted x e h =
        let k = exactly x e in
        ((λ ok. let a = k.0 ok in (a.0, a.1)), (λ a. k.1 (a.0, a.1, roomy h a.0 a.1)))

    pub stated : (x : Result ℕ Refused) → Tells x → (j : List ℕ) → j ≡ index_after i Whole → IfOk x (λ n. (A : Arrangement) × Gives book s A × States A s i j n)
    stated (Err r) e j k = tt
    stated (Ok n) e j k =
        let h = accepted_by n e in
        let A = h.reads.which in
        let c : n ≡ length (rows_of A) = rw h.reads.stated h.count in (
          A,
          to_gives h.good h.rows h.reads,
          record { count = c; index = after_rows i j Whole h.rows (rows_of A) n k h.is h.reads.stated c; places = rw h.reads.bytes at (places A) },
        )

    pub kept : (x : Result ℕ Refused) → Tells x → (j : List ℕ) → j ≡ index_after i Whole → OnErr x (j ≡ i)
    kept (Ok n) e j k = tt
    kept (Err r) e j k = after_refusal i j Whole (number r.why) r.at (tag_of r.why) k (refuses_by r e)

    no_room : (n p t : ℕ) → check book ≡ sound → NoRoom book s (length i) n p t → OfTable book s i n p t
    no_room n p t good h =
        let a = arrangement_true (looked book) s h.which h.accepted in
        of_room h.number good h.which (record { allowed = rw (sound_whole book good) at a.1; bytes = a.0 }) h.short h.place h.tag

    pub in_table : (x : Result ℕ Refused) → Tells x → IfErr x (λ r. OfTable book s i (number r.why) r.at (tag_of r.why))
    in_table (Ok n) e = tt
    in_table (Err r) e = ⊎_elim unsound under (read_refusal book s (length i) n p t (refuses_by r e))
      where
        n : ℕ
        n = number r.why

        p : ℕ
        p = r.at

        t : ℕ
        t = tag_of r.why

        unsound : (is_sound (check book) ≡ false) × (n ≡ 1) × (p ≡ 0) × (t ≡ 0) → OfTable book s i n p t
        unsound h = of_book h.1 (λ good. clash false (sym h.0 ∙ sound_is book good) refl) h.2 h.3

        under : (check book ≡ sound) × (Refusal (looked book) s n p t ⊎ NoRoom book s (length i) n p t) → OfTable book s i n p t
        under h = ⊎_elim (λ w. of_message h.0 (rw (sound_whole book h.0) at w)) (no_room n p t h.0) h.1
