-- Laws of what a whole reading answers. Assumes nothing.
use mathlib.Core.Path.{◌≡◌, refl, sym, ap, ◌∙◌}
use mathlib.Core.Bool.{Bool, true, false, cond, not}
use mathlib.Core.List.{List, [], ◌∷◌, ◌++◌}
use Prim.Native.Nat.{ℕ, ◌+◌, ◌-◌, ◌*◌, ◌/◌, ◌≤◌, ◌<◌}
use native.Mathlib.Omega.{arith}
use borrow.Author.Tests.{leb-true, lt-ltb, le-ltb, le-leb, lt-leb}
use lib.Dec.{leb, ltb}
use lib.ListN.{length, length-take, length-drop, take, drop}
use Rattle.std.specs.Prelude.{Result, Ok, Err}
use Rattle.std.specs.Result.{is_err}
use Rattle.book.specs.Check.{Verdict, check, is_sound}
use Rattle.book.specs.Answers.{told as verdict_told}
use Rattle.book.specs.declared.checking.Broken.{Broken}
use Rattle.book.specs.Records.{Record, records, message_of, members_of, members_in}
use Rattle.message.specs.Arrangement.{Items, Page, Arrangement}
use Rattle.message.specs.Rows.{Row, lead, field_size, row_of, rows_of, flat}
use Rattle.reader.specs.declared.Framed as Code
use Rattle.reader.specs.declared.refusal.Refused.{Refused}
use Rattle.reader.specs.Refusals.{number, tag_of}
use Rattle.reader.specs.Items.{Out, done, bad, late, read_items}
use Rattle.reader.specs.Frame.{misframed, frame}
use Rattle.reader.specs.Reading.{Answer, gives, refused, on_answer, items_in, in_frame, arrangement_of, looked, room_for, read_checked, read, told, index_after}
use Rattle.reader.specs.Filling.{put_rows, row_numbers, row_bytes}
use Rattle.reader.specs.Met.{Meets}
use Rattle.reader.specs.declared.Step.{Step}
use Rattle.reader.specs.Answers.{value_in, framed_in, told_by, Ends}
use Rattle.reader.specs.Rowed.{item_rows, past, all_rows, Counts, put_by, f_message}
use Rattle.reader.proofs.RowLaws.{flat_by, flat_length, rows_sets}
use lib.Seq.{sets-eq}
use Rattle.reader.proofs.Framing.{place_is, drop_take}
use Rattle.reader.proofs.ReadLaws.{few, message_full}

pub refusal_told : (r : Refused) (A : Answer (List Row)) (n p t : ℕ) → A ≡ refused n p t → number r.why ≡ n → r.at ≡ p → tag_of r.why ≡ t → told_by (Err r) ≡ told length A
unfolding told
refusal_told r A n p t e a b c = rw (e, a, b, c)

pub refusal_kept : (size : ℕ) (numbers : Row → List ℕ) (i : List ℕ) (A : Answer (List Row)) (n p t : ℕ) → A ≡ refused n p t → i ≡ put_by size numbers i A
refusal_kept size numbers i A n p t e = rw e

-- the reading, of a message that is not too long
pub arrangement_is : (B : List Record) (s : List ℕ) → ltb 8192 (length s) ≡ false → arrangement_of B s ≡ in_frame s (frame B s)
unfolding arrangement_of
arrangement_is B s e = rw (e, arrangement_of)

pub arrangement_long : (B : List Record) (s : List ℕ) → ltb 8192 (length s) ≡ true → arrangement_of B s ≡ refused 2 0 0
unfolding arrangement_of
arrangement_long B s e = rw (e, arrangement_of)

pub checked_is : (book s : List ℕ) (room : ℕ) → read_checked book s room ≡ on_answer (arrangement_of (looked book) s) (λ A. room_for s room (rows_of A))
unfolding read_checked
checked_is book s room = refl

-- the bytes of a tag and its `=`
lead_8 : lead 8 ≡ 2
unfolding lead
lead_8 = refl

lead_9 : lead 9 ≡ 2
unfolding lead
lead_9 = refl

lead_35 : lead 35 ≡ 3
unfolding lead
lead_35 = refl

lead_10 : lead 10 ≡ 3
unfolding lead
lead_10 = refl

rows_open : (A : Arrangement) → rows_of A
    ≡ row_of 0 0 0 0 8 A.version
    ∷ row_of 0 0 0 (field_size 8 A.version) 9 A.body_length
    ∷ row_of 0 0 0 (field_size 8 A.version + field_size 9 A.body_length) 35 A.type
    ∷ (item_rows (field_size 8 A.version + field_size 9 A.body_length + field_size 35 A.type) A.items
    ++ (row_of 0 0 0 (past (field_size 8 A.version + field_size 9 A.body_length + field_size 35 A.type) A.items) 10 A.check_sum ∷ []))
unfolding rows_of
rows_open A = refl

row_same : (t a l b k : ℕ) → a ≡ b → l ≡ k
    → ◌≡◌ {A = Row} (record { tag = t; value_start = a; value_length = l; depth = 0; count_row = 0; instance = 0 }) (record { tag = t; value_start = b; value_length = k; depth = 0; count_row = 0; instance = 0 })
row_same t a l b k e f = rw (e, f)

module _ (book s : List ℕ) (room : ℕ) where
  abbrev pub Whole : Answer (List Row)
  Whole = read_checked book s room

  abbrev B : List Record
  B = looked book

  pub too_long : 8192 < length s → Whole ≡ refused 2 0 0
  unfolding on_answer
  too_long h = checked_is book s room ∙ rw (arrangement_long B s (lt-ltb 8192 (length s) h))

  module _ (short : length s ≤ 8192) where
    whole_is : Whole ≡ on_answer (in_frame s (frame B s)) (λ A. room_for s room (rows_of A))
    whole_is = checked_is book s room ∙ rw (arrangement_is B s (le-ltb 8192 (length s) short))

    pub no_frame : (e : Refused) → misframed (number e.why) (drop e.at s) ≡ frame B s → e.at ≤ length s → tag_of e.why ≡ 0 → Whole ≡ refused (number e.why) e.at (tag_of e.why)
    unfolding in_frame on_answer
    no_frame e f h t = whole_is ∙ rw (← f, place_is s e.at h, t)

    module _ (f : Code.Framed) (ends : Ends s f.version_end f.length_end f.type_end) (fr : framed_in B s (Ok f) ≡ frame B s) where
      abbrev V : List ℕ
      V = value_in s 2 f.version_end

      abbrev N : List ℕ
      N = value_in s (f.version_end + 2) f.length_end

      abbrev T : List ℕ
      T = value_in s (f.length_end + 3) f.type_end

      abbrev Z : List ℕ
      Z = take 3 (drop (length s - 4) s)

      abbrev pub Listed : Page
      Listed = record { book = B; own = members_in (message_of B T) }

      abbrev pub Body : List ℕ
      Body = take (length s - 7) s

      value_long : (from e : ℕ) → from ≤ e - 1 → e ≤ length s → length (value_in s from e) ≡ e - 1 - from
      value_long from e h l = length-take (e - 1 - from) (drop from s) ∙ rw (length-drop from s) (omega (arith, h, l))

      body_is : drop f.type_end Body ≡ take (length s - 7 - f.type_end) (drop f.type_end s)
      body_is = drop_take f.type_end (length s - 7) s

      body_long : length Body ≡ length s - 7
      body_long = length-take (length s - 7) s ∙ omega arith

      pub body_short : length Body ≤ 8185
      body_short = omega (arith, body_long, short)

      pub body_inside : f.type_end ≤ length Body
      body_inside = omega (arith, body_long, ends.close)

      framed_is : Whole ≡ on_answer (items_in s V N T Z (read_items Listed (drop f.type_end Body))) (λ A. room_for s room (rows_of A))
      unfolding in_frame
      framed_is = whole_is ∙ rw (← fr, body_is)

      place_in : (p : ℕ) (r : List ℕ) → r ≡ drop p Body → p ≤ length Body → length s - 7 - length r ≡ p
      place_in p r e h = rw e (ap (λ n. n - length (drop p Body)) (sym body_long) ∙ place_is Body p h)

      bad_in : (o : Out Items) (e : Refused) → Counts Body f o (Err e) → on_answer (items_in s V N T Z o) (λ A. room_for s room (rows_of A)) ≡ refused (number e.why) e.at (tag_of e.why)
      unfolding on_answer items_in
      bad_in (done a r) e C = absurd (let y : ◌≡◌ {A = ℕ} 0 1 = cc in omega arith)
      bad_in (bad n t r) e (p, (a, b, c), q, h) = rw (place_in p r q h, a, b, c)
      bad_in (late b r) e (p, (a, d, c), q, h) = rw (place_in p r q h, a, d, c)

      pub bad_items : (e : Refused) → Counts Body f (read_items Listed (drop f.type_end Body)) (Err e) → Whole ≡ refused (number e.why) e.at (tag_of e.why)
      bad_items e C = framed_is ∙ bad_in (read_items Listed (drop f.type_end Body)) e C

      three : (a : ℕ) → a + 6 - (a + 3) ≡ 3
      three a = omega arith

      version_long : length V ≡ f.version_end - 1 - 2
      version_long = value_long 2 f.version_end (omega (arith, ends.version)) (omega (arith, ends.version, ends.count, ends.type, ends.close))

      count_long : length N ≡ f.length_end - 1 - (f.version_end + 2)
      count_long = value_long (f.version_end + 2) f.length_end (omega (arith, ends.count)) (omega (arith, ends.type, ends.close))

      type_long : length T ≡ f.type_end - 1 - (f.length_end + 3)
      type_long = value_long (f.length_end + 3) f.type_end (omega (arith, ends.type)) (omega (arith, ends.close))

      nine : field_size 8 V ≡ f.version_end
      nine = rw (lead_8, version_long) (omega (arith, ends.version))

      thirty_five : f.version_end + field_size 9 N ≡ f.length_end
      thirty_five = rw (lead_9, count_long) (omega (arith, ends.count))

      first : f.length_end + field_size 35 T ≡ f.type_end
      first = rw (lead_35, type_long) (omega (arith, ends.type))

      closing_long : length Z ≡ 3
      closing_long = length-take 3 (drop (length s - 4) s) ∙ rw (length-drop (length s - 4) s) (omega (arith, ends.version, ends.count, ends.type, ends.close))

      rows_same : (a : Items) → rows_of (record { version = V; body_length = N; type = T; items = a; check_sum = Z }) ≡ all_rows f a
      rows_same a = rows_open (record { version = V; body_length = N; type = T; items = a; check_sum = Z }) ∙ rw (nine, thirty_five, first, lead_8, lead_9, lead_35, lead_10, version_long, count_long, type_long, closing_long, three (past f.type_end a))

      done_in : (o : Out Items) → read_items Listed (drop f.type_end Body) ≡ o → (n : ℕ) → Counts Body f o (Ok n)
          → (a : Items) × (r : List ℕ) × (read_items Listed (drop f.type_end Body) ≡ done a r) × (n ≡ length (all_rows f a)) × (Whole ≡ room_for s room (all_rows f a))
      unfolding on_answer items_in
      done_in (done a r) e n C = (a, r, e, (let y : n ≡ length (all_rows f a) = cc in y), framed_is ∙ rw (e, rows_same a))
      done_in (bad n t r) e k C = absurd C.1
      done_in (late b r) e k C = absurd C.1

      pub good_items : (n : ℕ) → Counts Body f (read_items Listed (drop f.type_end Body)) (Ok n)
          → (a : Items) × (r : List ℕ) × (read_items Listed (drop f.type_end Body) ≡ done a r) × (n ≡ length (all_rows f a)) × (Whole ≡ room_for s room (all_rows f a))
      good_items n C = done_in (read_items Listed (drop f.type_end Body)) refl n C

      pub no_room : (a : Items) → Whole ≡ room_for s room (all_rows f a) → room / 6 < length (all_rows f a) → Whole ≡ refused 15 (length s) 0
      unfolding room_for
      no_room a e h = e ∙ rw (lt-leb (6 * length (all_rows f a)) room (omega (arith, h)))

      pub with_room : (a : Items) → Whole ≡ room_for s room (all_rows f a) → length (all_rows f a) ≤ room / 6 → Whole ≡ gives (all_rows f a)
      unfolding room_for
      with_room a e h = e ∙ rw (le-leb (6 * length (all_rows f a)) room (omega (arith, h)))

pub listed_few : (book b own x : List ℕ) → b ≡ take 16384 book → members_of own ≡ members_in (message_of (records b) x) → length (members_of own) ≤ 4096
listed_few book b own x e h = rw h (few b x (rw e (rw (length-take 16384 book) (omega arith))))

pub gives_told : (n : ℕ) (A : Answer (List Row)) (q : List Row) → A ≡ gives q → n ≡ length q → told_by (Ok n) ≡ told length A
unfolding told
gives_told n A q e k = rw (e, k)

pub gives_put : (size : ℕ) (numbers : Row → List ℕ) (i j : List ℕ) (A : Answer (List Row)) (q : List Row) → A ≡ gives q → j ≡ put_rows size numbers i 0 q → j ≡ put_by size numbers i A
gives_put size numbers i j A q e h = rw e h

-- what a second reading puts down, of a message that the first counted
pub put_again : (P : Page) (f : Code.Framed) (m : List ℕ) (w : ℕ) (a : Items) (r : List ℕ) → read_items P (drop f.type_end m) ≡ done a r → (x : Result Step Refused) (i j b u : List ℕ) → Meets 0 m 0 0 (f_message P w f m) x i j b u
    → (j ≡ put_rows 6 row_numbers i 0 (all_rows f a)) × (u ≡ put_rows 12 row_bytes b 0 (all_rows f a))
put_again P f m w a r e x i j b u M = let k = rw (message_full P f m w a r e) at M in (k.5, k.6)

numbers_flat : (q : List Row) → flat_by 6 row_numbers q ≡ flat q
unfolding flat
numbers_flat [] = refl
numbers_flat (r ∷ q) = rw (numbers_flat q)

-- the lent index afterwards
flat_put : (i : List ℕ) (q : List Row) → 6 * length q ≤ length i → put_rows 6 row_numbers i 0 q ≡ flat q ++ drop (6 * length q) i
flat_put i q h =
    let n : length (flat_by 6 row_numbers q) ≡ 6 * length q = flat_length 6 row_numbers (λ r. refl) q in
    let z : 6 * (0 + length q) ≡ 6 * length q = omega arith in
    let y : 0 + 6 * length q ≡ 6 * length q = omega arith in
    rows_sets 6 row_numbers (λ r. refl) q i 0 (rw z h) ∙ sets-eq (flat_by 6 row_numbers q) i 0 (rw n (omega (arith, h))) ∙ rw (n, y, numbers_flat q)

room_fits : (s : List ℕ) (room : ℕ) (q p : List Row) → room_for s room q ≡ gives p → (q ≡ p) × (6 * length p ≤ room)
unfolding room_for
room_fits s room q p e = go (leb (6 * length q) room) refl e
  where
    go : (b : Bool) → leb (6 * length q) room ≡ b → cond b (gives q) (refused 15 (length s) 0) ≡ gives p → (q ≡ p) × (6 * length p ≤ room)
    go true h k = let z : q ≡ p = cc in (z, rw z at (leb-true (6 * length q) room h))
    go false h k = absurd (let y : ◌≡◌ {A = ℕ} 0 1 = cc in omega arith)

whole_fits : (book s : List ℕ) (room : ℕ) (p : List Row) → read_checked book s room ≡ gives p → 6 * length p ≤ room
whole_fits book s room p e = go (arrangement_of (looked book) s) (sym (checked_is book s room) ∙ e)
  where
    go : (a : Answer Arrangement) → on_answer a (λ A. room_for s room (rows_of A)) ≡ gives p → 6 * length p ≤ room
    go (gives A) k = (room_fits s room (rows_of A) p (unfold on_answer in k)).1
    go (refused n q t) k = absurd (let y : ◌≡◌ {A = ℕ} 0 1 = unfold on_answer in cc in omega arith)

pub index_is : (book s i j : List ℕ) → j ≡ put_by 6 row_numbers i (read_checked book s (length i)) → j ≡ index_after i (read_checked book s (length i))
index_is book s i j h = go (read_checked book s (length i)) refl h
  where
    go : (A : Answer (List Row)) → read_checked book s (length i) ≡ A → j ≡ put_by 6 row_numbers i A → j ≡ index_after i A
    go (refused n p t) e k = unfold index_after in k
    go (gives q) e k = unfold index_after in (k ∙ flat_put i q (whole_fits book s (length i) q e))

-- refusal 1
pub read_sound : (book s : List ℕ) (room : ℕ) → is_sound (check book) ≡ true → read book s room ≡ read_checked book s room
unfolding read
read_sound book s room e = rw (e, read)

pub read_unsound : (book s : List ℕ) (room : ℕ) → is_sound (check book) ≡ false → read book s room ≡ refused 1 0 0
unfolding read
read_unsound book s room e = rw (e, read)

pub sound_by : (x : Result (Unit {0}) Broken) (v : Verdict) (b : Bool) → verdict_told x ≡ v → b ≡ is_err x → is_sound v ≡ not b
unfolding is_sound
sound_by (Ok u) v b e f = rw (← e, f)
sound_by (Err d) v b e f = rw (← e, f)
