-- What reading answers, for any book, any message and any room. Assumes nothing.
use Rattle.std.specs.Prelude.{ℕ, ◌-◌, ◌*◌, true, false, cond, List, ◌++◌, ltb, leb, length, take, drop}
use Rattle.book.specs.Records.{Record, records}
use Rattle.book.specs.Check.{check, is_sound}
use Rattle.message.specs.Arrangement.{Items, Arrangement}
use Rattle.message.specs.Rows.{Row, width, flat, rows_of}
use Rattle.reader.specs.Items.{Out, done, bad, late, read_items}
use Rattle.reader.specs.Frame.{Framed, framed, misframed, frame}

-- what was asked for, or the refusal's number, place and tag
pub data Answer (X : Type 0) : Type 0 where
  gives : X → Answer X
  refused : (number place tag : ℕ) → Answer X

unfoldable pub on_answer : {X Y : Type 0} → Answer X → (X → Answer Y) → Answer Y
on_answer (gives x) f = f x
on_answer (refused n p t) f = refused n p t

-- the bytes between 35 and 10 end seven before the message does
unfoldable pub items_in : List ℕ → List ℕ → List ℕ → List ℕ → List ℕ → Out Items → Answer Arrangement
items_in s W N T z (done a r) = gives (record { version = W; body_length = N; type = T; items = a; check_sum = z })
items_in s W N T z (bad n t r) = refused n (length s - 7 - length r) t
items_in s W N T z (late there r) = refused (cond there 10 9) (length s - 7 - length r) 0

unfoldable pub in_frame : List ℕ → Framed → Answer Arrangement
in_frame s (misframed n r) = refused n (length s - length r) 0
in_frame s (framed W N T P b z) = items_in s W N T z (read_items P b)

-- refusals 2 to 14, of a book that need not be sound
unfoldable pub arrangement_of : List Record → List ℕ → Answer Arrangement
unfolding in_frame items_in read_items frame
arrangement_of B s = elim (ltb 8192 (length s)) [ true ↦ refused 2 0 0 | false ↦ in_frame s (frame B s) ]

-- 15, where the lent index has room for so many numbers
unfoldable pub room_for : List ℕ → ℕ → List Row → Answer (List Row)
room_for s room q = cond (leb (width * length q) room) (gives q) (refused 15 (length s) 0)

-- what is looked at of a book that need not be sound: at most 16,384 bytes, which is all of a sound one
abbrev pub looked : List ℕ → List Record
looked book = records (take 16384 book)

-- the reading of a book that was checked before
unfoldable pub read_checked : List ℕ → List ℕ → ℕ → Answer (List Row)
unfolding arrangement_of on_answer rows_of room_for records
read_checked book s room = on_answer (arrangement_of (looked book) s) (λ A. room_for s room (rows_of A))

unfoldable pub read : List ℕ → List ℕ → ℕ → Answer (List Row)
unfolding read_checked check is_sound
read book s room = elim (is_sound (check book)) [ true ↦ read_checked book s room | false ↦ refused 1 0 0 ]

-- the lent index afterwards: numbers past the last row stay, on a refusal all do
unfoldable pub index_after : List ℕ → Answer (List Row) → List ℕ
unfolding flat
index_after index (gives q) = flat q ++ drop (width * length q) index
index_after index (refused n p t) = index

-- document 01's numbers of an answer: number (0 for none), place, tag, and the count of rows or of bytes written
pub record Told : Type 0 where
  pub number : ℕ
  pub place : ℕ
  pub tag : ℕ
  pub count : ℕ

unfoldable pub told : {X : Type 0} → (X → ℕ) → Answer X → Told
told size (gives x) = record { number = 0; place = 0; tag = 0; count = size x }
told size (refused n p t) = record { number = n; place = p; tag = t; count = 0 }
