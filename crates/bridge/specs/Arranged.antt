-- What the reader's contract says, in the words of the arrangements that a book permits. No word of a reader's steps. Assumes nothing.
use Rattle.std.specs.Prelude.{◌≡◌, true, ℕ, ◌*◌, ◌<◌, ◌≤◌, List, ◌++◌, map, length, drop}
use Rattle.book.specs.Records.{records}
use Rattle.book.specs.Check.{sound, check}
use Rattle.message.specs.Arrangement.{Arrangement}
use Rattle.message.specs.Written.{written}
use Rattle.message.specs.Permitted.{permitted}
use Rattle.message.specs.Rows.{width, flat, rows_of}
use Rattle.bridge.specs.FieldList.{fields_of, field_at}
use Rattle.bridge.specs.Refused.{Refusal}

-- the book permits the arrangement, and written out it gives the bytes
pub record Gives (book s : List ℕ) (A : Arrangement) : Type 0 where
  pub allowed : permitted (records book) A ≡ true
  pub bytes : written A ≡ s

-- "a sound book, a message of at most 8,192 bytes and an index with room for any such message": six numbers for each of 2,048 rows
pub record IsRoomy (book s index : List ℕ) : Type 0 where
  pub is_sound : check book ≡ sound
  pub short : length s ≤ 8192
  pub room : 12288 ≤ length index

-- the same, with room for this arrangement
pub record Fits (book s index : List ℕ) (A : Arrangement) : Type 0 where
  pub is_sound : check book ≡ sound
  pub short : length s ≤ 8192
  pub room : width * length (rows_of A) ≤ length index

-- the index states the arrangement in n rows, and each stated place is where that field's text stands; what was lent behind them stays
pub record States (A : Arrangement) (s old new : List ℕ) (n : ℕ) : Type 0 where
  pub count : n ≡ length (rows_of A)
  pub index : new ≡ flat (rows_of A) ++ drop (width * n) old
  pub places : map (field_at s) (rows_of A) ≡ fields_of A

-- a refusal's number n, place p and tag t. One line for each way
pub data OfTable (book s index : List ℕ) (n p t : ℕ) : Type 0 where
  -- 1: book not sound, at 0
  of_book : n ≡ 1 → (check book ≡ sound → ⊥) → p ≡ 0 → t ≡ 0 → OfTable book s index n p t
  -- 2 to 14: see `Refusal`
  of_message : check book ≡ sound → Refusal (records book) s n p t → OfTable book s index n p t
  -- 15: an arrangement, but no room for its rows; at the message's length
  of_room : n ≡ 15 → check book ≡ sound → (A : Arrangement) → Gives book s A → length index < width * length (rows_of A) → p ≡ length s → t ≡ 0
      → OfTable book s index n p t
