-- What the program prints for any standard input. Assumes nothing.
use Rattle.std.specs.Prelude.{ℕ, ◌+◌, ◌*◌, true, false, List, [], ◌∷◌, ◌++◌, ltb, length, take, drop}
use Rattle.numbers.specs.Bytes.{bytes, le16}
use Rattle.numbers.specs.Decimal.{render}
use Rattle.message.specs.Rows.{Row, width}
use Rattle.reader.specs.Reading.{Answer, gives, refused, read}

-- numbers with a space between, then a newline
unfoldable pub line : List ℕ → List ℕ
line [] = 10 ∷ []
line (n ∷ []) = render n ++ (10 ∷ [])
line (n ∷ m ∷ l) = render n ++ (32 ∷ line (m ∷ l))

-- one line a row, the six numbers; then `OK` and the row count
unfoldable pub row_lines : ℕ → List Row → List ℕ
unfolding line render bytes
row_lines n [] = bytes "OK " ++ line (n ∷ [])
row_lines n (r ∷ q) = line (r.tag ∷ r.value_start ∷ r.value_length ∷ r.depth ∷ r.count_row ∷ r.instance ∷ []) ++ row_lines n q

-- or one line `REFUSED`, number, place, tag
unfoldable pub lines : Answer (List Row) → List ℕ
unfolding row_lines bytes line render
lines (gives q) = row_lines (length q) q
lines (refused n p t) = bytes "REFUSED " ++ line (n ∷ p ∷ t ∷ [])

-- room for any message
abbrev pub full_room : ℕ
full_room = 2048 * width

-- book length, book, message
unfoldable pub decided : List ℕ → Answer (List Row)
unfolding read
decided input =
    elim (ltb (length input) 2) [
      | true ↦ refused 16 0 0
      | false ↦ elim (ltb 16384 (le16 input)) [
        | true ↦ refused 1 0 0
        | false ↦ elim (ltb (length input) (2 + le16 input)) [
          | true ↦ refused 16 0 0
          | false ↦ read (take (le16 input) (drop 2 input)) (drop (2 + le16 input) input) full_room
        ]
      ]
    ]

unfoldable pub printed : List ℕ → List ℕ
unfolding decided lines
printed input = lines (decided input)
