-- An input's book and message, or why there are none. Assumes nothing.
use Rattle.std.specs.Prelude.{ℕ, ◌+◌, true, false, List, Result, Ok, Err, ltb, length, take, drop}
use denote.Bor.{Bor}
use Rattle.numbers.specs.Bytes.{le16}
use Rattle.message.specs.Rows.{Row}
use Rattle.reader.specs.Reading.{Answer, refused, read}
use Rattle.console.specs.Program.{full_room}
use Rattle.console.specs.declared.input.Cut.{Cut}
use Rattle.console.specs.declared.input.Cut.TheVariants.{Large, Bad}

-- document 01's number of each
abbrev pub cut_number : Cut → ℕ
cut_number Large = 1
cut_number Bad = 16

-- book length, book, message
unfoldable pub parts : List ℕ → Result (List ℕ × List ℕ) Cut
parts input =
    elim (ltb (length input) 2) [
      | true ↦ Err Bad
      | false ↦ elim (ltb 16384 (le16 input)) [
        | true ↦ Err Large
        | false ↦ elim (ltb (length input) (2 + le16 input)) [
          | true ↦ Err Bad
          | false ↦ Ok (take (le16 input) (drop 2 input), drop (2 + le16 input) input)
        ]
      ]
    ]

-- the bytes that an answer lends
abbrev pub parts_of : Result (Bor (List ℕ) × Bor (List ℕ)) Cut → Result (List ℕ × List ℕ) Cut
parts_of (Ok p) = Ok (p.0.now, p.1.now)
parts_of (Err c) = Err c

-- what the program answers for them: place 0 and tag 0 on a refusal
abbrev pub answered : Result (List ℕ × List ℕ) Cut → Answer (List Row)
answered (Ok p) = read p.0 p.1 full_room
answered (Err c) = refused (cut_number c) 0 0
