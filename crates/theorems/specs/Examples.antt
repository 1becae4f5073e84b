-- P1 to P14 of document 01: one table. The one claim over it is proved in proofs/Examples. Assumes nothing.
use Rattle.std.specs.Prelude.{ℕ, ◌+◌, ◌*◌, List, [], ◌∷◌, ◌++◌, length}
use Prim.Native.String.{String}
use Rattle.numbers.specs.Bytes.{little_endian}
use Rattle.message.specs.Rows.{Row}
use Rattle.reader.specs.Reading.{Answer, gives, refused}

-- records of the book; members as tag, flag, tag, flag and on
unfoldable pub field_record : ℕ → ℕ → ℕ → List ℕ
unfolding little_endian
field_record tag type partner = little_endian (8 ∷ 1 ∷ tag ∷ type ∷ partner ∷ [])

unfoldable pub message_record : List ℕ → List ℕ → List ℕ
unfolding little_endian
message_record text members = little_endian ((6 + 2 * length members) ∷ 2 ∷ []) ++ text ++ little_endian members

unfoldable pub group_record : ℕ → List ℕ → List ℕ
unfolding little_endian
group_record tag members = little_endian ((4 + 2 * length members) ∷ 3 ∷ tag ∷ members)

unfoldable pub book : List ℕ
unfolding field_record message_record group_record
book =
    field_record 11 1 0
    ++ field_record 95 5 96
    ++ field_record 96 10 95
    ++ field_record 453 7 0
    ++ field_record 448 1 0
    ++ field_record 447 2 0
    ++ field_record 452 4 0
    ++ message_record (68 ∷ 0 ∷ 0 ∷ 0 ∷ []) (11 ∷ 1 ∷ 453 ∷ 0 ∷ 95 ∷ 0 ∷ 96 ∷ 0 ∷ [])
    ++ message_record (48 ∷ 0 ∷ 0 ∷ 0 ∷ []) []
    ++ group_record 453 (448 ∷ 1 ∷ 447 ∷ 1 ∷ 452 ∷ 0 ∷ [])

pub record Example : Type 0 where
  pub message : String
  pub room : ℕ
  pub answer : Answer (List Row)

-- tag, value start, value length, depth, count row, instance
abbrev pub row : ℕ → ℕ → ℕ → ℕ → ℕ → ℕ → Row
row t s n e c j = record { tag = t; value_start = s; value_length = n; depth = e; count_row = c; instance = j }

abbrev pub example : String → ℕ → Answer (List Row) → Example
example m n a = record { message = m; room = n; answer = a }

unfoldable pub table : List Example
table =
    -- P1
    example "8=FIX.4.4|9=5|35=0|10=163|" 24 (gives (row 8 2 7 0 0 0 ∷ row 9 12 1 0 0 0 ∷ row 35 17 1 0 0 0 ∷ row 10 22 3 0 0 0 ∷ []))
    -- P2
    ∷ example "8=FIX.4.4|9=28|35=D|11=A|453=1|448=X|447=B|10=045|" 12288
    (gives
    (row 8 2 7 0 0 0 ∷ row 9 12 2 0 0 0 ∷ row 35 18 1 0 0 0 ∷ row 11 23 1 0 0 0
    ∷ row 453 29 1 0 0 0 ∷ row 448 35 1 1 4 1 ∷ row 447 41 1 1 4 1 ∷ row 10 46 3 0 0 0 ∷ []))
    -- P3
    ∷ example "8=FIX.4.4|9=22|35=D|11=A|95=3|96=a|b|10=023|" 12288
    (gives
    (row 8 2 7 0 0 0 ∷ row 9 12 2 0 0 0 ∷ row 35 18 1 0 0 0 ∷ row 11 23 1 0 0 0
    ∷ row 95 28 1 0 0 0 ∷ row 96 33 3 0 0 0 ∷ row 10 40 3 0 0 0 ∷ []))
    -- P4
    ∷ example "8=FIX.4.4|9=5|35=0|10=164|" 12288 (refused 6 19 0)
    -- P5
    ∷ example "" 12288 (refused 3 0 0)
    -- P6
    ∷ example "8=FIX.4.4|9=6|35=0|10=164|" 12288 (refused 4 10 0)
    -- P7
    ∷ example "8=FIX.4.4|9=5|35=1|10=164|" 12288 (refused 7 14 0)
    -- P8
    ∷ example "8=FIX.4.4|9=5|35=D|10=183|" 12288 (refused 14 19 11)
    -- P9
    ∷ example "8=FIX.4.4|9=22|35=D|11=A|95=2|96=a|b|10=022|" 12288 (refused 12 30 0)
    -- P10
    ∷ example "8=FIX.4.4|9=28|35=D|11=A|453=2|448=X|447=B|10=046|" 12288 (refused 13 43 0)
    -- P11
    ∷ example "8=FIX.4.4|9=28|35=D|11=A|453=1|447=B|448=X|10=045|" 12288 (refused 13 31 0)
    -- P12
    ∷ example "8=FIX.4.4|9=15|35=D|11=A|11=A|10=170|" 12288 (refused 10 25 0)
    -- P13
    ∷ example "8=FIX.4.4|9=11|35=D|011=A|10=245|" 12288 (refused 8 20 0)
    -- P14
    ∷ example "8=FIX.4.4|9=5|35=0|10=163|" 23 (refused 15 26 0)
    ∷ []
