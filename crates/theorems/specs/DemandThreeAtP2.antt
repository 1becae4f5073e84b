-- P2: its bytes, its arrangement, written down, and its rows. What is proved of them stands in proofs/DemandThreeAtP2. Assumes nothing.
use Rattle.std.specs.Prelude.{List, [], ◌∷◌, ℕ}
use Rattle.numbers.specs.Bytes.{bytes}
use Rattle.message.specs.Arrangement.{single, leaf, count, Arrangement}
use Rattle.message.specs.Rows.{Row}
use Rattle.theorems.specs.Examples.{row}

unfoldable pub p2 : List ℕ
unfolding bytes
p2 = bytes "8=FIX.4.4|9=28|35=D|11=A|453=1|448=X|447=B|10=045|"

-- field 11; the count 453 of one instance with fields 448 and 447
unfoldable pub arranged : Arrangement
unfolding bytes
arranged = record {
  version = bytes "FIX.4.4";
  body_length = bytes "28";
  type = bytes "D";
  items = leaf (single 11 (bytes "A")) ∷ count 453 (bytes "1") ((leaf (single 448 (bytes "X")) ∷ leaf (single 447 (bytes "B")) ∷ []) ∷ []) ∷ [];
  check_sum = bytes "045";
}

unfoldable pub rows : List Row
rows =
    row 8 2 7 0 0 0 ∷ row 9 12 2 0 0 0 ∷ row 35 18 1 0 0 0 ∷ row 11 23 1 0 0 0
    ∷ row 453 29 1 0 0 0 ∷ row 448 35 1 1 4 1 ∷ row 447 41 1 1 4 1 ∷ row 10 46 3 0 0 0 ∷ []
