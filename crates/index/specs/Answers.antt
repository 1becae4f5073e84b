-- What the code's types say: the answer `Found`, a row and a walker. Assumes nothing.
use Rattle.std.specs.Prelude.{◌≡◌, refl, ℕ, List, Option, Some, None, cond, ltb}
use Rattle.std.proofs.Common.{ap, arith}
use Rattle.message.specs.declared.Row as R
use Rattle.index.specs.Questions as Q
use Rattle.index.specs.declared.Found.{Found}
use Rattle.index.specs.declared.Found.TheVariants.{Row, Absent}
use Rattle.index.specs.declared.Walker.{Walker}

abbrev pub found_of : Found → Q.Found
found_of (Row k) = Q.row k
found_of Absent = Q.absent

-- an answer has one case and one row, so an equation of `found_of r` determines r
pub found_of_injective : (r s : Found) → found_of r ≡ found_of s → r ≡ s
found_of_injective (Row k) (Row m) e = let h : k ≡ m = cc in ap Row h
found_of_injective (Row k) Absent e = let z : ◌≡◌ {A = ℕ} 0 1 = cc in absurd (omega arith)
found_of_injective Absent (Row m) e = let z : ◌≡◌ {A = ℕ} 0 1 = cc in absurd (omega arith)
found_of_injective Absent Absent e = refl

-- what a search gave
abbrev pub found_from : Option ℕ → Q.Found
found_from (Some k) = Q.row k
found_from None = Q.absent

-- row k of an index, and the same if the index has it
abbrev pub row_of : List ℕ → ℕ → R.Row
row_of index k = record { tag = Q.number index k 0; start = Q.number index k 1; length = Q.number index k 2; depth = Q.number index k 3; count = Q.number index k 4; instance = Q.number index k 5 }

abbrev pub row_at : List ℕ → ℕ → Option R.Row
row_at index k = cond (ltb k (Q.row_count index)) (Some (row_of index k)) None

-- what a walker gives as an iterator
abbrev pub rows_of_walker : Walker → List ℕ
rows_of_walker w = Q.rows_left w.rows.now w.count w.row
