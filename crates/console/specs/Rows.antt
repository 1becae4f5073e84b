-- The rows that an index holds. Assumes nothing.
use Rattle.std.specs.Prelude.{ℕ, zero, suc, true, false, List, [], ◌∷◌, leb, length, get_or, drop}
use Rattle.message.specs.Rows.{Row, width}

abbrev pub row_from : List ℕ → Row
row_from l = record { tag = get_or l 0 0; value_start = get_or l 1 0; value_length = get_or l 2 0; depth = get_or l 3 0; count_row = get_or l 4 0; instance = get_or l 5 0 }

-- the first n, each whole six; fewer where the index ends before
unfoldable pub rows_in : ℕ → List ℕ → List Row
rows_in zero l = []
rows_in (suc n) l = elim (leb width (length l)) [ true ↦ row_from l ∷ rows_in n (drop width l) | false ↦ [] ]
