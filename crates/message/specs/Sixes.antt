-- The code's row, as the row of the definitions and as its six numbers. Assumes nothing.
use Rattle.std.specs.Prelude.{ℕ, List, [], ◌∷◌, get_or}
use Rattle.message.specs.Rows.{Row}
use Rattle.message.specs.declared.Row as Code

-- the row that it states
abbrev pub row_in : Code.Row → Row
row_in r = record { tag = r.tag; value_start = r.start; value_length = r.length; depth = r.depth; count_row = r.count; instance = r.instance }

-- its numbers
abbrev pub six_of : Code.Row → List ℕ
six_of r = r.tag ∷ r.start ∷ r.length ∷ r.depth ∷ r.count ∷ r.instance ∷ []

-- the row of six numbers
abbrev pub row_from : List ℕ → Code.Row
row_from l = record { tag = get_or l 0 0; start = get_or l 1 0; length = get_or l 2 0; depth = get_or l 3 0; count = get_or l 4 0; instance = get_or l 5 0 }
