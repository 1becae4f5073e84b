-- The rows that an arrangement states, in message order. No word of a reader. Assumes nothing.
use Rattle.std.specs.Prelude.{ℕ, zero, suc, ◌+◌, List, [], ◌∷◌, ◌++◌, length}
use Rattle.numbers.specs.Decimal.{render}
use Rattle.message.specs.Arrangement.{Piece, single, pair, Node, leaf, count, Item, Arrangement}

-- tag, value start, value length, depth, the row of the group's count, instance
pub record Row : Type 0 where
  pub tag : ℕ
  pub value_start : ℕ
  pub value_length : ℕ
  pub depth : ℕ
  pub count_row : ℕ
  pub instance : ℕ

-- a row's numbers
abbrev pub width : ℕ
width = 6

unfoldable pub flat : List Row → List ℕ
flat [] = []
flat (r ∷ q) = r.tag ∷ r.value_start ∷ r.value_length ∷ r.depth ∷ r.count_row ∷ r.instance ∷ flat q

-- the bytes of a field before its value, and with it
unfoldable pub lead : ℕ → ℕ
unfolding render
lead t = length (render t) + 1

abbrev pub field_size : ℕ → List ℕ → ℕ
field_size t v = lead t + length v + 1

abbrev pub piece_size : Piece → ℕ
piece_size (single t v) = field_size t v
piece_size (pair l w d v) = field_size l w + field_size d v

-- of a field that begins at a place: at depth e, in instance j of the group whose count is row c
abbrev pub row_of : ℕ → ℕ → ℕ → ℕ → ℕ → List ℕ → Row
row_of e c j at t v = record { tag = t; value_start = at + lead t; value_length = length v; depth = e; count_row = c; instance = j }

abbrev pub piece_rows : ℕ → ℕ → ℕ → ℕ → Piece → List Row
piece_rows e c j at (single t v) = row_of e c j at t v ∷ []
piece_rows e c j at (pair l w d v) = row_of e c j at l w ∷ row_of e c j (at + field_size l w) d v ∷ []

-- the place behind a list that begins at a place
module _ {I : Type 0} (past : ℕ → I → ℕ) where
  unfoldable pub past_all : ℕ → List I → ℕ
  past_all at [] = at
  past_all at (i ∷ l) = past_all (past at i) l

-- rows of a list, from a place and a row number on
module _ {I : Type 0} (past : ℕ → I → ℕ) (rows : ℕ → ℕ → I → List Row) where
  unfoldable pub rows_all : ℕ → ℕ → List I → List Row
  rows_all at k [] = []
  rows_all at k (i ∷ l) = rows at k i ++ rows_all (past at i) (k + length (rows at k i)) l

unfoldable pub past_node : {I : Type 0} → (ℕ → I → ℕ) → ℕ → Node I → ℕ
past_node past at (leaf k) = at + piece_size k
past_node past at (count t v l) = past_all (past_all past) (at + field_size t v) l

unfoldable pub past_item : (d : ℕ) → ℕ → Item d → ℕ
past_item zero at i = absurd i
past_item (suc d) at n = past_node (past_item d) at n

module _ {I : Type 0} (past : ℕ → I → ℕ) (rows : ℕ → ℕ → ℕ → ℕ → ℕ → I → List Row) where
  -- the instances from number j on
  unfoldable pub rows_insts : ℕ → ℕ → ℕ → ℕ → ℕ → List (List I) → List Row
  rows_insts e c j at k [] = []
  rows_insts e c j at k (x ∷ l) =
      rows_all past (rows e c j) at k x
      ++ rows_insts e c (j + 1) (past_all past at x) (k + length (rows_all past (rows e c j) at k x)) l

  -- the row k of the count is the count row of its instances' fields
  unfoldable pub rows_node : ℕ → ℕ → ℕ → ℕ → ℕ → Node I → List Row
  rows_node e c j at k (leaf x) = piece_rows e c j at x
  rows_node e c j at k (count t v l) = piece_rows e c j at (single t v) ++ rows_insts (e + 1) k 1 (at + field_size t v) (k + 1) l

unfoldable pub rows_item : (d : ℕ) → ℕ → ℕ → ℕ → ℕ → ℕ → Item d → List Row
rows_item zero e c j at k i = absurd i
rows_item (suc d) e c j at k n = rows_node (past_item d) (rows_item d) e c j at k n

-- those of 8, 9, 35 and 10 included
unfoldable pub rows_of : Arrangement → List Row
unfolding lead past_all rows_all past_node past_item rows_insts rows_node rows_item
rows_of A =
    let nine = field_size 8 A.version in
    let thirty_five = nine + field_size 9 A.body_length in
    let at = thirty_five + field_size 35 A.type in
    row_of 0 0 0 0 8 A.version
    ∷ row_of 0 0 0 nine 9 A.body_length
    ∷ row_of 0 0 0 thirty_five 35 A.type
    ∷ (rows_all (past_item 5) (rows_item 5 0 0 0) at 3 A.items
    ++ (row_of 0 0 0 (past_all (past_item 5) at A.items) 10 A.check_sum ∷ []))
