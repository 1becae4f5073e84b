-- The groups of an arrangement: the row of each count, its number, and the rows at which its instances begin. No word of an index. Assumes nothing.
use Rattle.std.specs.Prelude.{ℕ, zero, suc, ◌+◌, List, [], ◌∷◌, ◌++◌}
use Rattle.numbers.specs.Decimal.{value}
use Rattle.message.specs.Arrangement.{Piece, single, pair, Node, leaf, count, Item, Arrangement}

pub record Group : Type 0 where
  pub row : ℕ
  pub number : ℕ
  pub starts : List ℕ

-- how many fields
abbrev pub piece_count : Piece → ℕ
piece_count (single t v) = 1
piece_count (pair l w d v) = 2

module _ {I : Type 0} (fields : I → ℕ) where
  unfoldable pub count_all : List I → ℕ
  count_all [] = 0
  count_all (i ∷ l) = fields i + count_all l

  -- things one after another from a row on: the row at which each begins
  unfoldable pub starts_from : ℕ → List I → List ℕ
  starts_from k [] = []
  starts_from k (i ∷ l) = k ∷ starts_from (k + fields i) l

  unfoldable pub groups_all : (ℕ → I → List Group) → ℕ → List I → List Group
  groups_all groups k [] = []
  groups_all groups k (i ∷ l) = groups k i ++ groups_all groups (k + fields i) l

unfoldable pub count_node : {I : Type 0} → (I → ℕ) → Node I → ℕ
count_node fields (leaf k) = piece_count k
count_node fields (count t v l) = suc (count_all (count_all fields) l)

unfoldable pub count_item : (d : ℕ) → Item d → ℕ
count_item zero i = absurd i
count_item (suc d) n = count_node (count_item d) n

-- from row k on
module _ {I : Type 0} (fields : I → ℕ) (groups : ℕ → I → List Group) where
  unfoldable pub groups_node : ℕ → Node I → List Group
  groups_node k (leaf x) = []
  groups_node k (count t v l) =
      record { row = k; number = value v; starts = starts_from (count_all fields) (suc k) l }
      ∷ groups_all (count_all fields) (groups_all fields groups) (suc k) l

unfoldable pub groups_item : (d : ℕ) → ℕ → Item d → List Group
groups_item zero k i = absurd i
groups_item (suc d) k n = groups_node (count_item d) (groups_item d) k n

-- rows 0, 1 and 2 are fields 8, 9 and 35
unfoldable pub groups_of : Arrangement → List Group
unfolding count_all starts_from groups_all count_node count_item groups_node groups_item
groups_of A = groups_all (count_item 5) (groups_item 5) 3 A.items
