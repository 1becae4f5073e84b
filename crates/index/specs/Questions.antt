-- Questions on any lent numbers: each whole six a row, a shorter rest ignored. Assumes nothing.
use Rattle.std.specs.Prelude.{ℕ, zero, suc, ◌+◌, ◌*◌, ◌/◌, Bool, true, false, cond, ◌&&◌, List, [], ◌∷◌, eqb, leb, ltb, length, take, drop, get_or}
use Rattle.message.specs.Rows.{width}

abbrev pub row_count : List ℕ → ℕ
row_count index = length index / width

-- number i of row k: 0 tag, 1 value start, 2 value length, 3 depth, 4 count row, 5 instance
abbrev pub number : List ℕ → ℕ → ℕ → ℕ
number index k i = get_or index (width * k + i) 0

-- the part of the message that holds the value; empty if there is no such row or its range leaves the message
unfoldable pub value_of : List ℕ → List ℕ → ℕ → List ℕ
value_of index message k =
    let start = number index k 1 in
    let size = number index k 2 in
    cond (ltb k (row_count index) && leb (start + size) (length message)) (take size (drop start message)) []

pub data Found : Type 0 where
  row : ℕ → Found
  absent : Found

-- the lowest of n rows from k on for which the test holds
unfoldable pub lowest : (ℕ → Bool) → ℕ → ℕ → Found
lowest is zero k = absent
lowest is (suc n) k = elim (is k) [ true ↦ row k | false ↦ lowest is n (suc k) ]

-- row k has count row c and instance j; the depth is not compared
abbrev pub of_instance : List ℕ → ℕ → ℕ → ℕ → Bool
of_instance index c j k = eqb (number index k 4) c && eqb (number index k 5) j

-- and tag t
abbrev pub of_field : List ℕ → ℕ → ℕ → ℕ → ℕ → Bool
of_field index c j t k = of_instance index c j k && eqb (number index k 0) t

-- find: given count row, instance and tag
unfoldable pub find : List ℕ → ℕ → ℕ → ℕ → Found
unfolding lowest
find index c j t = lowest (of_field index c j t) (row_count index) 0

-- the lowest row with that count row and instance
unfoldable pub instance_row : List ℕ → ℕ → ℕ → Found
unfolding lowest
instance_row index c j = lowest (of_instance index c j) (row_count index) 0

unfoldable pub if_row : Found → (ℕ → List ℕ) → List ℕ
if_row absent f = []
if_row (row k) f = f k

-- the value of the row that find gives; empty if the tag is absent there
unfoldable pub find_value : List ℕ → List ℕ → ℕ → ℕ → ℕ → List ℕ
unfolding if_row find value_of
find_value index message c j t = if_row (find index c j t) (value_of index message)

-- the walker: instances j, j + 1 and on, ending at the first that has no row; each has a row of its own, so the count of rows bounds them
unfoldable pub walk_from : List ℕ → ℕ → ℕ → ℕ → List ℕ
walk_from index c zero j = []
walk_from index c (suc n) j = if_row (instance_row index c j) (λ k. k ∷ walk_from index c n (suc j))

unfoldable pub walk : List ℕ → ℕ → List ℕ
unfolding walk_from if_row instance_row
walk index c = walk_from index c (row_count index) 1

-- the walker stands at a row, and next is the instance after that row's; where it stands at no row of the index it has not begun, and next is 1
abbrev pub next_instance : List ℕ → ℕ → ℕ
next_instance index k = cond (ltb k (row_count index)) (number index k 5 + 1) 1

-- one step of the walker that stands at k
unfoldable pub step : List ℕ → ℕ → ℕ → Found
unfolding instance_row
step index c k = instance_row index c (next_instance index k)

-- the rows that the walker has still to give
abbrev pub rows_left : List ℕ → ℕ → ℕ → List ℕ
rows_left index c k = walk_from index c (row_count index) (next_instance index k)

-- where it stands then: at the row given, or, at the end, where it stood
abbrev pub standing : Found → ℕ → ℕ
standing (row m) k = m
standing absent k = k

-- what n steps answer, from k on
unfoldable pub steps : List ℕ → ℕ → ℕ → ℕ → List Found
unfolding step
steps index c zero k = []
steps index c (suc n) k = step index c k ∷ steps index c n (standing (step index c k) k)

-- n answers that give the rows of a list, and then no more
unfoldable pub answers : ℕ → List ℕ → List Found
answers zero l = []
answers (suc n) [] = absent ∷ answers n []
answers (suc n) (k ∷ l) = row k ∷ answers n l
