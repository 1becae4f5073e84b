-- The frame of a message: fields 8, 9 and 35 from the front, 10 by its seven bytes from the end. Refusals 3 to 7. Assumes nothing.
use Rattle.std.specs.Prelude.{ℕ, ◌-◌, ◌%◌, cond, ◌&&◌, List, [], ◌∷◌, ◌++◌, eqb, leb, length, take, drop}
use Rattle.numbers.specs.Bytes.{total, some}
use Rattle.numbers.specs.Decimal.{digits, value_from, value}
use Rattle.book.specs.Records.{Record, LookUp, nothing, found, message_of}
use Rattle.message.specs.Arrangement.{Page}
use Rattle.message.specs.Written.{header}
use Rattle.message.specs.Permitted.{versions, among}
use Rattle.reader.specs.Fields.{Cut, uncut, cut_at, cut}

-- V, N, T, the page of T, the bytes between 35 and 10, ddd; or number and the bytes from the place on
pub data Framed : Type 0 where
  framed : List ℕ → List ℕ → List ℕ → Page → List ℕ → List ℕ → Framed
  misframed : ℕ → List ℕ → Framed

-- the value of a field that begins with p, and the bytes behind it
unfoldable pub field : List ℕ → List ℕ → Cut
unfolding cut
field [] s = cut 1 s
field (a ∷ p) [] = uncut
field (a ∷ p) (b ∷ s) = let rest = field p s in cond (eqb b a) rest uncut

module _ (B : List Record) where
  unfoldable pub listed_as : List ℕ → List ℕ → List ℕ → List ℕ → List ℕ → List ℕ → LookUp → Framed
  listed_as s W N z T b nothing = misframed 7 s
  listed_as s W N z T b (found r) = framed W N T (record { book = B; own = r.members }) b z

  unfoldable pub type_of : List ℕ → List ℕ → List ℕ → List ℕ → Cut → Framed
  type_of s W N z uncut = misframed 7 s
  type_of s W N z (cut_at T b) = cond (some T) (listed_as s W N z T b (message_of B T)) (misframed 7 s)

  -- front: the bytes that N counts; tail: the last seven
  unfoldable pub sum_of : List ℕ → List ℕ → List ℕ → List ℕ → Cut → Framed
  sum_of tail W N front uncut = misframed 5 tail
  sum_of tail W N front (cut_at z []) =
      let typed = type_of (front ++ tail) W N z (field (51 ∷ 53 ∷ 61 ∷ []) front) in
      cond (eqb (length z) 3 && digits z) (cond (eqb (value z) (total (header W N front) % 256)) typed (misframed 6 tail)) (misframed 5 tail)
  sum_of tail W N front (cut_at z (x ∷ r)) = misframed 5 tail

  unfoldable pub count_of : List ℕ → List ℕ → Cut → Framed
  count_of s W uncut = misframed 4 s
  count_of s W (cut_at N r) =
      let tail = drop (length r - 7) r in
      let summed = sum_of tail W N (take (length r - 7) r) (field (49 ∷ 48 ∷ 61 ∷ []) tail) in
      cond (some N && digits N && leb 7 (length r) && eqb (value N) (length r - 7)) summed (misframed 4 s)

  unfoldable pub version_of : List ℕ → Cut → Framed
  version_of s uncut = misframed 3 s
  version_of s (cut_at W r) = let counted = count_of r W (field (57 ∷ 61 ∷ []) r) in cond (among W versions) counted (misframed 3 s)

  unfoldable pub frame : List ℕ → Framed
  unfolding version_of count_of sum_of type_of listed_as field versions among message_of total digits value_from
  frame s = version_of s (field (56 ∷ 61 ∷ []) s)
