-- What the reading's functions answer that put down rows as they go and build no tree: proofs/Filled shows it equal to Items.
-- Nothing here has to be believed. `w` is a watched tag: whether it was in an instance is known, of another late one it is asked. Assumes nothing.
use Rattle.std.specs.Prelude.{ℕ, zero, suc, ◌+◌, ◌*◌, Bool, false, cond, ◌||◌, List, [], ◌∷◌, ◌++◌, eqb, leb, length}
use Rattle.std.proofs.lemmas.List.Edits.{sets}
use Rattle.numbers.specs.Bytes.{mem, little_endian}
use Rattle.numbers.specs.Decimal.{value}
use Rattle.book.specs.Records.{Record, Member, group_of, is_count, is_bounded}
use Rattle.message.specs.Arrangement.{single, pair, Page}
use Rattle.message.specs.Permitted.{has_tag, Miss, none, lacks, note, lacking}
use Rattle.message.specs.Rows.{Row, piece_size, field_size, piece_rows}
use Rattle.reader.specs.Fields.{torn, peek, Grab, got, fault, grab}
use Rattle.reader.specs.Items.{is_first, has_place, starts}

-- the rows, the next place and the bytes left; or number, tag, and the bytes from the place on; or a late tag that is not watched
pub data Fill : Type 0 where
  full : List Row → ℕ → List ℕ → Fill
  poor : ℕ → ℕ → List ℕ → Fill
  ask : ℕ → Fill

unfoldable pub before : List Row → Fill → Fill
before q (full p a r) = full (q ++ p) a r
before q (poor n t s) = poor n t s
before q (ask t) = ask t

unfoldable pub next : Fill → (List Row → ℕ → List ℕ → Fill) → Fill
next (full q a r) f = before q (f q a r)
next (poor n t s) f = poor n t s
next (ask t) f = ask t

-- a late tag: there already, or passed
abbrev pub late_fill : ℕ → Bool → List ℕ → Fill
late_fill w there s = cond (eqb (peek s) w) (poor (cond there 10 9) 0 s) (ask (peek s))

module _ (P : Page) (w : ℕ) where
  unfoldable pub f_refuse : List Member → Bool → List ℕ → Fill
  f_refuse all hit s =
      let unknown = cond (has_tag (peek s) all) (late_fill w hit s) (poor 9 0 s) in
      let unpaired = cond (has_place P (peek s)) (poor 12 0 s) unknown in
      cond (eqb (peek s) torn) (poor 8 0 s) (cond (is_bounded P.book (peek s)) unpaired unknown)

  unfoldable pub f_close : List Member → (ℕ → Bool) → Bool → Miss → ℕ → List ℕ → Fill
  f_close all stay hit none at s = cond (stay (peek s)) (full [] at s) (f_refuse all hit s)
  f_close all stay hit (lacks t) at s = cond (stay (peek s)) (poor 14 t s) (f_refuse all hit s)

  module _ (read : ℕ → ℕ → List ℕ → Fill) (all : List Member) (stay : ℕ → Bool) where
    unfoldable pub f_members : Bool → Miss → List Member → ℕ → ℕ → List ℕ → Fill
    f_members hit x [] at k s = f_close all stay hit x at s
    f_members hit x (m ∷ ms) at k s =
        let here = next (read at k s) (λ q a r. f_members (eqb w m.tag || hit) x ms a (k + length q) r) in
        let later = f_members hit (note P.book x m) ms at k s in
        cond (eqb (peek s) m.tag) here later

    unfoldable pub f_inst : List Member → ℕ → ℕ → List ℕ → Fill
    f_inst [] at k s = poor 13 0 s
    f_inst (m ∷ ms) at k s =
        let here = next (read at k s) (λ q a r. f_members (eqb w m.tag || false) none ms a (k + length q) r) in
        let fault = cond (starts P all (peek s) || stay (peek s)) (poor 13 0 s) (f_refuse [] false s) in
        cond (eqb (peek s) m.tag) here fault

  -- n instances from number j on
  module _ (read : ℕ → ℕ → ℕ → List ℕ → Fill) (all : List Member) (stay : ℕ → Bool) where
    unfoldable pub f_insts : ℕ → ℕ → List Member → ℕ → ℕ → List ℕ → Fill
    f_insts zero j ms at k s = full [] at s
    f_insts (suc n) j ms at k s = next (f_inst (read j) all stay ms at k s) (λ q a r. f_insts n (j + 1) ms a (k + length q) r)

  unfoldable pub f_closed : List Member → Fill → Fill
  f_closed ms (poor n x s) = poor n x s
  f_closed ms (ask t) = ask t
  f_closed ms (full q a r) = cond (is_first ms (peek r)) (poor 13 0 r) (full q a r)

  -- below: outer tags, depth, count row, instance, place, row number, bytes
  module _ (below : (ℕ → Bool) → ℕ → ℕ → ℕ → ℕ → ℕ → List ℕ → Fill) (outer : ℕ → Bool) where
    unfoldable pub f_group : ℕ → ℕ → ℕ → ℕ → ℕ → List ℕ → Fill
    f_group t n e at k r =
        let ms = group_of P.book t in
        f_closed ms (f_insts (below (λ u. starts P ms u || outer u) (e + 1) k) ms (λ u. is_first ms u || outer u) n 1 ms at (k + 1) r)

    unfoldable pub f_node_by : ℕ → ℕ → ℕ → ℕ → ℕ → Grab → Fill
    f_node_by e c j at k (fault n q) = poor n 0 q
    f_node_by e c j at k (got (single t v) r) =
        let g = before (piece_rows e c j at (single t v)) (f_group t (value v) e (at + field_size t v) k r) in
        cond (is_count P.book t) g (full (piece_rows e c j at (single t v)) (at + field_size t v) r)
    f_node_by e c j at k (got (pair l x d v) r) = full (piece_rows e c j at (pair l x d v)) (at + piece_size (pair l x d v)) r

  unfoldable pub f_item : ℕ → (ℕ → Bool) → ℕ → ℕ → ℕ → ℕ → ℕ → List ℕ → Fill
  f_item zero outer e c j at k s = poor 9 0 s
  f_item (suc d) outer e c j at k s = f_node_by (f_item d) outer e c j at k (grab P.book s)

  unfoldable pub f_ending : Miss → ℕ → Fill
  f_ending none at = full [] at []
  f_ending (lacks t) at = poor 14 t []

  module _ (below : (ℕ → Bool) → ℕ → ℕ → List ℕ → Fill) where
    unfoldable pub f_own : ℕ → List ℕ → ℕ → ℕ → List ℕ → Fill
    f_own zero seen at k [] = f_ending (lacking P.book none P.own seen) at
    f_own zero seen at k (b ∷ s) = poor 8 0 (b ∷ s)
    f_own (suc f) seen at k [] = f_ending (lacking P.book none P.own seen) at
    f_own (suc f) seen at k (b ∷ s) =
        let t = peek (b ∷ s) in
        let here = next (below (λ u. eqb u 0 || starts P P.own u) at k (b ∷ s)) (λ q a r. f_own f (t ∷ seen) a (k + length q) r) in
        let first = cond (mem t seen) (poor 10 0 (b ∷ s)) here in
        cond (starts P P.own t) first (f_refuse [] false (b ∷ s))

  -- from a place and a row number on
  unfoldable pub f_items : ℕ → ℕ → List ℕ → Fill
  f_items at k s = f_own (λ outer at k. f_item 5 outer 0 0 0 at k) (length s) [] at k s

-- down a list to the member with that tag: what was noted on the way, and the members behind it
pub data Seek : Type 0 where
  passed : Miss → Seek
  met : Miss → List Member → Seek

unfoldable pub seek_in : List Record → Miss → List Member → ℕ → Seek
seek_in B x [] t = passed x
seek_in B x (m ∷ ms) t = let later = seek_in B (note B x m) ms t in cond (eqb t m.tag) (met x ms) later

-- rows put from row k on, as far as there is room: so many numbers a row, as `numbers` says
module _ (size : ℕ) (numbers : Row → List ℕ) where
  abbrev pub put_row : List ℕ → ℕ → Row → List ℕ
  put_row i k r = cond (leb (size * k + size) (length i)) (sets i (size * k) (numbers r)) i

  unfoldable pub put_rows : List ℕ → ℕ → List Row → List ℕ
  put_rows i k [] = i
  put_rows i k (r ∷ q) = put_rows (put_row i k r) (suc k) q

abbrev pub row_numbers : Row → List ℕ
row_numbers r = r.tag ∷ r.value_start ∷ r.value_length ∷ r.depth ∷ r.count_row ∷ r.instance ∷ []

unfoldable pub row_bytes : Row → List ℕ
unfolding little_endian
row_bytes r = little_endian (row_numbers r)
