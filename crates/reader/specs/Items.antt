-- The reading between 35 and 10: step 3 of "At a field", and the end. An instance walks down its member list: a member whose tag is not
-- at the head is passed, and noted if it is required; nothing is refused before the list is at its end. Assumes nothing.
use Rattle.std.specs.Prelude.{ℕ, zero, suc, Bool, true, false, cond, ◌&&◌, ◌||◌, not, eqb, length}
use mathlib.Core.List.{List, [], ◌∷◌}
use Rattle.numbers.specs.Bytes.{mem}
use Rattle.numbers.specs.Decimal.{value}
use Rattle.book.specs.Records.{Record, Member, type_of, group_of, is_count, is_bounded}
use Rattle.message.specs.Arrangement.{single, pair, Node, leaf, count, Item, Items, Page}
use Rattle.message.specs.Permitted.{has_tag, Miss, none, lacks, note, lacking}
use Rattle.reader.specs.Fields.{torn, peek, Grab, got, fault, grab}

-- what was read and the bytes left; or number, tag, and the bytes from the place on; or a member that comes too late in its instance,
-- which was there already or was passed
pub data Out (X : Type 0) : Type 0 where
  done : X → List ℕ → Out X
  bad : ℕ → ℕ → List ℕ → Out X
  late : Bool → List ℕ → Out X

unfoldable pub and_then : {X Y : Type 0} → Out X → (X → List ℕ → Out Y) → Out Y
and_then (done x r) f = f x r
and_then (bad n t s) f = bad n t s
and_then (late b s) f = late b s

unfoldable pub onto : {X : Type 0} → X → Out (List X) → Out (List X)
onto x (done l r) = done (x ∷ l) r
onto x (bad n t s) = bad n t s
onto x (late b s) = late b s

abbrev pub is_first : List Member → ℕ → Bool
is_first [] t = false
is_first (m ∷ ms) t = eqb t m.tag

-- the tag stands in the list, or in a group opened below it, d levels deep at most
unfoldable pub stands_in : (ℕ → Bool) → ℕ → List Member → Bool
stands_in below t [] = false
stands_in below t (m ∷ ms) = elim (eqb t m.tag || below m.tag) [ true ↦ true | false ↦ stands_in below t ms ]

unfoldable pub stands_under : List Record → ℕ → ℕ → ℕ → Bool
stands_under B zero t c = false
stands_under B (suc d) t c = let inside = stands_in (stands_under B d t) t (group_of B c) in cond (is_count B c) inside false

unfoldable pub has_place : Page → ℕ → Bool
unfolding stands_in stands_under
has_place P t = stands_in (stands_under P.book 4 t) t P.own

module _ (P : Page) where
  -- a field may begin with this tag in this list; a data follows its Length
  abbrev pub starts : List Member → ℕ → Bool
  starts ms t = has_tag t ms && not (is_bounded P.book t)

  -- a tag that leads no further; `all` is the list of the instance in hand, `seen` its tags
  unfoldable pub refuse : {X : Type 0} → List Member → List ℕ → List ℕ → Out X
  refuse all seen s =
      let unknown = cond (has_tag (peek s) all) (late (mem (peek s) seen) s) (bad 9 0 s) in
      let unpaired = cond (has_place P (peek s)) (bad 12 0 s) unknown in
      cond (eqb (peek s) torn) (bad 8 0 s) (cond (is_bounded P.book (peek s)) unpaired unknown)

  -- the end of an instance; `stay` are the tags that may end it
  unfoldable pub close : {I : Type 0} → List Member → (ℕ → Bool) → List ℕ → Miss → List ℕ → Out (List I)
  close all stay seen none s = cond (stay (peek s)) (done [] s) (refuse all seen s)
  close all stay seen (lacks t) s = cond (stay (peek s)) (bad 14 t s) (refuse all seen s)

  module _ {I : Type 0} (read : List ℕ → Out I) (all : List Member) (stay : ℕ → Bool) where
    -- the members that may still come; `seen` are those of this instance
    unfoldable pub members : List ℕ → Miss → List Member → List ℕ → Out (List I)
    members seen x [] s = close all stay seen x s
    members seen x (m ∷ ms) s =
        let here = and_then (read s) (λ i r. onto i (members (m.tag ∷ seen) x ms r)) in
        let later = members seen (note P.book x m) ms s in
        cond (eqb (peek s) m.tag) here later

    -- another member before any instance is 13, and so is a group that ends before it
    unfoldable pub inst : List Member → List ℕ → Out (List I)
    inst [] s = bad 13 0 s
    inst (m ∷ ms) s =
        let here = and_then (read s) (λ i r. onto i (members (m.tag ∷ []) none ms r)) in
        let fault = cond (starts all (peek s) || stay (peek s)) (bad 13 0 s) (refuse [] [] s) in
        cond (eqb (peek s) m.tag) here fault

    unfoldable pub insts : ℕ → List Member → List ℕ → Out (List (List I))
    insts zero ms s = done [] s
    insts (suc n) ms s = and_then (inst ms s) (λ x r. onto x (insts n ms r))

  -- the first member once more is an instance beyond n
  unfoldable pub closed : {I : Type 0} → List Member → ℕ → List ℕ → Out (List (List I)) → Out (Node I)
  closed ms t v (bad n x s) = bad n x s
  closed ms t v (late b s) = late b s
  closed ms t v (done l r) = cond (is_first ms (peek r)) (bad 13 0 r) (done (count t v l) r)

  -- an item; `below` reads one level down, `outer` are the tags of the open lists
  module _ {I : Type 0} (below : (ℕ → Bool) → List ℕ → Out I) (outer : ℕ → Bool) where
    unfoldable pub group : ℕ → List ℕ → List ℕ → Out (Node I)
    group t v r =
        let ms = group_of P.book t in
        closed ms t v (insts (below (λ u. starts ms u || outer u)) ms (λ u. is_first ms u || outer u) (value v) ms r)

    unfoldable pub node_by : Grab → Out (Node I)
    node_by (fault n q) = bad n 0 q
    node_by (got (single t v) r) = let g = group t v r in cond (is_count P.book t) g (done (leaf (single t v)) r)
    node_by (got (pair l w d v) r) = done (leaf (pair l w d v)) r

  unfoldable pub read_item : (d : ℕ) → (ℕ → Bool) → List ℕ → Out (Item d)
  read_item zero outer s = bad 9 0 s
  read_item (suc d) outer s = node_by (read_item d) outer (grab P.book s)

  unfoldable pub ending : {I : Type 0} → Miss → Out (List I)
  ending none = done [] []
  ending (lacks t) = bad 14 t []

  -- the message's own list; the first number bounds the fields: the count of the bytes is enough
  module _ {I : Type 0} (below : (ℕ → Bool) → List ℕ → Out I) where
    unfoldable pub own_list : ℕ → List ℕ → List ℕ → Out (List I)
    own_list zero seen [] = ending (lacking P.book none P.own seen)
    own_list zero seen (b ∷ s) = bad 8 0 (b ∷ s)
    own_list (suc f) seen [] = ending (lacking P.book none P.own seen)
    own_list (suc f) seen (b ∷ s) =
        let t = peek (b ∷ s) in
        let here = and_then (below (λ u. eqb u 0 || starts P.own u) (b ∷ s)) (λ i r. onto i (own_list f (t ∷ seen) r)) in
        let first = cond (mem t seen) (bad 10 0 (b ∷ s)) here in
        cond (starts P.own t) first (refuse [] [] (b ∷ s))

  unfoldable pub read_items : List ℕ → Out Items
  unfolding own_list ending read_item node_by group closed insts inst members close refuse and_then onto has_place has_tag note lacking grab peek type_of group_of
  read_items s = own_list (read_item 5) (length s) [] s
