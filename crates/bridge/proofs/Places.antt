-- A written arrangement is its fields one after another, and each row says where its field's value stands. Of any arrangement. Assumes nothing.
use mathlib.Core.Path.{◌≡◌, refl, sym, ap, ◌∙◌}
use mathlib.Core.List.{List, [], ◌∷◌, ◌++◌, map, map-append, append_assoc}
use Prim.Native.Nat.{ℕ, zero, suc, ◌+◌}
use native.Mathlib.Nat.{zero-add}
use native.Mathlib.Omega.{arith}
use lib.ListN.{length, drop, length-append, length-map}
use lib.Seq.{drop_at, drop-drop}
use Rattle.numbers.specs.Decimal.{render}
use Rattle.message.specs.Arrangement.{Piece, single, pair, Node, leaf, count, Item, Items, Arrangement}
use Rattle.message.specs.Written.{put_field, put, put_all, put_node, put_item, body, trailer, written}
use Rattle.message.specs.Rows.{Row, lead, field_size, piece_size, row_of, piece_rows, past_all, rows_all, past_node, past_item, rows_insts, rows_node, rows_item, rows_of}
use Rattle.bridge.specs.FieldList.{Field, field_of, piece_fields, fields_all, fields_node, fields_item, fields_of, put_fields}
use Rattle.bridge.proofs.Sees.{field_is, single_is, pair_is}
use Rattle.bridge.proofs.Accepted.{body_is}
use Rattle.bridge.proofs.Whole.{written_is}

-- what follows what is written may be put behind it
field_append : (t : ℕ) (v r q : List ℕ) → put_field t v r ++ q ≡ put_field t v (r ++ q)
field_append t v r q =
    rw (field_is t v r, field_is t v (r ++ q), append_assoc (render t) (61 ∷ (v ++ (1 ∷ r))) q) (ap (λ x. render t ++ (61 ∷ x)) (append_assoc v (1 ∷ r) q))

put_append : (k : Piece) (r q : List ℕ) → put k r ++ q ≡ put k (r ++ q)
put_append (single t v) r q = rw (single_is t v r, single_is t v (r ++ q)) (field_append t v r q)
put_append (pair l w d v) r q = rw (pair_is l w d v r, pair_is l w d v (r ++ q), ← field_append d v r q) (field_append l w (put_field d v r) q)

all_append : {I : Type 0} (write : I → List ℕ → List ℕ) → ((i : I) (r q : List ℕ) → write i r ++ q ≡ write i (r ++ q))
    → (l : List I) (r q : List ℕ) → put_all write l r ++ q ≡ put_all write l (r ++ q)
unfolding put_all
all_append write h [] r q = refl
all_append write h (i ∷ l) r q = h i (put_all write l r) q ∙ ap (write i) (all_append write h l r q)

node_append : {I : Type 0} (write : I → List ℕ → List ℕ) → ((i : I) (r q : List ℕ) → write i r ++ q ≡ write i (r ++ q))
    → (n : Node I) (r q : List ℕ) → put_node write n r ++ q ≡ put_node write n (r ++ q)
unfolding put_node
node_append write h (leaf k) r q = put_append k r q
node_append write h (count t v l) r q =
    put_append (single t v) (put_all (put_all write) l r) q ∙ ap (put (single t v)) (all_append (put_all write) (all_append write h) l r q)

item_append : (d : ℕ) (i : Item d) (r q : List ℕ) → put_item d i r ++ q ≡ put_item d i (r ++ q)
unfolding put_item
item_append zero i r q = absurd i
item_append (suc d) n r q = node_append (put_item d) (item_append d) n r q

body_append : (a : Items) (q : List ℕ) → body a ++ q ≡ put_all (put_item 5) a q
body_append a q = rw (body_is a) (all_append (put_item 5) (item_append 5) a [] q)

-- the frame is four fields
pub eight : (W r : List ℕ) → put_field 8 W r ≡ 56 ∷ 61 ∷ (W ++ (1 ∷ r))
unfolding put_field
eight W r = refl

pub nine : (N r : List ℕ) → put_field 9 N r ≡ 57 ∷ 61 ∷ (N ++ (1 ∷ r))
unfolding put_field
nine N r = refl

pub thirty_five : (T r : List ℕ) → put_field 35 T r ≡ 51 ∷ 53 ∷ 61 ∷ (T ++ (1 ∷ r))
unfolding put_field
thirty_five T r = refl

pub ten : (z r : List ℕ) → put_field 10 z r ≡ 49 ∷ 48 ∷ 61 ∷ (z ++ (1 ∷ r))
unfolding put_field
ten z r = refl

framed_fields : (A : Arrangement)
    → written A ≡ put_field 8 A.version (put_field 9 A.body_length (put_field 35 A.type (put_all (put_item 5) A.items (put_field 10 A.check_sum []))))
framed_fields A =
    rw (
      written_is A,
      append_assoc A.type (1 ∷ body A.items) (trailer A.check_sum),
      body_append A.items (trailer A.check_sum),
      eight A.version (put_field 9 A.body_length (put_field 35 A.type (put_all (put_item 5) A.items (put_field 10 A.check_sum [])))),
      nine A.body_length (put_field 35 A.type (put_all (put_item 5) A.items (put_field 10 A.check_sum []))),
      thirty_five A.type (put_all (put_item 5) A.items (put_field 10 A.check_sum [])),
      ten A.check_sum [],
    )

-- so it is its fields one after another
fields_join : (a b : List Field) (r : List ℕ) → put_fields (a ++ b) r ≡ put_fields a (put_fields b r)
unfolding put_fields
fields_join [] b r = refl
fields_join (f ∷ a) b r = ap (put_field f.tag f.text) (fields_join a b r)

cons_is : (f : Field) (l : List Field) (r : List ℕ) → put_fields (f ∷ l) r ≡ put_field f.tag f.text (put_fields l r)
unfolding put_fields
cons_is f l r = refl

nil_is : (r : List ℕ) → put_fields [] r ≡ r
unfolding put_fields
nil_is r = refl

piece_flat : (k : Piece) (r : List ℕ) → put k r ≡ put_fields (piece_fields k) r
piece_flat (single t v) r = rw (single_is t v r, cons_is (field_of t v) [] r, nil_is r)
piece_flat (pair l w d v) r = rw (pair_is l w d v r, cons_is (field_of l w) (field_of d v ∷ []) r, cons_is (field_of d v) [] r, nil_is r)

all_flat : {I : Type 0} (write : I → List ℕ → List ℕ) (fields : I → List Field) → ((i : I) (r : List ℕ) → write i r ≡ put_fields (fields i) r)
    → (l : List I) (r : List ℕ) → put_all write l r ≡ put_fields (fields_all fields l) r
unfolding put_all fields_all
all_flat write fields h [] r = sym (nil_is r)
all_flat write fields h (i ∷ l) r = h i (put_all write l r) ∙ ap (put_fields (fields i)) (all_flat write fields h l r) ∙ sym (fields_join (fields i) (fields_all fields l) r)

node_flat : {I : Type 0} (write : I → List ℕ → List ℕ) (fields : I → List Field) → ((i : I) (r : List ℕ) → write i r ≡ put_fields (fields i) r)
    → (n : Node I) (r : List ℕ) → put_node write n r ≡ put_fields (fields_node fields n) r
unfolding put_node fields_node
node_flat write fields h (leaf k) r = piece_flat k r
node_flat write fields h (count t v l) r =
    piece_flat (single t v) (put_all (put_all write) l r)
    ∙ ap (put_fields (field_of t v ∷ [])) (all_flat (put_all write) (fields_all fields) (all_flat write fields h) l r)
    ∙ sym (fields_join (field_of t v ∷ []) (fields_all (fields_all fields) l) r)

item_flat : (d : ℕ) (i : Item d) (r : List ℕ) → put_item d i r ≡ put_fields (fields_item d i) r
unfolding put_item fields_item
item_flat zero i r = absurd i
item_flat (suc d) n r = node_flat (put_item d) (fields_item d) (item_flat d) n r

pub fields_are : (A : Arrangement)
    → fields_of A ≡ field_of 8 A.version ∷ field_of 9 A.body_length ∷ field_of 35 A.type ∷ (fields_all (fields_item 5) A.items ++ (field_of 10 A.check_sum ∷ []))
unfolding fields_of
fields_are A = refl

pub written_flat : (A : Arrangement) → written A ≡ put_fields (fields_of A) []
written_flat A =
    let behind = field_of 10 A.check_sum ∷ [] in
    let inner = fields_all (fields_item 5) A.items ++ behind in
    framed_fields A
    ∙ rw (
      fields_are A,
      cons_is (field_of 8 A.version) (field_of 9 A.body_length ∷ field_of 35 A.type ∷ inner) [],
      cons_is (field_of 9 A.body_length) (field_of 35 A.type ∷ inner) [],
      cons_is (field_of 35 A.type) inner [],
      fields_join (fields_all (fields_item 5) A.items) behind [],
      cons_is (field_of 10 A.check_sum) [] [],
      nil_is [],
      all_flat (put_item 5) (fields_item 5) (item_flat 5) A.items (put_field 10 A.check_sum []),
    )

-- places: what begins at a place of the bytes w
module _ (w : List ℕ) where
  pub value_place : (at t : ℕ) (v r : List ℕ) → drop at w ≡ put_field t v r → drop (at + lead t) w ≡ v ++ (1 ∷ r)
  unfolding lead
  value_place at t v r e =
      sym (drop-drop (lead t) at w) ∙ rw (e, field_is t v r, ← append_assoc (render t) (61 ∷ []) (v ++ (1 ∷ r)))
      (drop_at (render t ++ (61 ∷ [])) (v ++ (1 ∷ r)) (length (render t) + 1) (length-append (render t) (61 ∷ [])))

  field_past : (at t : ℕ) (v r : List ℕ) → drop at w ≡ put_field t v r → drop (at + field_size t v) w ≡ r
  field_past at t v r e =
      let k : at + field_size t v ≡ at + lead t + (length v + 1) = omega arith in
      rw k
      (sym (drop-drop (length v + 1) (at + lead t) w) ∙ rw (value_place at t v r e, ← append_assoc v (1 ∷ []) r)
      (drop_at (v ++ (1 ∷ [])) r (length v + 1) (length-append v (1 ∷ []))))

  piece_past : (at : ℕ) (k : Piece) (r : List ℕ) → drop at w ≡ put k r → drop (at + piece_size k) w ≡ r
  piece_past at (single t v) r e = field_past at t v r (rw (single_is t v r) at e)
  piece_past at (pair l x d v) r e =
      let k : at + (field_size l x + field_size d v) ≡ at + field_size l x + field_size d v = omega arith in
      rw k (field_past (at + field_size l x) d v r (field_past at l x (put_field d v r) (rw (pair_is l x d v r) at e)))

  -- one level, over the one below
  module _ {I : Type 0} (write : I → List ℕ → List ℕ) (past : ℕ → I → ℕ) (behind : (at : ℕ) (i : I) (r : List ℕ) → drop at w ≡ write i r → drop (past at i) w ≡ r) where
    all_past : (at : ℕ) (l : List I) (r : List ℕ) → drop at w ≡ put_all write l r → drop (past_all past at l) w ≡ r
    unfolding put_all past_all
    all_past at [] r e = e
    all_past at (i ∷ l) r e = all_past (past at i) l r (behind at i (put_all write l r) e)

  node_past : {I : Type 0} (write : I → List ℕ → List ℕ) (past : ℕ → I → ℕ) → ((at : ℕ) (i : I) (r : List ℕ) → drop at w ≡ write i r → drop (past at i) w ≡ r)
      → (at : ℕ) (n : Node I) (r : List ℕ) → drop at w ≡ put_node write n r → drop (past_node past at n) w ≡ r
  unfolding put_node past_node
  node_past write past h at (leaf k) r e = piece_past at k r e
  node_past write past h at (count t v l) r e =
      all_past (put_all write) (past_all past) (all_past write past h) (at + field_size t v) l r (piece_past at (single t v) (put_all (put_all write) l r) e)

  item_past : (d at : ℕ) (i : Item d) (r : List ℕ) → drop at w ≡ put_item d i r → drop (past_item d at i) w ≡ r
  unfolding put_item past_item
  item_past zero at i r e = absurd i
  item_past (suc d) at n r e = node_past (put_item d) (past_item d) (item_past d) at n r e

  -- what a row says of its field, it says in every list of rows
  module _ {X : Type 0} (f : Row → X) (g : Field → X) (says : (e c j at t : ℕ) (v r : List ℕ) → drop at w ≡ put_field t v r → f (row_of e c j at t v) ≡ g (field_of t v)) where
    piece_says : (e c j at : ℕ) (k : Piece) (r : List ℕ) → drop at w ≡ put k r → map f (piece_rows e c j at k) ≡ map g (piece_fields k)
    piece_says e c j at (single t v) r h = rw (says e c j at t v r (rw (single_is t v r) at h))
    piece_says e c j at (pair l x d v) r h =
        let p = rw (pair_is l x d v r) at h in
        rw (says e c j at l x (put_field d v r) p, says e c j (at + field_size l x) d v r (field_past at l x (put_field d v r) p))

    module _ {I : Type 0} (write : I → List ℕ → List ℕ) (past : ℕ → I → ℕ) (behind : (at : ℕ) (i : I) (r : List ℕ) → drop at w ≡ write i r → drop (past at i) w ≡ r) (fields : I → List Field) where
      all_says : (rows : ℕ → ℕ → I → List Row) → ((at k : ℕ) (i : I) (r : List ℕ) → drop at w ≡ write i r → map f (rows at k i) ≡ map g (fields i))
          → (at k : ℕ) (l : List I) (r : List ℕ) → drop at w ≡ put_all write l r → map f (rows_all past rows at k l) ≡ map g (fields_all fields l)
      unfolding put_all rows_all fields_all
      all_says rows h at k [] r e = refl
      all_says rows h at k (i ∷ l) r e =
          rw (
            map-append f (rows at k i) (rows_all past rows (past at i) (k + length (rows at k i)) l),
            map-append g (fields i) (fields_all fields l),
            h at k i (put_all write l r) e,
            all_says rows h (past at i) (k + length (rows at k i)) l r (behind at i (put_all write l r) e),
          )

      module _ (rows : ℕ → ℕ → ℕ → ℕ → ℕ → I → List Row) (item : (e c j at k : ℕ) (i : I) (r : List ℕ) → drop at w ≡ write i r → map f (rows e c j at k i) ≡ map g (fields i)) where
        insts_say : (e c j at k : ℕ) (l : List (List I)) (r : List ℕ) → drop at w ≡ put_all (put_all write) l r
            → map f (rows_insts past rows e c j at k l) ≡ map g (fields_all (fields_all fields) l)
        unfolding put_all rows_insts fields_all
        insts_say e c j at k [] r h = refl
        insts_say e c j at k (x ∷ l) r h =
            rw (
              map-append f (rows_all past (rows e c j) at k x) (rows_insts past rows e c (j + 1) (past_all past at x) (k + length (rows_all past (rows e c j) at k x)) l),
              map-append g (fields_all fields x) (fields_all (fields_all fields) l),
              all_says (rows e c j) (item e c j) at k x (put_all (put_all write) l r) h,
              insts_say e c (j + 1) (past_all past at x) (k + length (rows_all past (rows e c j) at k x)) l r (all_past write past behind at x (put_all (put_all write) l r) h),
            )

        node_says : (e c j at k : ℕ) (n : Node I) (r : List ℕ) → drop at w ≡ put_node write n r → map f (rows_node past rows e c j at k n) ≡ map g (fields_node fields n)
        unfolding put_node rows_node fields_node
        node_says e c j at k (leaf x) r h = piece_says e c j at x r h
        node_says e c j at k (count t v l) r h =
            rw (
              says e c j at t v (put_all (put_all write) l r) (rw (single_is t v (put_all (put_all write) l r)) at h),
              insts_say (e + 1) k 1 (at + field_size t v) (k + 1) l r (piece_past at (single t v) (put_all (put_all write) l r) h),
            )

    item_says : (d e c j at k : ℕ) (i : Item d) (r : List ℕ) → drop at w ≡ put_item d i r → map f (rows_item d e c j at k i) ≡ map g (fields_item d i)
    unfolding put_item rows_item fields_item
    item_says zero e c j at k i r h = absurd i
    item_says (suc d) e c j at k n r h = node_says (put_item d) (past_item d) (item_past d) (fields_item d) (rows_item d) (item_says d) e c j at k n r h

-- the rows, one step open
module _ (A : Arrangement) where
  abbrev pub first : ℕ
  first = field_size 8 A.version

  abbrev pub second : ℕ
  second = first + field_size 9 A.body_length

  abbrev pub inner : ℕ
  inner = second + field_size 35 A.type

  pub rows_are : rows_of A
      ≡ row_of 0 0 0 0 8 A.version
      ∷ row_of 0 0 0 first 9 A.body_length
      ∷ row_of 0 0 0 second 35 A.type
      ∷ (rows_all (past_item 5) (rows_item 5 0 0 0) inner 3 A.items ++ (row_of 0 0 0 (past_all (past_item 5) inner A.items) 10 A.check_sum ∷ []))
  unfolding rows_of
  rows_are = refl

  abbrev at_thirty_five : List ℕ
  at_thirty_five = put_field 35 A.type (put_all (put_item 5) A.items (put_field 10 A.check_sum []))

  at_first : drop first (written A) ≡ put_field 9 A.body_length at_thirty_five
  at_first = rw (zero-add first) at (field_past (written A) 0 8 A.version (put_field 9 A.body_length at_thirty_five) (framed_fields A))

  at_second : drop second (written A) ≡ at_thirty_five
  at_second = field_past (written A) first 9 A.body_length at_thirty_five at_first

  at_inner : drop inner (written A) ≡ put_all (put_item 5) A.items (put_field 10 A.check_sum [])
  at_inner = field_past (written A) second 35 A.type (put_all (put_item 5) A.items (put_field 10 A.check_sum [])) at_second

  pub rows_say : {X : Type 0} (f : Row → X) (g : Field → X)
      → ((e c j at t : ℕ) (v r : List ℕ) → drop at (written A) ≡ put_field t v r → f (row_of e c j at t v) ≡ g (field_of t v))
      → map f (rows_of A) ≡ map g (fields_of A)
  rows_say f g says =
      rw (
        rows_are,
        fields_are A,
        map-append f (rows_all (past_item 5) (rows_item 5 0 0 0) inner 3 A.items) (row_of 0 0 0 (past_all (past_item 5) inner A.items) 10 A.check_sum ∷ []),
        map-append g (fields_all (fields_item 5) A.items) (field_of 10 A.check_sum ∷ []),
        says 0 0 0 0 8 A.version (put_field 9 A.body_length at_thirty_five) (framed_fields A),
        says 0 0 0 first 9 A.body_length at_thirty_five at_first,
        says 0 0 0 second 35 A.type (put_all (put_item 5) A.items (put_field 10 A.check_sum [])) at_second,
        all_says (written A) f g says (put_item 5) (past_item 5) (item_past (written A) 5) (fields_item 5) (rows_item 5 0 0 0) (item_says (written A) f g says 5 0 0 0) inner 3 A.items
            (put_field 10 A.check_sum []) at_inner,
        says 0 0 0 (past_all (past_item 5) inner A.items) 10 A.check_sum [] (all_past (written A) (put_item 5) (past_item 5) (item_past (written A) 5) inner A.items (put_field 10 A.check_sum []) at_inner),
      )

  pub count_true : length (rows_of A) ≡ length (fields_of A)
  count_true =
      sym (length-map (rows_of A) (λ r. r.tag)) ∙ ap length (rows_say (λ r. r.tag) (λ f. f.tag) (λ e c j at t v r h. refl)) ∙ length-map (fields_of A) (λ f. f.tag)
