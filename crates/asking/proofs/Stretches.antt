-- The rows of items are such stretches. Of any arrangement in which no list has a tag twice. Assumes nothing.
use mathlib.Core.Path.{◌≡◌, refl, sym, ap, ◌∙◌}
use mathlib.Core.Bool.{Bool, true, false, cond, ◌&&◌, not}
use mathlib.Core.List.{List, [], ◌∷◌, ◌++◌}
use mathlib.Core.Logic.{inl, inr, ⊎_elim}
use Prim.Native.Nat.{ℕ, zero, suc, ◌+◌, ◌≤◌, ◌<◌}
use native.Mathlib.Omega.{arith}
use native.Mathlib.Numerals.{add-one}
use lib.Dec.{eqb}
use lib.ListN.{length, length-append}
use borrow.Author.Tests.{ne_eqb, eq-eqb, not-true}
use Rattle.numbers.specs.Bytes.{mem}
use Rattle.numbers.specs.Decimal.{value}
use Rattle.numbers.proofs.Tests.{clash, and_left, or_left}
use Rattle.message.specs.Arrangement.{single, pair, Node, leaf, count, Item}
use Rattle.message.specs.Rows.{Row, field_size, row_of, past_all, rows_all, past_item, rows_insts, rows_node, rows_item}
use Rattle.index.specs.Questions.{row}
use Rattle.bridge.proofs.Lists.{distinct, disjoint, mem_join, mem_behind, distinct_left, distinct_right}
use Rattle.asking.specs.Groups.{Group, count_all, starts_from, groups_all, count_node, count_item, groups_node, groups_item}
use Rattle.asking.specs.Once.{node_tags, item_tags, tags_all, Each, OnceIn, OnceNode, Once}
use Rattle.asking.proofs.FirstRow.{first_row, of_group, of_key}
use Rattle.asking.proofs.Segments.{Rows, Numbered, Groups, rows_map, numbered_map, numbered_both, groups_map, first_here, first_next, first_none, first_behind, start_of, In, FoundAt, Walks, Stretch, joined}

-- a row is found by its own key
own_key : (r : Row) → of_key r.count_row r.instance r.tag r ≡ true
own_key r = rw (eq-eqb r.count_row r.count_row refl, eq-eqb r.instance r.instance refl, eq-eqb r.tag r.tag refl)

-- the fields of instance j with one of these tags
abbrev pub At : ℕ → List ℕ → ℕ → ℕ → Type 0
At j T a t = (a ≡ j) × (mem t T ≡ true)

pub empty : (c lo k : ℕ) (J : ℕ → ℕ → Type 0) → Stretch c lo k J [] []
empty c lo k J = record { rows = tt; groups = tt; finds = tt }

mem_one : (t : ℕ) → mem t (t ∷ []) ≡ true
unfolding mem
mem_one t = rw (eq-eqb t t refl)

mem_first : (t : ℕ) (l : List ℕ) → mem t (t ∷ l) ≡ true
unfolding mem
mem_first t l = rw (eq-eqb t t refl)

mem_second : (t u : ℕ) → mem t (u ∷ t ∷ []) ≡ true
unfolding mem
mem_second t u = rw (eq-eqb t t refl) (mathlib.Core.Bool.or-true (eqb t u))

two_differ : (t u : ℕ) → distinct (t ∷ u ∷ []) ≡ true → (t ≡ u → ⊥)
unfolding distinct mem
two_differ t u d e = clash (eqb t u) (eq-eqb t u e) (or_left (eqb t u) _ (not-true _ (and_left (not (mem t (u ∷ []))) _ d)))

-- one row, and two of different tags
pub one_row : (e c lo j at k t : ℕ) (v : List ℕ) → Stretch c lo k (At j (t ∷ [])) (row_of e c j at t v ∷ []) []
one_row e c lo j at k t v =
    let r = row_of e c j at t v in
    record { rows = (inl (refl, (refl, mem_one t)), tt); groups = tt; finds = (first_here (of_key c j t) k (row_of e c j at t v) [] (own_key (row_of e c j at t v)), tt) }

two_rows : (e c lo j at b k t u : ℕ) (v w : List ℕ) → distinct (t ∷ u ∷ []) ≡ true → Stretch c lo k (At j (t ∷ u ∷ [])) (row_of e c j at t v ∷ row_of e c j b u w ∷ []) []
two_rows e c lo j at b k t u v w d = record {
  rows = (inl (refl, (refl, mem_first t (u ∷ []))), (inl (refl, (refl, mem_second u t)), tt));
  groups = tt;
  finds = (
    first_here (of_key c j t) k (row_of e c j at t v) (row_of e c j b u w ∷ []) (own_key (row_of e c j at t v)),
    (
      first_next (of_key c j u) k (row_of e c j at t v) (row_of e c j b u w ∷ []) unlike ∙ first_here (of_key c j u) (suc k) (row_of e c j b u w) [] (own_key (row_of e c j b u w)),
      tt,
    ),
  );
}
  where
    unlike : of_key c j u (row_of e c j at t v) ≡ false
    unlike = rw (eq-eqb c c refl, eq-eqb j j refl, ne_eqb t u (two_differ t u d))

-- the first of a list of rows
pub record Head (c j : ℕ) (s : List Row) : Type 0 where
  pub top : Row
  pub more : List Row
  pub is : s ≡ top ∷ more
  pub count : top.count_row ≡ c
  pub instance : top.instance ≡ j

head_long : (c j : ℕ) (s : List Row) → Head c j s → 1 ≤ length s
head_long c j s h = rw h.is (omega arith)

head_join : (c j : ℕ) (s q : List Row) → Head c j s → Head c j (s ++ q)
head_join c j s q h = record { top = h.top; more = h.more ++ q; is = rw h.is; count = h.count; instance = h.instance }

head_first : (c j k : ℕ) (s : List Row) → Head c j s → first_row (of_group c j) k s ≡ row k
head_first c j k s h = rw h.is (first_here (of_group c j) k h.top h.more (rw (h.count, h.instance, eq-eqb c c refl, eq-eqb j j refl)))

-- one level, over the one below
module _ {I : Type 0} (past : ℕ → I → ℕ) (rows : ℕ → ℕ → ℕ → ℕ → ℕ → I → List Row) (fields : I → ℕ) (groups : ℕ → I → List Group) (tags : I → List ℕ) (once : I → Type 0)
    (size : (e c j at k : ℕ) (i : I) → length (rows e c j at k i) ≡ fields i)
    (head : (e c j at k : ℕ) (i : I) → Head c j (rows e c j at k i))
    (item : (e c j at k : ℕ) (i : I) → c < k → distinct (tags i) ≡ true → once i → Stretch c k k (At j (tags i)) (rows e c j at k i) (groups k i)) where
  all_size : (e c j at k : ℕ) (l : List I) → length (rows_all past (rows e c j) at k l) ≡ count_all fields l
  unfolding rows_all count_all
  all_size e c j at k [] = refl
  all_size e c j at k (i ∷ l) =
      omega (
        arith,
        length-append (rows e c j at k i) (rows_all past (rows e c j) (past at i) (k + length (rows e c j at k i)) l),
        size e c j at k i,
        all_size e c j (past at i) (k + length (rows e c j at k i)) l,
      )

  pub all_stretch : (e c j at k : ℕ) (l : List I) → c < k → distinct (tags_all tags l) ≡ true → Each once l
      → Stretch c k k (At j (tags_all tags l)) (rows_all past (rows e c j) at k l) (groups_all fields groups k l)
  unfolding rows_all groups_all tags_all
  all_stretch e c j at k [] h d o = empty c k k (At j [])
  all_stretch e c j at k (i ∷ l) h d o =
      let m = k + length (rows e c j at k i) in
      let y = all_stretch e c j (past at i) (k + length (rows e c j at k i)) l (omega (arith, h)) (distinct_right (tags i) (tags_all tags l) d) o.1 in
      let x = item e c j at k i h (distinct_left (tags i) (tags_all tags l) d) o.0 in
      rw (← size e c j at k i)
      (joined c k k (k + length (rows e c j at k i)) (At j (tags i)) (At j (tags_all tags l)) (At j (tags i ++ tags_all tags l))
      (rows e c j at k i) (rows_all past (rows e c j) (past at i) (k + length (rows e c j at k i)) l) (groups k i) (groups_all fields groups (k + length (rows e c j at k i)) l) x y refl h (omega arith)
      (λ a t p q. clash (mem t (tags i)) p.1 (disjoint t (tags i) (tags_all tags l) d q.1))
      (λ a t p. (p.0, mem_join t (tags i) (tags_all tags l) ∙ rw p.1))
      (λ a t p. (p.0, mem_behind t (tags i) (tags_all tags l) p.1)))

  instance_head : (e c j at k : ℕ) (x : List I) → OnceIn tags once x → Head c j (rows_all past (rows e c j) at k x)
  instance_head e c j at k x o = rw o.is (go o.first o.rest)
    where
      go : (i : I) (l : List I) → Head c j (rows_all past (rows e c j) at k (i ∷ l))
      go i l = unfold rows_all in head_join c j (rows e c j at k i) (rows_all past (rows e c j) (past at i) (k + length (rows e c j at k i)) l) (head e c j at k i)

  insts_size : (e c j at k : ℕ) (l : List (List I)) → length (rows_insts past rows e c j at k l) ≡ count_all (count_all fields) l
  unfolding rows_insts count_all
  insts_size e c j at k [] = refl
  insts_size e c j at k (x ∷ l) =
      omega (
        arith,
        length-append (rows_all past (rows e c j) at k x) (rows_insts past rows e c (j + 1) (past_all past at x) (k + length (rows_all past (rows e c j) at k x)) l),
        all_size e c j at k x,
        insts_size e c (j + 1) (past_all past at x) (k + length (rows_all past (rows e c j) at k x)) l,
      )

  insts_long : (e c j at k : ℕ) (l : List (List I)) → Each (OnceIn tags once) l → length l ≤ length (rows_insts past rows e c j at k l)
  unfolding rows_insts
  insts_long e c j at k [] o = omega arith
  insts_long e c j at k (x ∷ l) o =
      omega (
        arith,
        length-append (rows_all past (rows e c j) at k x) (rows_insts past rows e c (j + 1) (past_all past at x) (k + length (rows_all past (rows e c j) at k x)) l),
        head_long c j (rows_all past (rows e c j) at k x) (instance_head e c j at k x o.0),
        insts_long e c (j + 1) (past_all past at x) (k + length (rows_all past (rows e c j) at k x)) l o.1,
      )

  -- instances from number j on
  insts_stretch : (e c j at k : ℕ) (l : List (List I)) → c < k → Each (OnceIn tags once) l
      → Stretch c k k (λ a t. j ≤ a) (rows_insts past rows e c j at k l) (groups_all (count_all fields) (groups_all fields groups) k l)
  unfolding rows_insts groups_all
  insts_stretch e c j at k [] h o = empty c k k (λ a t. j ≤ a)
  insts_stretch e c j at k (x ∷ l) h o =
      let y = insts_stretch e c (j + 1) (past_all past at x) (k + length (rows_all past (rows e c j) at k x)) l (omega (arith, h)) o.1 in
      rw (← all_size e c j at k x)
      (joined c k k (k + length (rows_all past (rows e c j) at k x)) (At j (tags_all tags x)) (λ a t. j + 1 ≤ a) (λ a t. j ≤ a)
      (rows_all past (rows e c j) at k x) (rows_insts past rows e c (j + 1) (past_all past at x) (k + length (rows_all past (rows e c j) at k x)) l)
      (groups_all fields groups k x) (groups_all (count_all fields) (groups_all fields groups) (k + length (rows_all past (rows e c j) at k x)) l)
      (all_stretch e c j at k x h o.0.alone o.0.below) y refl h (omega arith)
      (λ a t p q. omega (arith, p.0, q))
      (λ a t p. omega (arith, p.0))
      (λ a t p. omega (arith, p)))

  -- the row at which each instance begins
  insts_each : (e c i at k : ℕ) (l : List (List I)) (j n : ℕ) → i + j ≡ n → c < k → Each (OnceIn tags once) l
      → first_row (of_group c n) k (rows_insts past rows e c i at k l) ≡ start_of (starts_from (count_all fields) k l) j
  unfolding rows_insts starts_from start_of
  insts_each e c i at k [] j n w h o = first_none (of_group c n) k [] tt
  insts_each e c i at k (x ∷ l) zero n w h o =
      let z : n ≡ i = omega (arith, w) in
      rw z
      (head_first c i k (rows_all past (rows e c i) at k x ++ rows_insts past rows e c (i + 1) (past_all past at x) (k + length (rows_all past (rows e c i) at k x)) l)
      (head_join c i (rows_all past (rows e c i) at k x) (rows_insts past rows e c (i + 1) (past_all past at x) (k + length (rows_all past (rows e c i) at k x)) l) (instance_head e c i at k x o.0)))
  insts_each e c i at k (x ∷ l) (suc j) n w h o =
      let s = rows_all past (rows e c i) at k x in
      let y = all_stretch e c i at k x h o.0.alone o.0.below in
      first_behind (of_group c n) k (k + length (rows_all past (rows e c i) at k x)) (rows_all past (rows e c i) at k x)
      (rows_insts past rows e c (i + 1) (past_all past at x) (k + length (rows_all past (rows e c i) at k x)) l) refl
      (rows_map (In c k (k + length (rows_all past (rows e c i) at k x)) (At i (tags_all tags x))) (λ r. of_group c n r ≡ false) other (rows_all past (rows e c i) at k x) y.rows)
      ∙ insts_each e c (i + 1) (past_all past at x) (k + length (rows_all past (rows e c i) at k x)) l j n (omega (arith, w)) (omega (arith, h)) o.1
      ∙ ap (λ m. start_of (starts_from (count_all fields) (k + m) l) j) (all_size e c i at k x)
    where
      other : (r : Row) → In c k (k + length (rows_all past (rows e c i) at k x)) (At i (tags_all tags x)) r → of_group c n r ≡ false
      other r (inl p) = rw (eq-eqb r.count_row c p.0, ne_eqb r.instance n (λ q. omega (arith, q, w, p.1.0)))
      other r (inr p) = rw (ne_eqb r.count_row c (λ q. omega (arith, q, h, p.0)))

  starts_length : (k : ℕ) (l : List (List I)) → length (starts_from (count_all fields) k l) ≡ length l
  unfolding starts_from
  starts_length k [] = refl
  starts_length k (x ∷ l) = ap suc (starts_length (k + count_all fields x) l)

  -- a count, then what stands in its instances, from the row behind it on
  module _ (e c j at k t n : ℕ) (v : List ℕ) (s : List Row) (ks : List ℕ) (l : List Group) (low : c < k) (x : Stretch k (suc k) (suc k) (λ a t. 1 ≤ a) s l)
      (each : (i : ℕ) → first_row (of_group k (suc i)) (suc k) s ≡ start_of ks i) (many : length ks ≡ n) (fit : length ks ≤ length s) where
    abbrev top : Row
    top = row_of e c j at t v

    top_other : (m i : ℕ) → k ≤ m → of_group m i (row_of e c j at t v) ≡ false
    top_other m i h = rw (ne_eqb c m (λ q. omega (arith, q, h, low)))

    count_rows : Rows (In c k (k + length (row_of e c j at t v ∷ s)) (At j (t ∷ []))) (row_of e c j at t v ∷ s)
    count_rows = (
      inl (refl, (refl, mem_one t)),
      rows_map (In k (suc k) (suc k + length s) (λ a t. 1 ≤ a)) (In c k (k + length (row_of e c j at t v ∷ s)) (At j (t ∷ []))) under s x.rows,
    )
      where
        under : (r : Row) → In k (suc k) (suc k + length s) (λ a t. 1 ≤ a) r → In c k (k + length (row_of e c j at t v ∷ s)) (At j (t ∷ [])) r
        under r (inl p) = inr ((omega (arith, p.0)), (omega (arith, p.0)))
        under r (inr p) = inr ((omega (arith, p.0)), (omega (arith, p.1)))

    count_groups : Groups (Walks k k (row_of e c j at t v ∷ s)) (record { row = k; number = n; starts = ks } ∷ l)
    count_groups = (
      record {
        low = omega arith;
        high = omega arith;
        each = λ i. first_next (of_group k (suc i)) k (row_of e c j at t v) s (top_other k (suc i) (omega arith)) ∙ each i;
        many = many;
        fit = omega (arith, fit);
      },
      groups_map (Walks (suc k) (suc k) s) (Walks k k (row_of e c j at t v ∷ s)) under l x.groups,
    )
      where
        under : (g : Group) → Walks (suc k) (suc k) s g → Walks k k (row_of e c j at t v ∷ s) g
        under g h = record {
          low = omega (arith, h.low);
          high = omega (arith, h.high);
          each = λ i. first_next (of_group g.row (suc i)) k (row_of e c j at t v) s (top_other g.row (suc i) (omega (arith, h.low))) ∙ h.each i;
          many = h.many;
          fit = omega (arith, h.fit);
        }

    count_stretch : Stretch c k k (At j (t ∷ [])) (row_of e c j at t v ∷ s) (record { row = k; number = n; starts = ks } ∷ l)
    count_stretch = record { rows = count_rows; groups = count_groups; finds = (first_here (of_key c j t) k (row_of e c j at t v) s (own_key (row_of e c j at t v)), behind) }
      where
        under : (m : ℕ) (r : Row) → In k (suc k) (suc k + length s) (λ a t. 1 ≤ a) r → FoundAt (suc k) s m r → FoundAt k (row_of e c j at t v ∷ s) m r
        under m r p w =
            let h : k ≤ r.count_row = ⊎_elim (λ p. omega (arith, p.0)) (λ p. omega (arith, p.0)) p in
            first_next (of_key r.count_row r.instance r.tag) k (row_of e c j at t v) s (rw (top_other r.count_row r.instance h)) ∙ w

        behind : Numbered (FoundAt k (row_of e c j at t v ∷ s)) (suc k) s
        behind =
            numbered_map (λ m r. In k (suc k) (suc k + length s) (λ a t. 1 ≤ a) r × FoundAt (suc k) s m r) (FoundAt k (row_of e c j at t v ∷ s)) (λ m r h. under m r h.0 h.1) (suc k) s
            (numbered_both (In k (suc k) (suc k + length s) (λ a t. 1 ≤ a)) (FoundAt (suc k) s) (suc k) s x.rows x.finds)

  node_size : (e c j at k : ℕ) (n : Node I) → length (rows_node past rows e c j at k n) ≡ count_node fields n
  unfolding rows_node count_node
  node_size e c j at k (leaf (single t v)) = refl
  node_size e c j at k (leaf (pair l w d v)) = refl
  node_size e c j at k (count t v l) = ap suc (insts_size (e + 1) k 1 (at + field_size t v) (k + 1) l)

  node_head : (e c j at k : ℕ) (n : Node I) → Head c j (rows_node past rows e c j at k n)
  unfolding rows_node
  node_head e c j at k (leaf (single t v)) = record { top = row_of e c j at t v; more = []; is = refl; count = refl; instance = refl }
  node_head e c j at k (leaf (pair l w d v)) = record { top = row_of e c j at l w; more = row_of e c j (at + field_size l w) d v ∷ []; is = refl; count = refl; instance = refl }
  node_head e c j at k (count t v l) = record { top = row_of e c j at t v; more = rows_insts past rows (e + 1) k 1 (at + field_size t v) (k + 1) l; is = refl; count = refl; instance = refl }

  node_stretch : (e c j at k : ℕ) (n : Node I) → c < k → distinct (node_tags n) ≡ true → OnceNode tags once n
      → Stretch c k k (At j (node_tags n)) (rows_node past rows e c j at k n) (groups_node fields groups k n)
  unfolding rows_node groups_node
  node_stretch e c j at k (leaf (single t v)) h d o = one_row e c k j at k t v
  node_stretch e c j at k (leaf (pair l w x v)) h d o = two_rows e c k j at (at + field_size l w) k l x w v d
  node_stretch e c j at k (count t v l) h d o =
      rw (add-one k)
      (count_stretch e c j at k t (value v) v (rows_insts past rows (e + 1) k 1 (at + field_size t v) (suc k) l) (starts_from (count_all fields) (suc k) l)
      (groups_all (count_all fields) (groups_all fields groups) (suc k) l) h (insts_stretch (e + 1) k 1 (at + field_size t v) (suc k) l (omega arith) o.1)
      (λ i. insts_each (e + 1) k 1 (at + field_size t v) (suc k) l i (suc i) (omega arith) (omega arith) o.1)
      (starts_length (suc k) l ∙ sym o.0) (rw (starts_length (suc k) l) (insts_long (e + 1) k 1 (at + field_size t v) (suc k) l o.1)))

-- by depth
pub record Level (d : ℕ) : Type 0 where
  pub size : (e c j at k : ℕ) (i : Item d) → length (rows_item d e c j at k i) ≡ count_item d i
  pub head : (e c j at k : ℕ) (i : Item d) → Head c j (rows_item d e c j at k i)
  pub stretch : (e c j at k : ℕ) (i : Item d) → c < k → distinct (item_tags d i) ≡ true → Once d i → Stretch c k k (At j (item_tags d i)) (rows_item d e c j at k i) (groups_item d k i)

pub level : (d : ℕ) → Level d
unfolding rows_item count_item groups_item
level zero = record { size = λ e c j at k i. absurd i; head = λ e c j at k i. absurd i; stretch = λ e c j at k i h a o. absurd i }
level (suc d) =
    let L = level d in
    record {
      size = λ e c j at k n. node_size (past_item d) (rows_item d) (count_item d) (groups_item d) (item_tags d) (Once d) L.size L.head L.stretch e c j at k n;
      head = λ e c j at k n. node_head (past_item d) (rows_item d) (count_item d) (groups_item d) (item_tags d) (Once d) L.size L.head L.stretch e c j at k n;
      stretch = λ e c j at k n h a o. node_stretch (past_item d) (rows_item d) (count_item d) (groups_item d) (item_tags d) (Once d) L.size L.head L.stretch e c j at k n h a o;
    }
