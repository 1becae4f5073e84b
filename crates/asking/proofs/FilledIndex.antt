-- The questions on an index that the reader filled: find with a row's own count row, instance and tag gives that row; the walker of a count
-- row gives its instances, as many as its number says, in order; the value of a row is the text that the arrangement has there. By demand 3
-- such an index is `flat (rows_of A)` for the one permitted arrangement A with the message's bytes. Assumes nothing.
use mathlib.Core.Path.{◌≡◌, refl, ap, ◌∙◌}
use mathlib.Core.Bool.{Bool, true, false, cond, ◌&&◌, ◌||◌}
use mathlib.Core.List.{List, [], ◌∷◌, ◌++◌, map, append-nil, append_assoc}
use mathlib.Core.Logic.{inl}
use Prim.Native.Nat.{ℕ, zero, suc, ◌+◌, ◌≤◌}
use native.Mathlib.Omega.{arith}
use lib.Dec.{eqb, ltb, leb}
use lib.ListN.{length, take, drop, get_or, length-append, length-drop}
use lib.Seq.{take_at}
use borrow.Author.Tests.{eqb-true, lt-ltb, le-ltb, le-leb}
use Rattle.numbers.specs.Bytes.{mem}
use Rattle.numbers.proofs.Tests.{clash}
use Rattle.book.specs.Check.{sound, check}
use Rattle.message.specs.Arrangement.{Arrangement}
use Rattle.message.specs.Written.{put_field, written}
use Rattle.message.specs.Permitted.{permitted}
use Rattle.message.specs.Rows.{Row, flat, lead, row_of, past_all, rows_all, past_item, rows_item, rows_of}
use Rattle.reader.specs.Reading.{looked}
use Rattle.index.specs.Questions.{row_count, number, value_of, row, absent, find, instance_row, if_row, walk_from, walk}
use Rattle.bridge.specs.FieldList.{fields_of}
use Rattle.bridge.proofs.Sound.{sound_rules}
use Rattle.bridge.proofs.Places.{value_place, first, second, inner, rows_are, rows_say}
use Rattle.asking.specs.Groups.{Group, count_item, groups_all, groups_item, groups_of}
use Rattle.asking.specs.Once.{item_tags, tags_all, Once}
use Rattle.asking.proofs.FirstRow.{first_row, of_group, of_key, row_count_lem, start_at, length_at, find_row, instance_row_lem}
use Rattle.asking.proofs.Segments.{Numbered, Groups, groups_map, start_of, FoundAt, Walks, Stretch, joined}
use Rattle.asking.proofs.Stretches.{At, one_row, level, all_stretch}
use Rattle.asking.proofs.Alone.{Single, permitted_single}

-- the rows of a whole arrangement are one stretch
groups_are : (A : Arrangement) → groups_of A ≡ groups_all (count_item 5) (groups_item 5) 3 A.items
unfolding groups_of
groups_are A = refl

abbrev Any : ℕ → ℕ → Type 0
Any a t = Unit {0}

frame_stretch : (W N T : List ℕ) (b c : ℕ) → Stretch 0 1 0 (At 0 (8 ∷ 9 ∷ 35 ∷ [])) (row_of 0 0 0 0 8 W ∷ row_of 0 0 0 b 9 N ∷ row_of 0 0 0 c 35 T ∷ []) []
unfolding mem first_row
frame_stretch W N T b c = record {
  rows = (inl (refl, (refl, refl)), (inl (refl, (refl, refl)), (inl (refl, (refl, refl)), tt)));
  groups = tt;
  finds = (refl, (refl, (refl, tt)));
}

frame_mem : (t : ℕ) → mem t (8 ∷ 9 ∷ 35 ∷ []) ≡ true → mem t (0 ∷ 8 ∷ 9 ∷ 35 ∷ 10 ∷ []) ≡ true
unfolding mem
frame_mem t = go (eqb t 0) (eqb t 8) (eqb t 9) (eqb t 35) (eqb t 10)
  where
    go : (n a b c d : Bool) → (a || (b || (c || false))) ≡ true → (n || (a || (b || (c || (d || false))))) ≡ true
    go true a b c d e = refl
    go false true b c d e = refl
    go false false true c d e = refl
    go false false false true d e = refl
    go false false false false d e = clash false e refl

only_ten : (t : ℕ) → mem t (10 ∷ []) ≡ true → t ≡ 10
unfolding mem
only_ten t e = go (eqb t 10) refl e
  where
    go : (b : Bool) → eqb t 10 ≡ b → (b || false) ≡ true → t ≡ 10
    go true p h = eqb-true t 10 p
    go false p h = clash false h refl

ten_apart : mem 10 (8 ∷ 9 ∷ 35 ∷ []) ≡ false
unfolding mem
ten_apart = refl

ten_framed : mem 10 (0 ∷ 8 ∷ 9 ∷ 35 ∷ 10 ∷ []) ≡ true
unfolding mem
ten_framed = refl

module _ (A : Arrangement) (o : Single A) where
  abbrev between : List Row
  between = rows_all (past_item 5) (rows_item 5 0 0 0) (inner A) 3 A.items

  abbrev last : Row
  last = row_of 0 0 0 (past_all (past_item 5) (inner A) A.items) 10 A.check_sum

  abbrev Behind : ℕ → ℕ → Type 0
  Behind a t = mem t (8 ∷ 9 ∷ 35 ∷ []) ≡ true → ⊥

  behind_stretch : Stretch 0 3 3 Behind (between ++ (last ∷ [])) (groups_all (count_item 5) (groups_item 5) 3 A.items ++ [])
  behind_stretch =
      joined 0 3 3 (3 + length between) (At 0 (tags_all (item_tags 5) A.items)) (At 0 (10 ∷ [])) Behind between (last ∷ []) (groups_all (count_item 5) (groups_item 5) 3 A.items) []
      (all_stretch (past_item 5) (rows_item 5) (count_item 5) (groups_item 5) (item_tags 5) (Once 5) (level 5).size (level 5).head (level 5).stretch 0 0 0 (inner A) 3 A.items (omega arith) o.alone o.below)
      (one_row 0 0 (3 + length between) 0 (past_all (past_item 5) (inner A) A.items) (3 + length between) 10 A.check_sum)
      refl (omega arith) (omega arith)
      (λ a t p q. not_ten t (only_ten t q.1) p.1)
      (λ a t p e. clash (mem t (tags_all (item_tags 5) A.items)) p.1 (o.frame t (frame_mem t e)))
      (λ a t p e. not_frame t (only_ten t p.1) e)
    where
      not_ten : (t : ℕ) → t ≡ 10 → mem t (tags_all (item_tags 5) A.items) ≡ true → ⊥
      not_ten t e h = clash (mem 10 (tags_all (item_tags 5) A.items)) (rw e at h) (o.frame 10 ten_framed)

      not_frame : (t : ℕ) → t ≡ 10 → mem t (8 ∷ 9 ∷ 35 ∷ []) ≡ true → ⊥
      not_frame t e h = clash (mem 10 (8 ∷ 9 ∷ 35 ∷ [])) (rw e at h) ten_apart

  whole_stretch : Stretch 0 1 0 Any (rows_of A) (groups_of A)
  whole_stretch =
      rw (rows_are A, groups_are A, ← append-nil (groups_all (count_item 5) (groups_item 5) 3 A.items))
      (joined 0 1 0 3 (At 0 (8 ∷ 9 ∷ 35 ∷ [])) Behind Any
      (row_of 0 0 0 0 8 A.version ∷ row_of 0 0 0 (first A) 9 A.body_length ∷ row_of 0 0 0 (second A) 35 A.type ∷ []) (between ++ (last ∷ [])) [] (groups_all (count_item 5) (groups_item 5) 3 A.items ++ [])
      (frame_stretch A.version A.body_length A.type (first A) (second A)) behind_stretch refl (omega arith) (omega arith)
      (λ a t p q. q p.1) (λ a t p. tt) (λ a t p. tt))

-- what is said of each numbered row, of one of them
at_number : (p : ℕ → Row → Type 0) (k : ℕ) (a : List Row) (r : Row) (b : List Row) → Numbered p k (a ++ (r ∷ b)) → p (k + length a) r
at_number p k [] r b h = let z : k + 0 ≡ k = omega arith in rw z h.0
at_number p k (x ∷ a) r b h =
    let z : k + suc (length a) ≡ suc k + length a = omega arith in
    rw z (at_number p (suc k) a r b h.1)

zero_plus : (n : ℕ) → 0 + n ≡ n
zero_plus n = omega arith

found_own : (q a : List Row) (r : Row) (b : List Row) → q ≡ a ++ (r ∷ b) → Numbered (FoundAt 0 q) 0 q → first_row (of_key r.count_row r.instance r.tag) 0 q ≡ row (length a)
found_own q a r b e h =
    rw e (at_number (FoundAt 0 (a ++ (r ∷ b))) 0 a r b (rw e at h) ∙ ap row (zero_plus (length a)))

-- Find with a row's own count row, instance and tag gives that row.
pub find_own : (book : List ℕ) → check book ≡ sound → (A : Arrangement) → permitted (looked book) A ≡ true
    → (a : List Row) (r : Row) (b : List Row) → rows_of A ≡ a ++ (r ∷ b) → find (flat (rows_of A)) r.count_row r.instance r.tag ≡ row (length a)
find_own book good A p a r b e =
    find_row (rows_of A) r.count_row r.instance r.tag
    ∙ found_own (rows_of A) a r b e (whole_stretch A (permitted_single (looked book) (sound_rules book good) A p)).finds

-- the walker, one step open
module _ (index : List ℕ) (c : ℕ) where
  walk_is : walk index c ≡ walk_from index c (row_count index) 1
  unfolding walk
  walk_is = refl

  walk_end : (n j : ℕ) → instance_row index c j ≡ absent → walk_from index c (suc n) j ≡ []
  unfolding walk_from if_row
  walk_end n j e = rw e

  walk_on : (n j k : ℕ) → instance_row index c j ≡ row k → walk_from index c (suc n) j ≡ k ∷ walk_from index c n (suc j)
  unfolding walk_from if_row
  walk_on n j k e = rw e

  walk_none : (j : ℕ) → walk_from index c zero j ≡ []
  unfolding walk_from
  walk_none j = refl

  start_nil : (j : ℕ) → start_of [] j ≡ absent
  unfolding start_of
  start_nil j = refl

  start_first : (k : ℕ) (l : List ℕ) → start_of (k ∷ l) 0 ≡ row k
  unfolding start_of
  start_first k l = refl

  start_later : (k : ℕ) (l : List ℕ) (j : ℕ) → start_of (k ∷ l) (suc j) ≡ start_of l j
  unfolding start_of
  start_later k l j = refl

  walk_starts : (n j : ℕ) (ks : List ℕ) → ((i : ℕ) → instance_row index c (j + i) ≡ start_of ks i) → length ks ≤ n → walk_from index c n j ≡ ks
  walk_starts zero j [] h b = walk_none j
  walk_starts zero j (k ∷ ks) h b = absurd (omega (arith, b))
  walk_starts (suc n) j [] h b = walk_end n j (ap (instance_row index c) (omega arith) ∙ h 0 ∙ start_nil 0)
  walk_starts (suc n) j (k ∷ ks) h b =
      walk_on n j k (ap (instance_row index c) (omega arith) ∙ h 0 ∙ start_first k ks)
      ∙ ap (λ l. k ∷ l) (walk_starts n (suc j) ks (λ i. ap (instance_row index c) (omega arith) ∙ h (suc i) ∙ start_later k ks i) (omega (arith, b)))

walk_group : (q : List Row) (g : Group) → Walks 1 0 q g → walk (flat q) g.row ≡ g.starts
walk_group q g h =
    walk_is (flat q) g.row
    ∙ walk_starts (flat q) g.row (row_count (flat q)) 1 g.starts (λ i. instance_row_lem q g.row (1 + i) ∙ next i ∙ h.each i) (rw (row_count_lem q) h.fit)
  where
    next : (i : ℕ) → first_row (of_group g.row (1 + i)) 0 q ≡ first_row (of_group g.row (suc i)) 0 q
    next i = ap (λ j. first_row (of_group g.row j) 0 q) (omega arith)

-- The walker of a count row gives the rows at which its instances begin, in order, as many as its number says.
pub walk_instances : (book : List ℕ) → check book ≡ sound → (A : Arrangement) → permitted (looked book) A ≡ true
    → Groups (λ g. (walk (flat (rows_of A)) g.row ≡ g.starts) × (length g.starts ≡ g.number)) (groups_of A)
walk_instances book good A p =
    groups_map (Walks 1 0 (rows_of A)) (λ g. (walk (flat (rows_of A)) g.row ≡ g.starts) × (length g.starts ≡ g.number)) (λ g h. (walk_group (rows_of A) g h, h.many)) (groups_of A)
    (whole_stretch A (permitted_single (looked book) (sound_rules book good) A p)).groups

-- the value that a row shows of a message
abbrev shown : List ℕ → Row → List ℕ
shown w r = cond (leb (r.value_start + r.value_length) (length w)) (take r.value_length (drop r.value_start w)) []

module _ (w : List ℕ) where
  value_is : (index : List ℕ) (k : ℕ) → value_of index w k ≡ cond (ltb k (row_count index) && leb (number index k 1 + number index k 2) (length w)) (take (number index k 2) (drop (number index k 1) w)) []
  unfolding value_of
  value_is index k = refl

  value_over : (q : List Row) (k : ℕ) → length q ≤ k → value_of (flat q) w k ≡ []
  value_over q k h = value_is (flat q) k ∙ rw (row_count_lem q, le-ltb k (length q) h)

  value_at : (p : List Row) (r : Row) (q : List Row) → value_of (flat (p ++ (r ∷ q))) w (length p) ≡ shown w r
  value_at p r q =
      let h : ltb (length p) (length (p ++ (r ∷ q))) ≡ true = lt-ltb (length p) (length (p ++ (r ∷ q))) (omega (arith, length-append p (r ∷ q))) in
      value_is (flat (p ++ (r ∷ q))) (length p) ∙ rw (row_count_lem (p ++ (r ∷ q)), h, start_at p r q, length_at p r q)

  value_from : (p q : List Row) (k : ℕ) → value_of (flat (p ++ q)) w (length p + k) ≡ get_or (map (shown w) q) k []
  value_from p [] k = value_over (p ++ []) (length p + k) (omega (arith, length-append p []))
  value_from p (r ∷ q) zero = ap (value_of (flat (p ++ (r ∷ q))) w) (omega arith) ∙ value_at p r q
  value_from p (r ∷ q) (suc k) =
      let h = value_from (p ++ (r ∷ [])) q k in
      let z : length (p ++ (r ∷ [])) + k ≡ length p + suc k = omega (arith, length-append p (r ∷ [])) in
      rw (append_assoc p (r ∷ []) q, z) at h

-- The value of a row is the text of the arrangement's field there; past the last row it is empty.
pub value_text : (A : Arrangement) (k : ℕ) → value_of (flat (rows_of A)) (written A) k ≡ get_or (map (λ f. f.text) (fields_of A)) k []
value_text A k =
    ap (value_of (flat (rows_of A)) (written A)) (omega arith)
    ∙ value_from (written A) [] (rows_of A) k
    ∙ ap (λ l. get_or l k []) (rows_say A (shown (written A)) (λ f. f.text) says)
  where
    says : (e c j at t : ℕ) (v r : List ℕ) → drop at (written A) ≡ put_field t v r → shown (written A) (row_of e c j at t v) ≡ v
    says e c j at t v r h =
        let d : drop (at + lead t) (written A) ≡ v ++ (1 ∷ r) = value_place (written A) at t v r h in
        let n : length (drop (at + lead t) (written A)) ≡ length v + suc (length r) = ap length d ∙ length-append v (1 ∷ r) in
        let b : leb (at + lead t + length v) (length (written A)) ≡ true = le-leb (at + lead t + length v) (length (written A)) (omega (arith, n, length-drop (at + lead t) (written A))) in
        rw (b, d) (take_at v (1 ∷ r) (length v) refl)
