-- Each field of a permitted arrangement has four bytes or more, so 2,048 rows suffice. Of any book. Assumes nothing.
use mathlib.Core.Path.{◌≡◌, refl, sym, ◌∙◌}
use mathlib.Core.Bool.{Bool, true, false, ◌&&◌, not}
use mathlib.Core.List.{List, [], ◌∷◌, ◌++◌}
use Prim.Native.Nat.{ℕ, zero, suc, ◌+◌, ◌*◌, ◌≤◌}
use native.Mathlib.Omega.{arith}
use lib.Dec.{eqb}
use lib.ListN.{length}
use borrow.Author.Tests.{eqb-true}
use Rattle.numbers.specs.Bytes.{some, mem}
use Rattle.numbers.specs.Decimal.{digits}
use Rattle.numbers.proofs.Tests.{clash, and_left, and_right}
use Rattle.book.specs.Records.{Record, Member, group_of}
use Rattle.message.specs.Arrangement.{Piece, single, pair, Node, leaf, count, Item, tag_of, Arrangement, Page}
use Rattle.message.specs.Written.{written}
use Rattle.message.specs.Permitted.{good, spare, in_order, instance, instances, fits_node, fits, has_tag, any_order, permitted}
use Rattle.message.specs.Rows.{lead, rows_of}
use Rattle.bridge.specs.FieldList.{Field, field_of, piece_fields, fields_all, fields_node, fields_item, fields_of, put_fields}
use Rattle.numbers.proofs.Shortest.{render_some}
use Rattle.bridge.proofs.Sees.{field_size_lem, single_parts, pair_parts}
use Rattle.bridge.proofs.Accepted.{count_parts, leaf_good, items_are}
use Rattle.bridge.proofs.Framing.{version_long}
use Rattle.bridge.proofs.Whole.{permitted_parts}
use Rattle.bridge.proofs.Places.{fields_are, written_flat, count_true}

-- no text is empty
filled : List Field → Bool
filled [] = true
filled (f ∷ l) = some f.text && filled l

filled_join : (a b : List Field) → filled a ≡ true → filled b ≡ true → filled (a ++ b) ≡ true
unfolding filled
filled_join [] b p q = q
filled_join (f ∷ a) b p q = rw (and_left (some f.text) _ p) (filled_join a b (and_right (some f.text) _ p) q)

some_long : (v : List ℕ) → some v ≡ true → 1 ≤ length v
some_long [] e = clash false e refl
some_long (b ∷ v) e = omega arith

long_some : (v : List ℕ) → 1 ≤ length v → some v ≡ true
long_some [] h = absurd (omega arith)
long_some (b ∷ v) h = refl

four_each : (l : List Field) (r : List ℕ) → filled l ≡ true → length l * 4 + length r ≤ length (put_fields l r)
unfolding filled put_fields lead
four_each [] r h = omega arith
four_each (f ∷ l) r h =
    let one = some_long f.text (and_left (some f.text) _ h) in
    omega (arith, field_size_lem f.tag f.text (put_fields l r), render_some f.tag, four_each l r (and_right (some f.text) _ h))

module _ (B : List Record) where
  piece_filled : (k : Piece) → good B k ≡ true → filled (piece_fields k) ≡ true
  unfolding filled
  piece_filled (single t v) g = rw (single_parts B t v g).text.full
  piece_filled (pair l w d v) g = let h = pair_parts B l w d v g in rw (h.text.full, h.there)

  -- one level, over the one below
  module _ {I : Type 0} (tag : I → ℕ) (fits : I → Bool) (fields : I → List Field) (below : (i : I) → fits i ≡ true → filled (fields i) ≡ true) where
    order_filled : (ms : List Member) (l : List I) → in_order B tag fits ms l ≡ true → filled (fields_all fields l) ≡ true
    unfolding in_order fields_all filled
    order_filled [] [] o = refl
    order_filled [] (i ∷ l) o = clash false o refl
    order_filled (m ∷ ms) [] o = refl
    order_filled (m ∷ ms) (i ∷ l) o = go (eqb (tag i) m.tag) refl (order_filled ms l) (order_filled ms (i ∷ l))
      where
        go : (b : Bool) → eqb (tag i) m.tag ≡ b → (in_order B tag fits ms l ≡ true → filled (fields_all fields l) ≡ true)
            → (in_order B tag fits ms (i ∷ l) ≡ true → filled (fields i ++ fields_all fields l) ≡ true) → filled (fields i ++ fields_all fields l) ≡ true
        go true p here later =
            let w : (fits i && in_order B tag fits ms l) ≡ true = rw p at o in
            filled_join (fields i) (fields_all fields l) (below i (and_left (fits i) _ w)) (here (and_right (fits i) _ w))
        go false p here later = later (and_right (spare B m) _ (rw p at o))

    instance_filled : (ms : List Member) (l : List I) → instance B tag fits ms l ≡ true → filled (fields_all fields l) ≡ true
    unfolding instance fields_all
    instance_filled [] l o = clash false o refl
    instance_filled (m ∷ ms) [] o = clash false o refl
    instance_filled (m ∷ ms) (i ∷ l) o =
        let a = and_left (eqb (tag i) m.tag && fits i) _ o in
        filled_join (fields i) (fields_all fields l) (below i (and_right (eqb (tag i) m.tag) _ a)) (order_filled ms l (and_right (eqb (tag i) m.tag && fits i) _ o))

    insts_filled : (ms : List Member) (l : List (List I)) → instances B tag fits ms l ≡ true → filled (fields_all (fields_all fields) l) ≡ true
    unfolding instances fields_all filled
    insts_filled ms [] o = refl
    insts_filled ms (x ∷ l) o =
        filled_join (fields_all fields x) (fields_all (fields_all fields) l) (instance_filled ms x (and_left (instance B tag fits ms x) _ o)) (insts_filled ms l (and_right (instance B tag fits ms x) _ o))

    node_filled : (n : Node I) → fits_node B tag fits n ≡ true → filled (fields_node fields n) ≡ true
    unfolding fields_node
    node_filled (leaf k) f = piece_filled k (leaf_good B tag fits k f)
    node_filled (count t v l) f =
        let c = count_parts B tag fits t v l f in
        filled_join (field_of t v ∷ []) (fields_all (fields_all fields) l) (piece_filled (single t v) c.text) (insts_filled (group_of B t) l c.insts)

  item_filled : (d : ℕ) (i : Item d) → fits B d i ≡ true → filled (fields_item d i) ≡ true
  unfolding fits fields_item
  item_filled zero i f = absurd i
  item_filled (suc d) n f = node_filled (tag_of d) (fits B d) (fields_item d) (item_filled d) n f

own_filled : (P : Page) {I : Type 0} (tag : I → ℕ) (fits : I → Bool) (fields : I → List Field) → ((i : I) → fits i ≡ true → filled (fields i) ≡ true)
    → (seen : List ℕ) (l : List I) → any_order P tag fits seen l ≡ true → filled (fields_all fields l) ≡ true
unfolding any_order fields_all filled
own_filled P tag fits fields below seen [] o = refl
own_filled P tag fits fields below seen (i ∷ l) o =
    let a = and_left (has_tag (tag i) P.own && not (mem (tag i) seen) && fits i) _ o in
    filled_join (fields i) (fields_all fields l) (below i (and_right (has_tag (tag i) P.own && not (mem (tag i) seen)) _ a))
    (own_filled P tag fits fields below (tag i ∷ seen) l (and_right (has_tag (tag i) P.own && not (mem (tag i) seen) && fits i) _ o))

permitted_filled : (B : List Record) (A : Arrangement) → permitted B A ≡ true → filled (fields_of A) ≡ true
unfolding filled
permitted_filled B A p =
    let h = permitted_parts B A p in
    let F = h.frame in
    let W = version_long A.version F.version in
    let n = and_left (some A.body_length) _ (and_left (some A.body_length && digits A.body_length) _ F.count) in
    let z = eqb-true (length A.check_sum) 3 (and_left (eqb (length A.check_sum) 3) _ (and_left (eqb (length A.check_sum) 3 && digits A.check_sum) _ F.sum)) in
    let inner = own_filled h.page (tag_of 5) (fits h.page.book 5) (fields_item 5) (item_filled h.page.book 5) [] A.items (sym (items_are h.page A.items) ∙ h.items) in
    let tail : filled (field_of 10 A.check_sum ∷ []) ≡ true = rw (long_some A.check_sum (omega arith)) in
    rw (fields_are A, long_some A.version (omega arith), n, and_left (some A.type) _ F.type.text) (filled_join (fields_all (fields_item 5) A.items) (field_of 10 A.check_sum ∷ []) inner tail)

-- four bytes a row
pub rows_short : (B : List Record) (A : Arrangement) → permitted B A ≡ true → length (rows_of A) * 4 ≤ length (written A)
rows_short B A p = rw (count_true A, written_flat A) (omega (arith, four_each (fields_of A) [] (permitted_filled B A p)))
