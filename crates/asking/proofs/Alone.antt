-- In a permitted arrangement of a sound book no list of fields has a tag twice. Assumes nothing.
use mathlib.Core.Path.{◌≡◌, refl, sym, ap, ◌∙◌}
use mathlib.Core.Bool.{Bool, true, false, ◌&&◌, ◌||◌, not, or-true}
use mathlib.Core.List.{List, [], ◌∷◌, ◌++◌, map}
use mathlib.Core.Logic.{◌⊎◌, inl, inr, ⊎_elim}
use Prim.Native.Nat.{ℕ, zero, suc}
use lib.Dec.{eqb}
use borrow.Author.Tests.{eqb-true, eq-eqb, ne_eqb, not-true}
use Rattle.numbers.specs.Bytes.{mem}
use Rattle.numbers.proofs.Tests.{clash, to_false, and_left, and_right, or_right}
use Rattle.book.specs.Records.{Record, Member, is_field, found, look_up, is_found, group_of, message_of, is_length, is_bounded, partner}
use Rattle.message.specs.Arrangement.{single, pair, Node, leaf, count, Item, node_tag, tag_of, Arrangement, Page}
use Rattle.message.specs.Permitted.{spare, in_order, instance, instances, fits_node, fits, has_tag, any_order, good_items, permitted}
use Rattle.bridge.proofs.Lists.{distinct, mem_behind, distinct_left, distinct_right}
use Rattle.bridge.proofs.Sees.{pair_parts}
use Rattle.bridge.proofs.Accepted.{count_parts, leaf_good, items_are}
use Rattle.bridge.proofs.Readback.{open_by, under, placed, has_open, own_distinct, item_tidy}
use Rattle.bridge.proofs.Sound.{Rules, undeclared, message_declared, page_sound}
use Rattle.bridge.proofs.Whole.{permitted_parts}
use Rattle.bridge.proofs.Pairs.{length_partner, undeclared_free}
use Rattle.asking.specs.Once.{node_tags, item_tags, tags_all, Each, OnceIn, Once}

pub each_map : {I : Type 0} (p q : I → Type 0) → ((i : I) → p i → q i) → (l : List I) → Each p l → Each q l
each_map p q f [] h = tt
each_map p q f (i ∷ l) h = (f i h.0, each_map p q f l h.1)

mem_head : (x y : ℕ) (l : List ℕ) → mem x (y ∷ l) ≡ (eqb x y || mem x l)
unfolding mem
mem_head x y l = refl

mem_nil : (x : ℕ) → mem x [] ≡ false
unfolding mem
mem_nil x = refl

mem_self : (x : ℕ) (l : List ℕ) → mem x (x ∷ l) ≡ true
mem_self x l = mem_head x x l ∙ rw (eq-eqb x x refl)

mem_eq : (x y : ℕ) (l : List ℕ) → x ≡ y → mem x (y ∷ l) ≡ true
mem_eq x y l e = mem_head x y l ∙ rw (eq-eqb x y e)

mem_tail : (x y : ℕ) (l : List ℕ) → mem x l ≡ true → mem x (y ∷ l) ≡ true
mem_tail x y l e = mem_head x y l ∙ rw e (or-true (eqb x y))

mem_cases : (x y : ℕ) (l : List ℕ) → mem x (y ∷ l) ≡ true → (x ≡ y) ⊎ (mem x l ≡ true)
mem_cases x y l e = go (eqb x y) refl (sym (mem_head x y l) ∙ e)
  where
    go : (b : Bool) → eqb x y ≡ b → (eqb x y || mem x l) ≡ true → (x ≡ y) ⊎ (mem x l ≡ true)
    go true p h = inl (eqb-true x y p)
    go false p h = inr (rw p at h)

mem_nil_no : {A : Type 0} (x : ℕ) → mem x [] ≡ true → A
mem_nil_no x e = clash (mem x []) e (mem_nil x)

mem_new : (x y : ℕ) (l : List ℕ) → (x ≡ y → ⊥) → mem x l ≡ false → mem x (y ∷ l) ≡ false
mem_new x y l n e = mem_head x y l ∙ rw (ne_eqb x y n, e)

distinct_is : (x : ℕ) (l : List ℕ) → distinct (x ∷ l) ≡ (not (mem x l) && distinct l)
unfolding distinct
distinct_is x l = refl

distinct_cons : (x : ℕ) (l : List ℕ) → mem x l ≡ false → distinct l ≡ true → distinct (x ∷ l) ≡ true
distinct_cons x l p q = distinct_is x l ∙ rw (p, q)

distinct_head : (x : ℕ) (l : List ℕ) → distinct (x ∷ l) ≡ true → mem x l ≡ false
distinct_head x l d = not-true (mem x l) (and_left (not (mem x l)) _ (sym (distinct_is x l) ∙ d))

distinct_tail : (x : ℕ) (l : List ℕ) → distinct (x ∷ l) ≡ true → distinct l ≡ true
distinct_tail x l d = and_right (not (mem x l)) _ (sym (distinct_is x l) ∙ d)

distinct_nil : distinct [] ≡ true
unfolding distinct
distinct_nil = refl

module _ (B : List Record) (S : Rules B) where
  -- the tags of an item: its own, and that of the data if it is a Length
  abbrev Shape : ℕ → List ℕ → Type 0
  Shape t l = (l ≡ t ∷ []) ⊎ ((is_length B t ≡ true) × (l ≡ t ∷ partner B t ∷ []))

  -- one level
  module _ {I : Type 0} (tag : I → ℕ) (tags : I → List ℕ) (ok : I → Type 0) (shape : (i : I) → ok i → Shape (tag i) (tags i)) (tidy : (i : I) → ok i → is_bounded B (tag i) ≡ false) where
    all_cons : (i : I) (l : List I) → tags_all tags (i ∷ l) ≡ tags i ++ tags_all tags l
    unfolding tags_all
    all_cons i l = refl

    all_nil : tags_all tags [] ≡ []
    unfolding tags_all
    all_nil = refl

    abbrev Known : ℕ → List I → Type 0
    Known x l = (mem x (map tag l) ≡ true) ⊎ ((y : ℕ) × (mem y (map tag l) ≡ true) × (is_length B y ≡ true) × (x ≡ partner B y))

    more : (x : ℕ) (i : I) (l : List I) → Known x l → Known x (i ∷ l)
    more x i l (inl h) = inl (mem_tail x (tag i) (map tag l) h)
    more x i l (inr h) = inr (h.0, mem_tail h.0 (tag i) (map tag l) h.1, h.2, h.3)

    pub tag_in : (x : ℕ) (l : List I) → Each ok l → mem x (tags_all tags l) ≡ true → Known x l
    tag_in x [] h e = mem_nil_no x (rw all_nil at e)
    tag_in x (i ∷ l) h e = go (shape i h.0) (rw (all_cons i l) at e) (tag_in x l h.1)
      where
        go : Shape (tag i) (tags i) → mem x (tags i ++ tags_all tags l) ≡ true → (mem x (tags_all tags l) ≡ true → Known x l) → Known x (i ∷ l)
        go (inl s) e ih =
            ⊎_elim (λ w. inl (rw w (mem_self (tag i) (map tag l)))) (λ w. more x i l (ih w)) (mem_cases x (tag i) (tags_all tags l) (rw s at e))
        go (inr s) e ih =
            ⊎_elim (λ w. inl (rw w (mem_self (tag i) (map tag l))))
            (λ w. ⊎_elim (λ v. inr (tag i, mem_self (tag i) (map tag l), s.0, v)) (λ v. more x i l (ih v)) (mem_cases x (partner B (tag i)) (tags_all tags l) w))
            (mem_cases x (tag i) (partner B (tag i) ∷ tags_all tags l) (rw s.1 at e))

    unbounded : (x : ℕ) (l : List I) → Each ok l → mem x (map tag l) ≡ true → is_bounded B x ≡ false
    unbounded x [] h e = mem_nil_no x e
    unbounded x (i ∷ l) h e = ⊎_elim (λ w. rw w (tidy i h.0)) (unbounded x l h.1) (mem_cases x (tag i) (map tag l) e)

    own_new : (i : I) (l : List I) → ok i → Each ok l → mem (tag i) (map tag l) ≡ false → mem (tag i) (tags_all tags l) ≡ false
    own_new i l o h n = to_false (mem (tag i) (tags_all tags l)) (λ e.
        ⊎_elim (λ w. clash (mem (tag i) (map tag l)) w n)
        (λ w. clash (is_bounded B (tag i)) (rw w.3 (length_partner B S w.0 w.2).0) (tidy i o)) (tag_in (tag i) l h e))

    data_new : (i : I) (l : List I) → is_length B (tag i) ≡ true → Each ok l → mem (tag i) (map tag l) ≡ false → mem (partner B (tag i)) (tags_all tags l) ≡ false
    data_new i l k h n = to_false (mem (partner B (tag i)) (tags_all tags l)) (λ e.
        let p = length_partner B S (tag i) k in
        ⊎_elim (λ w. clash (is_bounded B (partner B (tag i))) p.0 (unbounded (partner B (tag i)) l h w))
        (λ w.
        let q = length_partner B S w.0 w.2 in
        let y : w.0 ≡ tag i = sym q.1 ∙ ap (partner B) (sym w.3) ∙ p.1 in
        clash (mem (tag i) (map tag l)) (rw (← y) w.1) n)
        (tag_in (partner B (tag i)) l h e))

    pub level_alone : (l : List I) → Each ok l → distinct (map tag l) ≡ true → distinct (tags_all tags l) ≡ true
    level_alone [] h d = rw all_nil distinct_nil
    level_alone (i ∷ l) h d = rw (all_cons i l) (go (shape i h.0) (level_alone l h.1 (distinct_tail (tag i) (map tag l) d)))
      where
        n : mem (tag i) (map tag l) ≡ false
        n = distinct_head (tag i) (map tag l) d

        go : Shape (tag i) (tags i) → distinct (tags_all tags l) ≡ true → distinct (tags i ++ tags_all tags l) ≡ true
        go (inl s) a = rw s (distinct_cons (tag i) (tags_all tags l) (own_new i l h.0 h.1 n) a)
        go (inr s) a =
            rw s.1
            (distinct_cons (tag i) (partner B (tag i) ∷ tags_all tags l)
            (mem_new (tag i) (partner B (tag i)) (tags_all tags l) (λ w. clash (is_bounded B (tag i)) (rw w (length_partner B S (tag i) s.0).0) (tidy i h.0)) (own_new i l h.0 h.1 n))
            (distinct_cons (partner B (tag i)) (tags_all tags l) (data_new i l s.0 h.1 n) a))

    -- items in list order, where with all groups opened each tag stands once
    module _ (fits : I → Bool) (u : ℕ → List ℕ) (once : I → Type 0) (fine : (i : I) → fits i ≡ true → ok i) (below : (i : I) → fits i ≡ true → distinct (u (tag i)) ≡ true → once i) where
      open_is : (m : Member) (ms : List Member) → open_by u (m ∷ ms) ≡ m.tag ∷ (u m.tag ++ open_by u ms)
      unfolding open_by
      open_is m ms = refl

      pub record Ordered (ms : List Member) (l : List I) : Type 0 where
        pub good : Each ok l
        pub down : Each once l
        pub alone : distinct (map tag l) ≡ true
        pub inside : (x : ℕ) → mem x (map tag l) ≡ true → mem x (open_by u ms) ≡ true

      nothing : (ms : List Member) → Ordered ms []
      nothing ms = record { good = tt; down = tt; alone = distinct_nil; inside = λ x e. mem_nil_no x e }

      one_more : (m : Member) (ms : List Member) (i : I) (l : List I) → eqb (tag i) m.tag ≡ true → fits i ≡ true → distinct (open_by u (m ∷ ms)) ≡ true → Ordered ms l → Ordered (m ∷ ms) (i ∷ l)
      one_more m ms i l p f d h =
          let e : tag i ≡ m.tag = eqb-true (tag i) m.tag p in
          let v : distinct (m.tag ∷ (u m.tag ++ open_by u ms)) ≡ true = rw (open_is m ms) at d in
          let n = distinct_head m.tag (u m.tag ++ open_by u ms) v in
          let w = distinct_left (u m.tag) (open_by u ms) (distinct_tail m.tag (u m.tag ++ open_by u ms) v) in
          record {
            good = (fine i f, h.good);
            down = (below i f (rw e w), h.down);
            alone = distinct_cons (tag i) (map tag l) (to_false (mem (tag i) (map tag l)) (λ q. clash (mem m.tag (u m.tag ++ open_by u ms)) (mem_behind m.tag (u m.tag) (open_by u ms) (rw (← e) (h.inside (tag i) q))) n)) h.alone;
            inside = λ x q. rw (open_is m ms) (⊎_elim (λ a. mem_eq x m.tag (u m.tag ++ open_by u ms) (a ∙ e)) (λ a. mem_tail x m.tag (u m.tag ++ open_by u ms) (mem_behind x (u m.tag) (open_by u ms) (h.inside x a))) (mem_cases x (tag i) (map tag l) q));
          }

      rest_once : (m : Member) (ms : List Member) → distinct (open_by u (m ∷ ms)) ≡ true → distinct (open_by u ms) ≡ true
      rest_once m ms d = distinct_right (u m.tag) (open_by u ms) (distinct_tail m.tag (u m.tag ++ open_by u ms) (rw (open_is m ms) at d))

      passed : (m : Member) (ms : List Member) (l : List I) → Ordered ms l → Ordered (m ∷ ms) l
      passed m ms l h = record {
        good = h.good;
        down = h.down;
        alone = h.alone;
        inside = λ x q. rw (open_is m ms) (mem_tail x m.tag (u m.tag ++ open_by u ms) (mem_behind x (u m.tag) (open_by u ms) (h.inside x q)));
      }

      in_order_lem : (ms : List Member) (l : List I) → in_order B tag fits ms l ≡ true → distinct (open_by u ms) ≡ true → Ordered ms l
      unfolding in_order
      in_order_lem [] [] o d = nothing []
      in_order_lem [] (i ∷ l) o d = clash false o refl
      in_order_lem (m ∷ ms) [] o d = nothing (m ∷ ms)
      in_order_lem (m ∷ ms) (i ∷ l) o d = go (eqb (tag i) m.tag) refl (in_order_lem ms l) (in_order_lem ms (i ∷ l))
        where
          go : (b : Bool) → eqb (tag i) m.tag ≡ b → (in_order B tag fits ms l ≡ true → distinct (open_by u ms) ≡ true → Ordered ms l)
              → (in_order B tag fits ms (i ∷ l) ≡ true → distinct (open_by u ms) ≡ true → Ordered ms (i ∷ l)) → Ordered (m ∷ ms) (i ∷ l)
          go true p on off =
              let w : (fits i && in_order B tag fits ms l) ≡ true = rw p at o in
              one_more m ms i l p (and_left (fits i) _ w) d (on (and_right (fits i) _ w) (rest_once m ms d))
          go false p on off = passed m ms (i ∷ l) (off (and_right (spare B m) _ (rw p at o)) (rest_once m ms d))

      instance_once : (ms : List Member) (l : List I) → instance B tag fits ms l ≡ true → distinct (open_by u ms) ≡ true → OnceIn tags once l
      unfolding instance
      instance_once [] l o d = clash false o refl
      instance_once (m ∷ ms) [] o d = clash false o refl
      instance_once (m ∷ ms) (i ∷ l) o d =
          let a = and_left (eqb (tag i) m.tag && fits i) _ o in
          let h =
          one_more m ms i l (and_left (eqb (tag i) m.tag) _ a) (and_right (eqb (tag i) m.tag) _ a) d (in_order_lem ms l (and_right (eqb (tag i) m.tag && fits i) _ o) (rest_once m ms d)) in
          record { first = i; rest = l; is = refl; alone = level_alone (i ∷ l) h.good h.alone; below = h.down }

      pub instances_once : (ms : List Member) (l : List (List I)) → instances B tag fits ms l ≡ true → distinct (open_by u ms) ≡ true → Each (OnceIn tags once) l
      unfolding instances
      instances_once ms [] o d = tt
      instances_once ms (x ∷ l) o d = (instance_once ms x (and_left (instance B tag fits ms x) _ o) d, instances_once ms l (and_right (instance B tag fits ms x) _ o) d)

  -- by depth
  node_shape : {I : Type 0} (tag : I → ℕ) (fits : I → Bool) (n : Node I) → fits_node B tag fits n ≡ true → Shape (node_tag n) (node_tags n)
  node_shape tag fits (leaf (single t v)) f = inl refl
  node_shape tag fits (leaf (pair l w d v)) f =
      let h = pair_parts B l w d v (leaf_good B tag fits (pair l w d v) f) in
      inr (h.kind, ap (λ x. l ∷ x ∷ []) (eqb-true d (partner B l) h.named))
  node_shape tag fits (count t v l) f = inl refl

  pub item_shape : (d : ℕ) (i : Item d) → fits B d i ≡ true → Shape (tag_of d i) (item_tags d i)
  unfolding fits
  item_shape zero i f = absurd i
  item_shape (suc d) n f = node_shape (tag_of d) (fits B d) n f

  pub item_once : (d : ℕ) (i : Item d) → fits B d i ≡ true → distinct (under B d (tag_of d i)) ≡ true → Once d i
  unfolding fits under
  item_once zero i f g = absurd i
  item_once (suc d) (leaf k) f g = tt
  item_once (suc d) (count t v l) f g =
      let c = count_parts B (tag_of d) (fits B d) t v l f in
      (c.number, instances_once (tag_of d) (item_tags d) (λ i. fits B d i ≡ true) (item_shape d) (item_tidy B d) (fits B d) (under B d) (Once d) (λ i f. f) (item_once d) (group_of B t) l c.insts (rw c.kind at g))

-- the message's own list
module _ (P : Page) {I : Type 0} (tag : I → ℕ) (fits : I → Bool) (u : ℕ → List ℕ) (once : I → Type 0) (below : (i : I) → fits i ≡ true → distinct (u (tag i)) ≡ true → once i)
    (d : distinct (open_by u P.own) ≡ true) where
  record Own (seen : List ℕ) (l : List I) : Type 0 where
    good : Each (λ i. fits i ≡ true) l
    down : Each once l
    alone : distinct (map tag l) ≡ true
    inside : (x : ℕ) → mem x (map tag l) ≡ true → has_tag x P.own ≡ true
    fresh : (x : ℕ) → mem x (map tag l) ≡ true → mem x seen ≡ false

  own_once : (seen : List ℕ) (l : List I) → any_order P tag fits seen l ≡ true → Own seen l
  unfolding any_order
  own_once seen [] o = record { good = tt; down = tt; alone = distinct_nil; inside = λ x e. mem_nil_no x e; fresh = λ x e. mem_nil_no x e }
  own_once seen (i ∷ l) o =
      let o₁ = and_left (has_tag (tag i) P.own && not (mem (tag i) seen) && fits i) _ o in
      let o₂ = and_left (has_tag (tag i) P.own && not (mem (tag i) seen)) _ o₁ in
      let has = and_left (has_tag (tag i) P.own) _ o₂ in
      let new = not-true (mem (tag i) seen) (and_right (has_tag (tag i) P.own) _ o₂) in
      let f = and_right (has_tag (tag i) P.own && not (mem (tag i) seen)) _ o₁ in
      let h = own_once (tag i ∷ seen) l (and_right (has_tag (tag i) P.own && not (mem (tag i) seen) && fits i) _ o) in
      record {
        good = (f, h.good);
        down = (below i f (own_distinct u (tag i) P.own has d), h.down);
        alone = distinct_cons (tag i) (map tag l) (to_false (mem (tag i) (map tag l)) (λ q. clash (mem (tag i) (tag i ∷ seen)) (mem_self (tag i) seen) (h.fresh (tag i) q))) h.alone;
        inside = λ x q. ⊎_elim (λ a. own_has x (tag i) a has) (λ a. h.inside x a) (mem_cases x (tag i) (map tag l) q);
        fresh = λ x q. ⊎_elim (λ a. own_fresh x (tag i) a new) (λ a. or_right (eqb x (tag i)) _ (sym (mem_head x (tag i) seen) ∙ h.fresh x a)) (mem_cases x (tag i) (map tag l) q);
      }
    where
      own_has : (x y : ℕ) → x ≡ y → has_tag y P.own ≡ true → has_tag x P.own ≡ true
      own_has x y e h = rw e h

      own_fresh : (x y : ℕ) → x ≡ y → mem y seen ≡ false → mem x seen ≡ false
      own_fresh x y e h = rw e h

-- no tag twice, and none of the frame's
pub record Single (A : Arrangement) : Type 0 where
  pub alone : distinct (tags_all (item_tags 5) A.items) ≡ true
  pub below : Each (Once 5) A.items
  pub frame : (x : ℕ) → mem x (0 ∷ 8 ∷ 9 ∷ 35 ∷ 10 ∷ []) ≡ true → mem x (tags_all (item_tags 5) A.items) ≡ false

placed_is : (P : Page) → placed P ≡ open_by (under P.book 5) P.own
unfolding placed
placed_is P = refl

-- over plain variables: what an inversion gave is not rewritten in place
of_page : (P : Page) (S : Rules P.book) (A : Arrangement) → good_items P A.items ≡ true → distinct (open_by (under P.book 5) P.own) ≡ true
    → ((x : ℕ) → is_found (look_up (is_field x) P.book) ≡ false → mem x (open_by (under P.book 5) P.own) ≡ false) → Single A
of_page P S A g d outside =
    let h = own_once P (tag_of 5) (fits P.book 5) (under P.book 5) (Once 5) (item_once P.book S 5) d [] A.items (sym (items_are P A.items) ∙ g) in
    record {
      alone = level_alone P.book S (tag_of 5) (item_tags 5) (λ i. fits P.book 5 i ≡ true) (item_shape P.book S 5) (item_tidy P.book 5) A.items h.good h.alone;
      below = h.down;
      frame = λ x w.
          let free = undeclared P.book S x w in
          to_false (mem x (tags_all (item_tags 5) A.items)) (λ e.
          ⊎_elim (λ a. clash (mem x (open_by (under P.book 5) P.own)) (has_open (under P.book 5) x P.own (h.inside x a)) (outside x free))
          (λ a. clash (is_bounded P.book x) (bounded_partner x a.0 a.3 a.2) (undeclared_free P.book S x free))
          (tag_in P.book S (tag_of 5) (item_tags 5) (λ i. fits P.book 5 i ≡ true) (item_shape P.book S 5) (item_tidy P.book 5) x A.items h.good e));
    }
  where
    bounded_partner : (x y : ℕ) → x ≡ partner P.book y → is_length P.book y ≡ true → is_bounded P.book x ≡ true
    bounded_partner x y e l = rw e (length_partner P.book S y l).0

pub permitted_single : (B : List Record) → Rules B → (A : Arrangement) → permitted B A ≡ true → Single A
permitted_single B S A p =
    let h = permitted_parts B A p in
    let L = h.frame.type in
    go h.page L.entry L.page L.found (page_sound B S A.type h.page L).0 h.items
  where
    go : (P : Page) (r : Record) → P ≡ record { book = B; own = r.members } → message_of B A.type ≡ found r → distinct (placed P) ≡ true → good_items P A.items ≡ true → Single A
    go P r e f d g =
        of_page (record { book = B; own = r.members }) S A (rw (← e) g) (ap distinct (sym (placed_is (record { book = B; own = r.members }))) ∙ rw (← e) d) (λ x free. message_declared B S A.type r f x free)
