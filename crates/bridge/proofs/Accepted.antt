-- What the reading between 35 and 10 accepts is permitted, and written out it gives the bytes. Of any book. Assumes nothing.
use mathlib.Core.Path.{◌≡◌, refl, sym, ap, ◌∙◌}
use mathlib.Core.Bool.{Bool, true, false, ◌&&◌, ◌||◌, not}
use mathlib.Core.List.{List, [], ◌∷◌}
use Prim.Native.Nat.{ℕ, zero, suc}
use native.Mathlib.Omega.{arith}
use lib.Dec.{eqb}
use lib.ListN.{length}
use borrow.Author.Tests.{eqb-true, eq-eqb, not-true}
use Rattle.numbers.specs.Bytes.{mem}
use Rattle.numbers.specs.Decimal.{value}
use Rattle.numbers.proofs.Tests.{clash, and_left, and_right}
use Rattle.book.specs.Records.{is_bounded, Record, Member, group_of, is_count}
use Rattle.message.specs.Arrangement.{Piece, single, pair, Node, leaf, count, Item, node_tag, tag_of, Items, Page}
use Rattle.message.specs.Written.{put, put_all, put_node, put_item, body}
use Rattle.message.specs.Permitted.{good, spare, in_order, instance, instances, fits_node, fits, has_tag, Miss, none, lacks, note, lacking, is_none, any_order, good_items}
use Rattle.reader.specs.Fields.{torn, peek, Grab, got, fault, grab}
use Rattle.reader.specs.Items.{Out, done, bad, late, refuse, has_place, and_then, onto, is_first, starts, close, members, inst, insts, closed, group, node_by, read_item, ending, own_list, read_items}
use Rattle.bridge.proofs.Sees.{grab_true, peek_put}

pub never : {A X : Type 0} (n t : ℕ) (s r : List ℕ) (x : X) → bad n t s ≡ done x r → A
never n t s r x e = let z : ◌≡◌ {A = ℕ} 0 1 = cc in absurd (omega arith)

pub never_late : {A X : Type 0} (b : Bool) (s r : List ℕ) (x : X) → late b s ≡ done x r → A
never_late b s r x e = let z : ◌≡◌ {A = ℕ} 0 1 = cc in absurd (omega arith)

refuse_never : {X : Type 0} (P : Page) (all : List Member) (seen s r : List ℕ) (x : X) → refuse P all seen s ≡ done x r → ⊥
unfolding refuse
refuse_never P all seen s r x e = go (eqb (peek s) torn) refl (is_bounded P.book (peek s)) refl (has_place P (peek s)) refl (has_tag (peek s) all) refl
  where
    go : (a : Bool) → eqb (peek s) torn ≡ a → (b : Bool) → is_bounded P.book (peek s) ≡ b → (c : Bool) → has_place P (peek s) ≡ c → (d : Bool) → has_tag (peek s) all ≡ d → ⊥
    go true ea b eb c ec d ed = never _ _ _ _ _ (rw ea at e)
    go false ea true eb true ec d ed = never _ _ _ _ _ (rw (ea, eb, ec) at e)
    go false ea true eb false ec true ed = never_late _ _ _ _ (rw (ea, eb, ec, ed) at e)
    go false ea true eb false ec false ed = never _ _ _ _ _ (rw (ea, eb, ec, ed) at e)
    go false ea false eb c ec true ed = never_late _ _ _ _ (rw (ea, eb, ed) at e)
    go false ea false eb c ec false ed = never _ _ _ _ _ (rw (ea, eb, ed) at e)

-- one thing read, then a list
record Then {X : Type 0} (o : Out X) (f : List ℕ → Out (List X)) (l : List X) (r : List ℕ) : Type 0 where
  one : X
  left : List ℕ
  more : List X
  first : o ≡ done one left
  rest : f left ≡ done more r
  is : l ≡ one ∷ more

then_done : {X : Type 0} (o : Out X) (f : List ℕ → Out (List X)) (l : List X) (r : List ℕ) → and_then o (λ x q. onto x (f q)) ≡ done l r → Then o f l r
unfolding and_then
then_done (bad n t s) f l r e = never n t s r l e
then_done (late b s) f l r e = never_late b s r l e
then_done (done x q) f l r e = go (f q) refl e
  where
    go : (o : Out (List _)) → f q ≡ o → onto x o ≡ done l r → Then (done x q) f l r
    go (bad n t s) p e = never n t s r l (unfold onto in e)
    go (late b s) p e = never_late b s r l (unfold onto in e)
    go (done k u) p e =
        let h : done (x ∷ k) u ≡ done l r = unfold onto in e in
        let er : u ≡ r = cc in
        record { one = x; left = q; more = k; first = refl; rest = p ∙ ap (done k) er; is = cc }

-- over plain variables: what an inversion gave must not be rewritten in place
written_then : {I : Type 0} (write : I → List ℕ → List ℕ) (i : I) (k l : List I) (s q r : List ℕ) → l ≡ i ∷ k → s ≡ write i q → q ≡ put_all write k r → s ≡ put_all write l r
unfolding put_all
written_then write i k l s q r el es eq = rw (el, es, eq)

pub note_none : (B : List Record) (x : Miss) (m : Member) → note B x m ≡ none → (x ≡ none) × (spare B m ≡ true)
unfolding note
note_none B none m e = go (spare B m) refl
  where
    go : (b : Bool) → spare B m ≡ b → (none ≡ none) × (spare B m ≡ true)
    go true p = (refl, p)
    go false p = let h : lacks m.tag ≡ none = rw p at e in let z : ◌≡◌ {A = ℕ} 0 1 = cc in absurd (omega arith)
note_none B (lacks t) m e = let z : ◌≡◌ {A = ℕ} 0 1 = cc in absurd (omega arith)

module _ (B : List Record) {I : Type 0} (tag : I → ℕ) (fits : I → Bool) where
  pub first_fits : (ms : List Member) (i : I) (l : List I) → in_order B tag fits ms (i ∷ l) ≡ true → fits i ≡ true
  unfolding in_order
  first_fits [] i l o = clash false o refl
  first_fits (m ∷ ms) i l o = go (eqb (tag i) m.tag) refl (first_fits ms i l)
    where
      go : (b : Bool) → eqb (tag i) m.tag ≡ b → (in_order B tag fits ms (i ∷ l) ≡ true → fits i ≡ true) → fits i ≡ true
      go true p h = and_left (fits i) _ (rw p at o)
      go false p h = h (and_right (spare B m) _ (rw p at o))

module _ (P : Page) {I : Type 0} (tag : I → ℕ) (fits : I → Bool) (write : I → List ℕ → List ℕ)
    (begins : (i : I) (r : List ℕ) → fits i ≡ true → peek (write i r) ≡ tag i) where
  pub tag_at : (i : I) (s q : List ℕ) → s ≡ write i q → fits i ≡ true → peek s ≡ tag i
  tag_at i s q e f = ap peek e ∙ begins i q f

  module _ (read : List ℕ → Out I) (below : (s r : List ℕ) (i : I) → read s ≡ done i r → (s ≡ write i r) × (fits i ≡ true)) (all : List Member) (stay : ℕ → Bool) where
    close_true : (seen : List ℕ) (x : Miss) (s r : List ℕ) (l : List I) → close P all stay seen x s ≡ done l r → (l ≡ []) × (s ≡ r) × (x ≡ none)
    unfolding close
    close_true seen none s r l e = go (stay (peek s)) refl
      where
        go : (b : Bool) → stay (peek s) ≡ b → (l ≡ []) × (s ≡ r) × (none ≡ none)
        go true p = let h : done [] s ≡ done l r = rw p at e in ((cc), (cc), refl)
        go false p = absurd (refuse_never P all seen s r l (rw p at e))
    close_true seen (lacks t) s r l e = go (stay (peek s)) refl
      where
        go : (b : Bool) → stay (peek s) ≡ b → (l ≡ []) × (s ≡ r) × (lacks t ≡ none)
        go true p = never _ _ _ _ _ (rw p at e)
        go false p = absurd (refuse_never P all seen s r l (rw p at e))

    pass : (m : Member) (ms : List Member) (s r : List ℕ) (l : List I) → eqb (peek s) m.tag ≡ false → spare P.book m ≡ true → s ≡ put_all write l r
        → in_order P.book tag fits ms l ≡ true → in_order P.book tag fits (m ∷ ms) l ≡ true
    unfolding in_order put_all
    pass m ms s r [] p q w o = rw (q, o)
    pass m ms s r (i ∷ l) p q w o = rw (← tag_at i s (put_all write l r) w (first_fits P.book tag fits ms i l o), p, q, o)

    take_here : (m : Member) (ms : List Member) (i : I) (k l : List I) (s q : List ℕ) → l ≡ i ∷ k → eqb (peek s) m.tag ≡ true → s ≡ write i q → fits i ≡ true
        → in_order P.book tag fits ms k ≡ true → (in_order P.book tag fits (m ∷ ms) l ≡ true) × (instance P.book tag fits (m ∷ ms) l ≡ true)
    unfolding in_order instance
    take_here m ms i k l s q el p es f o = rw (el, ← tag_at i s q es f, p, f, o) (refl, refl)

    members_true : (seen : List ℕ) (x : Miss) (ms : List Member) (s r : List ℕ) (l : List I) → members P read all stay seen x ms s ≡ done l r
        → (s ≡ put_all write l r) × (in_order P.book tag fits ms l ≡ true) × (x ≡ none)
    unfolding members put_all in_order
    members_true seen x [] s r l e =
        let h = close_true seen x s r l e in
        rw h.0 (h.1, refl, h.2)
    members_true seen x (m ∷ ms) s r l e = go (eqb (peek s) m.tag) refl (λ q k. members_true (m.tag ∷ seen) x ms q r k) (members_true seen (note P.book x m) ms s r l)
      where
        go : (b : Bool) → eqb (peek s) m.tag ≡ b
            → ((q : List ℕ) (k : List I) → members P read all stay (m.tag ∷ seen) x ms q ≡ done k r → (q ≡ put_all write k r) × (in_order P.book tag fits ms k ≡ true) × (x ≡ none))
            → (members P read all stay seen (note P.book x m) ms s ≡ done l r → (s ≡ put_all write l r) × (in_order P.book tag fits ms l ≡ true) × (note P.book x m ≡ none))
            → (s ≡ put_all write l r) × (in_order P.book tag fits (m ∷ ms) l ≡ true) × (x ≡ none)
        go true p on off =
            let a = then_done (read s) (members P read all stay (m.tag ∷ seen) x ms) l r (rw p at e) in
            let w = below s a.left a.one a.first in
            let h = on a.left a.more a.rest in (
              written_then write a.one a.more l s a.left r a.is w.0 h.0,
              (take_here m ms a.one a.more l s a.left a.is p w.0 w.1 h.1).0,
              h.2,
            )
        go false p on off =
            let h = off (rw p at e) in
            let n = note_none P.book x m h.2 in
            (h.0, pass m ms s r l p n.1 h.0 h.1, n.0)

    inst_true : (ms : List Member) (s r : List ℕ) (l : List I) → inst P read all stay ms s ≡ done l r → (s ≡ put_all write l r) × (instance P.book tag fits ms l ≡ true)
    unfolding inst put_all instance
    inst_true [] s r l e = never _ _ _ _ _ e
    inst_true (m ∷ ms) s r l e = go (eqb (peek s) m.tag) refl
      where
        go : (b : Bool) → eqb (peek s) m.tag ≡ b → (s ≡ put_all write l r) × (instance P.book tag fits (m ∷ ms) l ≡ true)
        go false p = other (starts P all (peek s) || stay (peek s)) refl
          where
            other : (c : Bool) → (starts P all (peek s) || stay (peek s)) ≡ c → (s ≡ put_all write l r) × (instance P.book tag fits (m ∷ ms) l ≡ true)
            other true q = never _ _ _ _ _ (rw (p, q) at e)
            other false q = absurd (refuse_never P [] [] s r l (rw (p, q) at e))
        go true p =
            let a = then_done (read s) (members P read all stay (m.tag ∷ []) none ms) l r (rw p at e) in
            let w = below s a.left a.one a.first in
            let h = members_true (m.tag ∷ []) none ms a.left r a.more a.rest in (
              written_then write a.one a.more l s a.left r a.is w.0 h.0,
              (take_here m ms a.one a.more l s a.left a.is p w.0 w.1 h.1).1,
            )

    take_inst : (ms : List Member) (x : List I) (k l : List (List I)) (n : ℕ) → l ≡ x ∷ k → instance P.book tag fits ms x ≡ true → instances P.book tag fits ms k ≡ true
        → length k ≡ n → (instances P.book tag fits ms l ≡ true) × (length l ≡ suc n)
    unfolding instances
    take_inst ms x k l n el p q e = rw (el, p, q, e) (refl, refl)

    pub insts_true : (n : ℕ) (ms : List Member) (s r : List ℕ) (l : List (List I)) → insts P read all stay n ms s ≡ done l r
        → (s ≡ put_all (put_all write) l r) × (instances P.book tag fits ms l ≡ true) × (length l ≡ n)
    unfolding insts put_all instances
    insts_true zero ms s r l e = let a : [] ≡ l = cc in let b : s ≡ r = cc in rw (← a, b) (refl, refl, refl)
    insts_true (suc n) ms s r l e =
        let a = then_done (inst P read all stay ms s) (insts P read all stay n ms) l r e in
        let w = inst_true ms s a.left a.one a.first in
        let h = insts_true n ms a.left r a.more a.rest in
        let o = take_inst ms a.one a.more l n a.is w.1 h.1 h.2 in
        (written_then (put_all write) a.one a.more l s a.left r a.is w.0 h.0, o.0, o.1)

  module _ (read : (ℕ → Bool) → List ℕ → Out I) (below : (outer : ℕ → Bool) (s r : List ℕ) (i : I) → read outer s ≡ done i r → (s ≡ write i r) × (fits i ≡ true)) where
    closed_done : (ms : List Member) (t : ℕ) (v : List ℕ) (o : Out (List (List I))) (n : Node I) (r : List ℕ) → closed P ms t v o ≡ done n r
        → (l : List (List I)) × (o ≡ done l r) × (n ≡ count t v l)
    unfolding closed
    closed_done ms t v (bad n x s) k r e = never _ _ _ _ _ e
    closed_done ms t v (late b s) k r e = never_late _ _ _ _ e
    closed_done ms t v (done l q) k r e = go (is_first ms (peek q)) refl
      where
        go : (b : Bool) → is_first ms (peek q) ≡ b → (j : List (List I)) × (done l q ≡ done j r) × (k ≡ count t v j)
        go true p = never _ _ _ _ _ (rw p at e)
        go false p = let h : done (count t v l) q ≡ done k r = rw p at e in (l, (cc), (cc))

    group_true : (outer : ℕ → Bool) (t : ℕ) (v s r : List ℕ) (k : Node I) → group P read outer t v s ≡ done k r
        → (l : List (List I)) × (k ≡ count t v l) × (s ≡ put_all (put_all write) l r) × (instances P.book tag fits (group_of P.book t) l ≡ true) × (length l ≡ value v)
    unfolding group
    group_true outer t v s r k e =
        let ms = group_of P.book t in
        let n = value v in
        let a = closed_done ms t v (insts P (read (λ u. starts P ms u || outer u)) ms (λ u. is_first ms u || outer u) n ms s) k r e in
        let h = insts_true (read (λ u. starts P ms u || outer u)) (below (λ u. starts P ms u || outer u)) ms (λ u. is_first ms u || outer u) n ms s r a.0 a.1 in
        (a.0, a.2, h.0, h.1, h.2)

    count_true : (t : ℕ) (v s q r : List ℕ) (l : List (List I)) → s ≡ put (single t v) q → good P.book (single t v) ≡ true → is_count P.book t ≡ true
        → q ≡ put_all (put_all write) l r → instances P.book tag fits (group_of P.book t) l ≡ true → length l ≡ value v
        → (s ≡ put_node write (count t v l) r) × (fits_node P.book tag fits (count t v l) ≡ true)
    unfolding put_node fits_node
    count_true t v s q r l es g c eq o n = rw (es, eq, g, c, o, eq-eqb (value v) (length l) (sym n)) (refl, refl)

    by_true : (outer : ℕ → Bool) (g : Grab) (s r : List ℕ) (n : Node I) → grab P.book s ≡ g → node_by P read outer g ≡ done n r
        → (s ≡ put_node write n r) × (fits_node P.book tag fits n ≡ true)
    unfolding node_by put_node fits_node
    by_true outer (fault x q) s r n eg e = never _ _ _ _ _ e
    by_true outer (got (single t v) q) s r n eg e = go (is_count P.book t) refl
      where
        go : (b : Bool) → is_count P.book t ≡ b → (s ≡ put_node write n r) × (fits_node P.book tag fits n ≡ true)
        go true p =
            let h = group_true outer t v q r n (rw p at e) in
            let w = grab_true P.book s q (single t v) eg in
            rw h.1 (count_true t v s q r h.0 w.0 w.1 p h.2 h.3 h.4)
        go false p =
            let h : done (leaf (single t v)) q ≡ done n r = rw p at e in
            let en : n ≡ leaf (single t v) = cc in
            let er : q ≡ r = cc in
            let w = grab_true P.book s q (single t v) eg in
            rw (en, ← er, w.1, p) (w.0, refl)
    by_true outer (got (pair l x d v) q) s r n eg e =
        let en : n ≡ leaf (pair l x d v) = cc in
        let er : q ≡ r = cc in
        let w = grab_true P.book s q (pair l x d v) eg in
        rw (en, ← er) (w.0, w.1)

    ending_true : (x : Miss) (l : List I) (r : List ℕ) → ending P x ≡ done l r → (l ≡ []) × (r ≡ []) × (is_none x ≡ true)
    unfolding ending
    ending_true none l r e = ((cc), (cc), refl)
    ending_true (lacks t) l r e = never _ _ _ _ _ e

    take_own : (seen : List ℕ) (i : I) (k l : List I) (x : ℕ) → l ≡ i ∷ k → x ≡ tag i → (starts P P.own x && not (mem x seen)) ≡ true → fits i ≡ true
        → any_order P tag fits (x ∷ seen) k ≡ true → any_order P tag fits seen l ≡ true
    unfolding any_order
    take_own seen i k l x el et p f o =
        let st = and_left (starts P P.own x) (not (mem x seen)) p in
        rw (el, ← et, and_left (has_tag x P.own) _ st, and_right (starts P P.own x) (not (mem x seen)) p, f, o)

    pub own_true : (f : ℕ) (seen s r : List ℕ) (l : List I) → own_list P read f seen s ≡ done l r
        → (s ≡ put_all write l []) × (any_order P tag fits seen l ≡ true) × (r ≡ [])
    unfolding own_list put_all any_order
    own_true zero seen [] r l e = let h = ending_true (lacking P.book none P.own seen) l r e in rw h.0 (refl, h.2, h.1)
    own_true (suc f) seen [] r l e = let h = ending_true (lacking P.book none P.own seen) l r e in rw h.0 (refl, h.2, h.1)
    own_true zero seen (b ∷ s) r l e = never _ _ _ _ _ e
    own_true (suc f) seen (b ∷ s) r l e = go (starts P P.own x) refl (mem x seen) refl (λ q k. own_true f (x ∷ seen) q r k)
      where
        x : ℕ
        x = peek (b ∷ s)

        out : ℕ → Bool
        out u = eqb u 0 || starts P P.own u

        go : (c : Bool) → starts P P.own x ≡ c → (d : Bool) → mem x seen ≡ d
            → ((q : List ℕ) (k : List I) → own_list P read f (x ∷ seen) q ≡ done k r → (q ≡ put_all write k []) × (any_order P tag fits (x ∷ seen) k ≡ true) × (r ≡ []))
            → (b ∷ s ≡ put_all write l []) × (any_order P tag fits seen l ≡ true) × (r ≡ [])
        go false p d q ih = absurd (refuse_never P [] [] (b ∷ s) r l (rw p at e))
        go true p true q ih = never _ _ _ _ _ (rw (p, q) at e)
        go true p false q ih =
            let a = then_done (read out (b ∷ s)) (own_list P read f (x ∷ seen)) l r (rw (p, q) at e) in
            let w = below out (b ∷ s) a.left a.one a.first in
            let h = ih a.left a.more a.rest in
            let t = tag_at a.one (b ∷ s) a.left w.0 w.1 in
            (written_then write a.one a.more l (b ∷ s) a.left [] a.is w.0 h.0, take_own seen a.one a.more l x a.is t (rw (p, q)) w.1 h.1, h.2)

-- an item begins with its tag
module _ (B : List Record) where
  -- the parts of a count that fits
  pub record Counted {I : Type 0} (tag : I → ℕ) (fits : I → Bool) (t : ℕ) (v : List ℕ) (l : List (List I)) : Type 0 where
    pub text : good B (single t v) ≡ true
    pub kind : is_count B t ≡ true
    pub number : value v ≡ length l
    pub insts : instances B tag fits (group_of B t) l ≡ true

  pub count_parts : {I : Type 0} (tag : I → ℕ) (fits : I → Bool) (t : ℕ) (v : List ℕ) (l : List (List I)) → fits_node B tag fits (count t v l) ≡ true → Counted tag fits t v l
  unfolding fits_node
  count_parts tag fits t v l f =
      let a = and_left (good B (single t v) && is_count B t && eqb (value v) (length l)) _ f in
      let b = and_left (good B (single t v) && is_count B t) _ a in
      record {
        text = and_left (good B (single t v)) _ b;
        kind = and_right (good B (single t v)) _ b;
        number = eqb-true (value v) (length l) (and_right (good B (single t v) && is_count B t) _ a);
        insts = and_right (good B (single t v) && is_count B t && eqb (value v) (length l)) _ f;
      }

  -- a piece that fits is good
  pub leaf_good : {I : Type 0} (tag : I → ℕ) (fits : I → Bool) (k : Piece) → fits_node B tag fits (leaf k) ≡ true → good B k ≡ true
  unfolding fits_node
  leaf_good tag fits (single t v) f = and_left (good B (single t v)) _ f
  leaf_good tag fits (pair l w d v) f = f

  pub single_uncounted : {I : Type 0} (tag : I → ℕ) (fits : I → Bool) (t : ℕ) (v : List ℕ) → fits_node B tag fits (leaf (single t v)) ≡ true → is_count B t ≡ false
  unfolding fits_node
  single_uncounted tag fits t v f = not-true (is_count B t) (and_right (good B (single t v)) _ f)

  peek_node : {I : Type 0} (tag : I → ℕ) (fits : I → Bool) (write : I → List ℕ → List ℕ) (n : Node I) (r : List ℕ)
      → fits_node B tag fits n ≡ true → peek (put_node write n r) ≡ node_tag n
  unfolding put_node
  peek_node tag fits write (leaf k) r f = peek_put B k r (leaf_good tag fits k f)
  peek_node tag fits write (count t v l) r f = peek_put B (single t v) _ (count_parts tag fits t v l f).text

  pub peek_item : (d : ℕ) (i : Item d) (r : List ℕ) → fits B d i ≡ true → peek (put_item d i r) ≡ tag_of d i
  unfolding put_item fits
  peek_item zero i r f = absurd i
  peek_item (suc d) n r f = peek_node (tag_of d) (fits B d) (put_item d) n r f

-- by depth
module _ (P : Page) where
  pub item_true : (d : ℕ) (outer : ℕ → Bool) (s r : List ℕ) (i : Item d) → read_item P d outer s ≡ done i r → (s ≡ put_item d i r) × (fits P.book d i ≡ true)
  unfolding read_item put_item fits
  item_true zero outer s r i e = absurd i
  item_true (suc d) outer s r i e =
      by_true P (tag_of d) (fits P.book d) (put_item d) (peek_item P.book d) (read_item P d) (item_true d) outer (grab P.book s) s r i refl e

-- the definitions one step open
pub body_is : (a : Items) → body a ≡ put_all (put_item 5) a []
unfolding body
body_is a = refl

pub items_are : (P : Page) (a : Items) → good_items P a ≡ any_order P (tag_of 5) (fits P.book 5) [] a
unfolding good_items
items_are P a = refl

pub reading_is : (P : Page) (s : List ℕ) → read_items P s ≡ own_list P (read_item P 5) (length s) [] s
unfolding read_items
reading_is P s = refl

pub items_true : (P : Page) (s r : List ℕ) (a : Items) → read_items P s ≡ done a r → (body a ≡ s) × (good_items P a ≡ true) × (r ≡ [])
items_true P s r a e =
    let h =
    own_true P (tag_of 5) (fits P.book 5) (put_item 5) (peek_item P.book 5) (read_item P 5) (item_true P 5) (length s) [] s r a (sym (reading_is P s) ∙ e) in
    (body_is a ∙ sym h.0, items_are P a ∙ h.1, h.2)
