-- What is permitted and written out is read back, where with all groups opened each tag stands in one place and 0 is none. Assumes nothing.
use mathlib.Core.Path.{◌≡◌, refl, sym, ◌∙◌}
use mathlib.Core.Bool.{Bool, true, false, cond, ◌&&◌, ◌||◌, not, or-true}
use mathlib.Core.List.{List, [], ◌∷◌, ◌++◌}
use mathlib.Core.Logic.{◌⊎◌, inl, inr}
use Prim.Native.Nat.{ℕ, zero, suc, ◌≤◌, ◌<◌}
use native.Mathlib.Omega.{arith}
use lib.Dec.{eqb}
use lib.ListN.{length}
use borrow.Author.Tests.{eqb-true, not-true}
use Rattle.numbers.specs.Bytes.{mem}
use Rattle.numbers.proofs.Tests.{clash, and_left, and_right, or_left, or_right}
use Rattle.book.specs.Records.{Record, Member, group_of, is_count, is_bounded}
use Rattle.message.specs.Arrangement.{Piece, single, pair, Node, leaf, count, Item, node_tag, tag_of, Items, Page}
use Rattle.message.specs.Written.{put, put_all, put_node, put_item, body}
use Rattle.message.specs.Permitted.{spare, in_order, instance, instances, fits_node, fits, has_tag, Miss, none, lacks, note, lacking, is_none, any_order, good_items}
use Rattle.reader.specs.Fields.{peek, grab}
use Rattle.reader.specs.Items.{Out, done, and_then, onto, is_first, starts, close, members, inst, insts, closed, group, node_by, read_item, ending, own_list, read_items}
use Rattle.bridge.proofs.Lists.{distinct, mem_left, mem_right, mem_behind, disjoint, distinct_left, distinct_right}
use Rattle.bridge.proofs.Sees.{grab_back, peek_end, good_unbounded, put_size}
use Rattle.bridge.proofs.Accepted.{first_fits, count_parts, leaf_good, single_uncounted, peek_item, body_is, items_are, reading_is}

-- the tags of a list with all groups opened, where `u` has those below a tag
unfoldable pub open_by : (ℕ → List ℕ) → List Member → List ℕ
open_by u [] = []
open_by u (m ∷ ms) = m.tag ∷ (u m.tag ++ open_by u ms)

-- the tags below a tag: those of its group opened, if it is a count
unfoldable pub under : List Record → ℕ → ℕ → List ℕ
under B zero t = []
under B (suc d) t = cond (is_count B t) (open_by (under B d) (group_of B t)) []

-- what holds of a list opened holds of what stands below each of its tags
module _ (u : ℕ → List ℕ) where
  pub has_open : (t : ℕ) (ms : List Member) → has_tag t ms ≡ true → mem t (open_by u ms) ≡ true
  unfolding has_tag mem open_by
  has_open t [] e = e
  has_open t (m ∷ ms) e = go (eqb t m.tag) refl (has_open t ms)
    where
      go : (b : Bool) → eqb t m.tag ≡ b → (has_tag t ms ≡ true → mem t (open_by u ms) ≡ true) → (eqb t m.tag || mem t (u m.tag ++ open_by u ms)) ≡ true
      go true p h = rw p
      go false p h = rw p (mem_behind t (u m.tag) (open_by u ms) (h (rw p at e)))

  pub inside : (t a : ℕ) (ms : List Member) → has_tag a ms ≡ true → mem t (open_by u ms) ≡ false → mem t (u a) ≡ false
  unfolding has_tag mem open_by
  inside t a [] e n = clash false e refl
  inside t a (m ∷ ms) e n = go (eqb a m.tag) refl (inside t a ms)
    where
      v : mem t (u m.tag ++ open_by u ms) ≡ false
      v = or_right (eqb t m.tag) _ n

      go : (b : Bool) → eqb a m.tag ≡ b → (has_tag a ms ≡ true → mem t (open_by u ms) ≡ false → mem t (u a) ≡ false) → mem t (u a) ≡ false
      go true p h = rw (eqb-true a m.tag p) (mem_left t (u m.tag) (open_by u ms) v)
      go false p h = h (rw p at e) (mem_right t (u m.tag) (open_by u ms) v)

  pub own_distinct : (a : ℕ) (ms : List Member) → has_tag a ms ≡ true → distinct (open_by u ms) ≡ true → distinct (u a) ≡ true
  unfolding has_tag open_by distinct
  own_distinct a [] e d = clash false e refl
  own_distinct a (m ∷ ms) e d = go (eqb a m.tag) refl (own_distinct a ms)
    where
      v : distinct (u m.tag ++ open_by u ms) ≡ true
      v = and_right (not (mem m.tag (u m.tag ++ open_by u ms))) _ d

      go : (b : Bool) → eqb a m.tag ≡ b → (has_tag a ms ≡ true → distinct (open_by u ms) ≡ true → distinct (u a) ≡ true) → distinct (u a) ≡ true
      go true p h = rw (eqb-true a m.tag p) (distinct_left (u m.tag) (open_by u ms) v)
      go false p h = h (rw p at e) (distinct_right (u m.tag) (open_by u ms) v)

  pub apart : (a b : ℕ) (ms : List Member) → has_tag a ms ≡ true → has_tag b ms ≡ true → distinct (open_by u ms) ≡ true → mem b (u a) ≡ false
  unfolding has_tag open_by distinct
  apart a b [] ea eb d = clash false ea refl
  apart a b (m ∷ ms) ea eb d = go (eqb a m.tag) refl (eqb b m.tag) refl (apart a b ms)
    where
      v : distinct (u m.tag ++ open_by u ms) ≡ true
      v = and_right (not (mem m.tag (u m.tag ++ open_by u ms))) _ d

      n : mem m.tag (u m.tag ++ open_by u ms) ≡ false
      n = not-true _ (and_left (not (mem m.tag (u m.tag ++ open_by u ms))) _ d)

      go : (x : Bool) → eqb a m.tag ≡ x → (y : Bool) → eqb b m.tag ≡ y
          → (has_tag a ms ≡ true → has_tag b ms ≡ true → distinct (open_by u ms) ≡ true → mem b (u a) ≡ false) → mem b (u a) ≡ false
      go true p true q h = rw (eqb-true a m.tag p, eqb-true b m.tag q) (mem_left m.tag (u m.tag) (open_by u ms) n)
      go true p false q h = rw (eqb-true a m.tag p) (disjoint b (u m.tag) (open_by u ms) v (has_open b ms (rw q at eb)))
      go false p true q h = rw (eqb-true b m.tag q) (inside m.tag a ms (rw p at ea) (mem_right m.tag (u m.tag) (open_by u ms) n))
      go false p false q h = h (rw p at ea) (rw q at eb) (distinct_right (u m.tag) (open_by u ms) v)

-- one level, over the one below: `u` has the tags below a tag there
module _ (P : Page) {I : Type 0} (tag : I → ℕ) (fits : I → Bool) (write : I → List ℕ → List ℕ) (u : ℕ → List ℕ)
    (begins : (i : I) (r : List ℕ) → fits i ≡ true → peek (write i r) ≡ tag i)
    (tidy : (i : I) → fits i ≡ true → is_bounded P.book (tag i) ≡ false)
    (read : (ℕ → Bool) → List ℕ → Out I)
    (back : (out : ℕ → Bool) (i : I) (r : List ℕ) → fits i ≡ true → distinct (u (tag i)) ≡ true → mem (peek r) (u (tag i)) ≡ false → out (peek r) ≡ true → read out (write i r) ≡ done i r) where
  -- the next field after a list of items
  in_list : (ms : List Member) (i : I) (l : List I) → in_order P.book tag fits ms (i ∷ l) ≡ true → starts P ms (tag i) ≡ true
  unfolding in_order has_tag
  in_list [] i l o = clash false o refl
  in_list (m ∷ ms) i l o = go (eqb (tag i) m.tag) refl (in_list ms i l)
    where
      go : (b : Bool) → eqb (tag i) m.tag ≡ b → (in_order P.book tag fits ms (i ∷ l) ≡ true → starts P ms (tag i) ≡ true) → starts P (m ∷ ms) (tag i) ≡ true
      go true p h = rw (p, tidy i (and_left (fits i) _ (rw p at o)))
      go false p h = rw p (h (and_right (spare P.book m) _ (rw p at o)))

  next : (ms : List Member) (l : List I) (r : List ℕ) → in_order P.book tag fits ms l ≡ true
      → (starts P ms (peek (put_all write l r)) ≡ true) ⊎ (peek (put_all write l r) ≡ peek r)
  unfolding put_all
  next ms [] r o = inr refl
  next ms (i ∷ l) r o = inl (rw (begins i (put_all write l r) (first_fits P.book tag fits ms i l o)) (in_list ms i l o))

  later : (m : Member) (ms : List Member) (x : ℕ) → starts P ms x ≡ true → starts P (m ∷ ms) x ≡ true
  unfolding has_tag
  later m ms x h = rw (and_left (has_tag x ms) _ h, and_right (has_tag x ms) _ h, or-true (eqb x m.tag))

  module _ (out : ℕ → Bool) (r : List ℕ) (on : out (peek r) ≡ true) where
    -- the item of a member, followed by items of later members
    step : (t : ℕ) (ms : List Member) (i : I) (l : List I) → eqb (tag i) t ≡ true → fits i ≡ true → in_order P.book tag fits ms l ≡ true
        → distinct (u t ++ open_by u ms) ≡ true → mem (peek r) (u t ++ open_by u ms) ≡ false → ((x : ℕ) → starts P ms x ≡ true → out x ≡ true)
        → read out (write i (put_all write l r)) ≡ done i (put_all write l r)
    step t ms i l p f o d n sub =
        let e : tag i ≡ t = eqb-true (tag i) t p in
        back out i (put_all write l r) f (rw e (distinct_left (u t) (open_by u ms) d)) (rw e (free (next ms l r o))) (outside (next ms l r o))
      where
        free : (starts P ms (peek (put_all write l r)) ≡ true) ⊎ (peek (put_all write l r) ≡ peek r) → mem (peek (put_all write l r)) (u t) ≡ false
        free (inl h) = disjoint _ (u t) (open_by u ms) d (has_open u _ ms (and_left (has_tag (peek (put_all write l r)) ms) _ h))
        free (inr h) = rw h (mem_left (peek r) (u t) (open_by u ms) n)

        outside : (starts P ms (peek (put_all write l r)) ≡ true) ⊎ (peek (put_all write l r) ≡ peek r) → out (peek (put_all write l r)) ≡ true
        outside (inl h) = sub _ h
        outside (inr h) = rw h on

    module _ (all : List Member) (stay : ℕ → Bool) (leave : stay (peek r) ≡ true) where
      members_back : (seen : List ℕ) (ms : List Member) (l : List I) → in_order P.book tag fits ms l ≡ true → distinct (open_by u ms) ≡ true
          → mem (peek r) (open_by u ms) ≡ false → ((x : ℕ) → starts P ms x ≡ true → out x ≡ true)
          → members P (read out) all stay seen none ms (put_all write l r) ≡ done l r
      unfolding members close put_all in_order open_by distinct mem and_then onto note has_tag
      members_back seen [] [] o d n sub = rw leave
      members_back seen [] (i ∷ l) o d n sub = clash false o refl
      members_back seen (m ∷ ms) [] o d n sub =
          let d' = and_right (not (mem m.tag (u m.tag ++ open_by u ms))) _ d in
          let n' = or_right (eqb (peek r) m.tag) _ n in
          rw (or_left (eqb (peek r) m.tag) _ n, and_left (spare P.book m) _ o)
          (members_back seen ms [] (and_right (spare P.book m) _ o) (distinct_right (u m.tag) (open_by u ms) d') (mem_right (peek r) (u m.tag) (open_by u ms) n') (λ x h. sub x (later m ms x h)))
      members_back seen (m ∷ ms) (i ∷ l) o d n sub =
          go (eqb (tag i) m.tag) refl (λ w. members_back (m.tag ∷ seen) ms l w d'' n'' sub'') (λ w. members_back seen ms (i ∷ l) w d'' n'' sub'')
        where
          d' : distinct (u m.tag ++ open_by u ms) ≡ true
          d' = and_right (not (mem m.tag (u m.tag ++ open_by u ms))) _ d

          n' : mem (peek r) (u m.tag ++ open_by u ms) ≡ false
          n' = or_right (eqb (peek r) m.tag) _ n

          d'' : distinct (open_by u ms) ≡ true
          d'' = distinct_right (u m.tag) (open_by u ms) d'

          n'' : mem (peek r) (open_by u ms) ≡ false
          n'' = mem_right (peek r) (u m.tag) (open_by u ms) n'

          sub'' : (x : ℕ) → starts P ms x ≡ true → out x ≡ true
          sub'' x h = sub x (later m ms x h)

          go : (b : Bool) → eqb (tag i) m.tag ≡ b
              → (in_order P.book tag fits ms l ≡ true → members P (read out) all stay (m.tag ∷ seen) none ms (put_all write l r) ≡ done l r)
              → (in_order P.book tag fits ms (i ∷ l) ≡ true → members P (read out) all stay seen none ms (put_all write (i ∷ l) r) ≡ done (i ∷ l) r)
              → members P (read out) all stay seen none (m ∷ ms) (put_all write (i ∷ l) r) ≡ done (i ∷ l) r
          go true p yes' no' =
              let w : (fits i && in_order P.book tag fits ms l) ≡ true = rw p at o in
              let o' = and_right (fits i) _ w in
              rw (begins i (put_all write l r) (and_left (fits i) _ w), p, step m.tag ms i l p (and_left (fits i) _ w) o' d' n' sub'', yes' o')
          go false p yes' no' =
              let w : (spare P.book m && in_order P.book tag fits ms (i ∷ l)) ≡ true = rw p at o in
              rw (begins i (put_all write l r) (first_fits P.book tag fits ms i l (and_right (spare P.book m) _ w)), p, and_left (spare P.book m) _ w) (no' (and_right (spare P.book m) _ w))

      inst_back : (m : Member) (ms : List Member) (l : List I) → instance P.book tag fits (m ∷ ms) l ≡ true → distinct (u m.tag ++ open_by u ms) ≡ true
          → mem (peek r) (u m.tag ++ open_by u ms) ≡ false → ((x : ℕ) → starts P ms x ≡ true → out x ≡ true)
          → inst P (read out) all stay (m ∷ ms) (put_all write l r) ≡ done l r
      unfolding inst put_all instance and_then onto
      inst_back m ms [] o d n sub = clash false o refl
      inst_back m ms (i ∷ l) o d n sub =
          let a = and_left (eqb (tag i) m.tag && fits i) _ o in
          let p = and_left (eqb (tag i) m.tag) _ a in
          let o' = and_right (eqb (tag i) m.tag && fits i) _ o in
          rw (
            begins i (put_all write l r) (and_right (eqb (tag i) m.tag) _ a),
            p,
            step m.tag ms i l p (and_right (eqb (tag i) m.tag) _ a) o' d n sub,
            members_back (m.tag ∷ []) ms l o' (distinct_right (u m.tag) (open_by u ms) d) (mem_right (peek r) (u m.tag) (open_by u ms) n) sub,
          )

  -- all instances of a group
  module _ (m : Member) (ms : List Member) (outer : ℕ → Bool) (d : distinct (open_by u (m ∷ ms)) ≡ true) where
    abbrev out : ℕ → Bool
    out x = starts P (m ∷ ms) x || outer x

    abbrev stay : ℕ → Bool
    stay x = eqb x m.tag || outer x

    record Onward (r : List ℕ) : Type 0 where
      free : mem (peek r) (u m.tag ++ open_by u ms) ≡ false
      leaves : stay (peek r) ≡ true
      goes : out (peek r) ≡ true

    onward : (l : List (List I)) (r : List ℕ) → instances P.book tag fits (m ∷ ms) l ≡ true → Onward r → Onward (put_all (put_all write) l r)
    unfolding instances instance put_all open_by distinct has_tag
    onward [] r o w = w
    onward ([] ∷ l) r o w = clash false o refl
    onward ((i ∷ x) ∷ l) r o w =
        let a = and_left (instance P.book tag fits (m ∷ ms) (i ∷ x)) _ o in
        let b = and_left (eqb (tag i) m.tag && fits i) _ a in
        let p = and_left (eqb (tag i) m.tag) _ b in
        let e : tag i ≡ m.tag = eqb-true (tag i) m.tag p in
        let f = and_right (eqb (tag i) m.tag) _ b in
        let n : mem m.tag (u m.tag ++ open_by u ms) ≡ false = not-true _ (and_left (not (mem m.tag (u m.tag ++ open_by u ms))) _ d) in
        record {
          free = rw (begins i (put_all write x (put_all (put_all write) l r)) f, e) n;
          leaves = rw (begins i (put_all write x (put_all (put_all write) l r)) f, p);
          goes = rw (begins i (put_all write x (put_all (put_all write) l r)) f, p, tidy i (and_right (eqb (tag i) m.tag) _ b));
        }

    insts_back : (l : List (List I)) (r : List ℕ) → instances P.book tag fits (m ∷ ms) l ≡ true → Onward r
        → insts P (read out) (m ∷ ms) stay (length l) (m ∷ ms) (put_all (put_all write) l r) ≡ done l r
    unfolding insts instances put_all open_by distinct and_then onto
    insts_back [] r o w = refl
    insts_back (x ∷ l) r o w =
        let o' = and_right (instance P.book tag fits (m ∷ ms) x) _ o in
        let k = onward l r o' w in
        let d' = and_right (not (mem m.tag (u m.tag ++ open_by u ms))) _ d in
        rw (inst_back out (put_all (put_all write) l r) k.goes (m ∷ ms) stay k.leaves m ms x (and_left (instance P.book tag fits (m ∷ ms) x) _ o) d' k.free sub, insts_back l r o' w)
      where
        sub : (x : ℕ) → starts P ms x ≡ true → out x ≡ true
        sub x h = rw (later m ms x h)

  -- a group behind its count
  group_back : (t : ℕ) (v : List ℕ) (ms : List Member) (outer : ℕ → Bool) (l : List (List I)) (r : List ℕ) → instances P.book tag fits ms l ≡ true
      → distinct (open_by u ms) ≡ true → mem (peek r) (open_by u ms) ≡ false → outer (peek r) ≡ true
      → closed P ms t v
      (insts P (read (λ y. starts P ms y || outer y)) ms (λ y. is_first ms y || outer y) (length l) ms (put_all (put_all write) l r))
      ≡ done (count t v l) r
  unfolding closed open_by instances instance mem insts put_all
  group_back t v [] outer [] r o d n h = refl
  group_back t v [] outer (x ∷ l) r o d n h = clash false o refl
  group_back t v (m ∷ ms) outer l r o d n h =
      let w : Onward m ms outer d r = record { free = or_right (eqb (peek r) m.tag) _ n; leaves = rw h (or-true (eqb (peek r) m.tag)); goes = rw h (or-true (starts P (m ∷ ms) (peek r))) } in
      rw (insts_back m ms outer d l r o w, or_left (eqb (peek r) m.tag) _ n)

  pub node_back : (outer : ℕ → Bool) (n : Node I) (r : List ℕ) → fits_node P.book tag fits n ≡ true
      → distinct (cond (is_count P.book (node_tag n)) (open_by u (group_of P.book (node_tag n))) []) ≡ true
      → mem (peek r) (cond (is_count P.book (node_tag n)) (open_by u (group_of P.book (node_tag n))) []) ≡ false → outer (peek r) ≡ true
      → node_by P read outer (grab P.book (put_node write n r)) ≡ done n r
  unfolding put_node node_by group
  node_back outer (leaf (single t v)) r f d n h = rw (grab_back P.book (single t v) r (leaf_good P.book tag fits (single t v) f), single_uncounted P.book tag fits t v f)
  node_back outer (leaf (pair l w x v)) r f d n h = rw (grab_back P.book (pair l w x v) r (leaf_good P.book tag fits (pair l w x v) f))
  node_back outer (count t v l) r f d n h =
      let c = count_parts P.book tag fits t v l f in
      rw (grab_back P.book (single t v) (put_all (put_all write) l r) c.text, c.kind, c.number)
      (group_back t v (group_of P.book t) outer l r c.insts (rw c.kind at d) (rw c.kind at n) h)

  -- the message's list
  ending_back : (x : Miss) → is_none x ≡ true → ending P {I = I} x ≡ done [] []
  unfolding ending
  ending_back none e = refl
  ending_back (lacks t) e = clash false e refl

  own_open : (f : ℕ) (seen s : List ℕ) → (peek s ≡ 0 → ⊥) → starts P P.own (peek s) ≡ true → mem (peek s) seen ≡ false
      → own_list P read (suc f) seen s ≡ and_then (read (λ y. eqb y 0 || starts P P.own y) s) (λ i r. onto i (own_list P read f (peek s ∷ seen) r))
  unfolding own_list
  own_open f seen [] z h n = absurd (z peek_end)
  own_open f seen (b ∷ s) z h n = rw (h, n)

  module _ (d : distinct (open_by u P.own) ≡ true) (nil : mem 0 (open_by u P.own) ≡ false) where
    pub own_back : (f : ℕ) (seen : List ℕ) (l : List I) → length l ≤ f → any_order P tag fits seen l ≡ true → own_list P read f seen (put_all write l []) ≡ done l []
    unfolding own_list put_all any_order and_then onto
    own_back zero seen [] b o = ending_back (lacking P.book none P.own seen) o
    own_back (suc f) seen [] b o = ending_back (lacking P.book none P.own seen) o
    own_back zero seen (i ∷ l) b o = absurd (omega arith)
    own_back (suc f) seen (i ∷ l) b o =
        let e = begins i (put_all write l []) fit in
        rw (
          own_open f seen (write i (put_all write l [])) (rw e nonzero) (rw e opens) (rw e new),
          e,
          back (λ y. eqb y 0 || starts P P.own y) i (put_all write l []) fit (own_distinct u (tag i) P.own has d) (free l on) (goes l on),
          own_back f (tag i ∷ seen) l (omega arith) on,
        )
      where
        o₁ : (has_tag (tag i) P.own && not (mem (tag i) seen) && fits i) ≡ true
        o₁ = and_left (has_tag (tag i) P.own && not (mem (tag i) seen) && fits i) _ o

        o₂ : (has_tag (tag i) P.own && not (mem (tag i) seen)) ≡ true
        o₂ = and_left (has_tag (tag i) P.own && not (mem (tag i) seen)) _ o₁

        on : any_order P tag fits (tag i ∷ seen) l ≡ true
        on = and_right (has_tag (tag i) P.own && not (mem (tag i) seen) && fits i) _ o

        fit : fits i ≡ true
        fit = and_right (has_tag (tag i) P.own && not (mem (tag i) seen)) _ o₁

        has : has_tag (tag i) P.own ≡ true
        has = and_left (has_tag (tag i) P.own) _ o₂

        new : mem (tag i) seen ≡ false
        new = not-true _ (and_right (has_tag (tag i) P.own) _ o₂)

        opens : starts P P.own (tag i) ≡ true
        opens = rw (has, tidy i fit)

        nonzero : tag i ≡ 0 → ⊥
        nonzero z = clash (mem 0 (open_by u P.own)) (rw z at (has_open u (tag i) P.own has)) nil

        first_of : (j : I) (k : List I) → any_order P tag fits (tag i ∷ seen) (j ∷ k) ≡ true → (has_tag (tag j) P.own ≡ true) × (fits j ≡ true)
        first_of j k w =
            let w₁ = and_left (has_tag (tag j) P.own && not (mem (tag j) (tag i ∷ seen)) && fits j) _ w in
            let w₂ = and_left (has_tag (tag j) P.own && not (mem (tag j) (tag i ∷ seen))) _ w₁ in
            (and_left (has_tag (tag j) P.own) _ w₂, and_right (has_tag (tag j) P.own && not (mem (tag j) (tag i ∷ seen))) _ w₁)

        free : (k : List I) → any_order P tag fits (tag i ∷ seen) k ≡ true → mem (peek (put_all write k [])) (u (tag i)) ≡ false
        free [] w = rw peek_end (inside u 0 (tag i) P.own has nil)
        free (j ∷ k) w = rw (begins j (put_all write k []) (first_of j k w).1) (apart u (tag i) (tag j) P.own has (first_of j k w).0 d)

        goes : (k : List I) → any_order P tag fits (tag i ∷ seen) k ≡ true → (eqb (peek (put_all write k [])) 0 || starts P P.own (peek (put_all write k []))) ≡ true
        goes [] w = rw peek_end
        goes (j ∷ k) w = let x = first_of j k w in rw (begins j (put_all write k []) x.1, x.0, tidy j x.1) (or-true (eqb (tag j) 0))

-- an item's tag is no data's
module _ (B : List Record) where
  node_tidy : {I : Type 0} (tag : I → ℕ) (fits : I → Bool) (n : Node I) → fits_node B tag fits n ≡ true → is_bounded B (node_tag n) ≡ false
  node_tidy tag fits (leaf k) f = good_unbounded B k (leaf_good B tag fits k f)
  node_tidy tag fits (count t v l) f = good_unbounded B (single t v) (count_parts B tag fits t v l f).text

  pub item_tidy : (d : ℕ) (i : Item d) → fits B d i ≡ true → is_bounded B (tag_of d i) ≡ false
  unfolding fits
  item_tidy zero i f = absurd i
  item_tidy (suc d) n f = node_tidy (tag_of d) (fits B d) n f

-- by depth
pub item_back : (P : Page) (d : ℕ) (out : ℕ → Bool) (i : Item d) (r : List ℕ) → fits P.book d i ≡ true → distinct (under P.book d (tag_of d i)) ≡ true
    → mem (peek r) (under P.book d (tag_of d i)) ≡ false → out (peek r) ≡ true → read_item P d out (put_item d i r) ≡ done i r
unfolding fits under read_item put_item
item_back P zero out i r f g n h = absurd i
item_back P (suc d) out i r f g n h =
    node_back P (tag_of d) (fits P.book d) (put_item d) (under P.book d) (peek_item P.book d) (item_tidy P.book d) (read_item P d) (item_back P d) out i r f g n h

-- a written item is not empty, so the count of the bytes bounds that of the items
piece_long : (k : Piece) (r : List ℕ) → length r < length (put k r)
piece_long (single t v) r = omega (arith, put_size (single t v) r)
piece_long (pair l w d v) r = omega (arith, put_size (pair l w d v) r)

all_long : {I : Type 0} (write : I → List ℕ → List ℕ) → ((i : I) (r : List ℕ) → length r ≤ length (write i r)) → (l : List I) (r : List ℕ) → length r ≤ length (put_all write l r)
unfolding put_all
all_long write h [] r = omega arith
all_long write h (i ∷ l) r = omega (arith, h i (put_all write l r), all_long write h l r)

node_long : {I : Type 0} (write : I → List ℕ → List ℕ) → ((i : I) (r : List ℕ) → length r ≤ length (write i r)) → (n : Node I) (r : List ℕ) → length r < length (put_node write n r)
unfolding put_node
node_long write h (leaf k) r = piece_long k r
node_long write h (count t v l) r = omega (arith, all_long (put_all write) (all_long write h) l r, piece_long (single t v) (put_all (put_all write) l r))

pub item_long : (d : ℕ) (i : Item d) (r : List ℕ) → length r < length (put_item d i r)
unfolding put_item
item_long zero i r = absurd i
item_long (suc d) n r = node_long (put_item d) (λ i q. omega (arith, item_long d i q)) n r

count_long : (d : ℕ) (l : List (Item d)) (r : List ℕ) → length l ≤ length (put_all (put_item d) l r)
unfolding put_all
count_long d [] r = omega arith
count_long d (i ∷ l) r = omega (arith, item_long d i (put_all (put_item d) l r), count_long d l r)

-- all tags with a place in the message
unfoldable pub placed : Page → List ℕ
unfolding open_by under
placed P = open_by (under P.book 5) P.own

pub items_back : (P : Page) (a : Items) → distinct (placed P) ≡ true → mem 0 (placed P) ≡ false → good_items P a ≡ true → read_items P (body a) ≡ done a []
unfolding placed
items_back P a d n p =
    rw (reading_is P (body a), body_is a)
    (own_back P (tag_of 5) (fits P.book 5) (put_item 5) (under P.book 5) (peek_item P.book 5) (item_tidy P.book 5) (read_item P 5) (item_back P 5) d n
    (length (put_all (put_item 5) a [])) [] a (count_long 5 a []) (sym (items_are P a) ∙ p))
