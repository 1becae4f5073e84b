-- The tag that goes with 14 is that of the member missing earliest in its list. Of any book. Assumes nothing.
use mathlib.Core.Path.{◌≡◌, refl, sym, ap, ◌∙◌}
use mathlib.Core.Bool.{Bool, true, false, cond, not}
use mathlib.Core.List.{List, [], ◌∷◌, ◌++◌}
use Prim.Native.Nat.{ℕ}
use native.Mathlib.Omega.{arith}
use lib.Dec.{eqb}
use borrow.Author.Tests.{eqb-false, not-false}
use Rattle.numbers.specs.Bytes.{mem}
use Rattle.numbers.proofs.Tests.{or_left, or_right}
use Rattle.book.specs.Records.{Record, Member, required, is_bounded}
use Rattle.message.specs.Permitted.{spare, Miss, none, lacks, note, lacking}
use Rattle.bridge.specs.Refused.{left_out, Missing, Complete, Other, Part}

not_lacking : {A : Type 0} (t : ℕ) → none ≡ lacks t → A
not_lacking t e = let z : ◌≡◌ {A = ℕ} 0 1 = cc in absurd (omega arith)

module _ (B : List Record) where
  spare_false : (m : Member) → spare B m ≡ false → (required m ≡ true) × (is_bounded B m.tag ≡ false)
  spare_false m e = (not-false (required m) (or_left (not (required m)) _ e), or_right (not (required m)) _ e)

  note_spare : (m : Member) → spare B m ≡ true → note B none m ≡ none
  unfolding note
  note_spare m e = rw e

  note_needed : (m : Member) → spare B m ≡ false → note B none m ≡ lacks m.tag
  unfolding note
  note_needed m e = rw e

  -- the first member of a list is the missing one; or one behind it is
  here : (C : List Member → Type 0) (m : Member) (ms : List Member) (t : ℕ) → spare B m ≡ false → lacks m.tag ≡ lacks t → C [] → Missing B C (m ∷ ms) t
  here C m ms t p e c =
      let h = spare_false m p in
      record { before = []; which = m; after = ms; is = refl; tag = cc; needed = h.0; single = h.1; earlier = c }

  behind : (C D : List Member → Type 0) (m : Member) (ms : List Member) (t : ℕ) → ((a : List Member) → D a → C (m ∷ a)) → Missing B D ms t → Missing B C (m ∷ ms) t
  behind C D m ms t f h = record {
    before = m ∷ h.before;
    which = h.which;
    after = h.after;
    is = ap (λ l. m ∷ l) h.is;
    tag = h.tag;
    needed = h.needed;
    single = h.single;
    earlier = f h.before h.earlier;
  }

  -- the message's own list
  module _ (seen : List ℕ) where
    lacking_stays : (t : ℕ) (ms : List Member) → lacking B (lacks t) ms seen ≡ lacks t
    unfolding lacking note
    lacking_stays t [] = refl
    lacking_stays t (m ∷ ms) = go (mem m.tag seen) (lacking_stays t ms)
      where
        go : (b : Bool) → lacking B (lacks t) ms seen ≡ lacks t → lacking B (cond b (lacks t) (lacks t)) ms seen ≡ lacks t
        go true h = h
        go false h = h

    lacking_seen : (x : Miss) (m : Member) (ms : List Member) → mem m.tag seen ≡ true → lacking B x (m ∷ ms) seen ≡ lacking B x ms seen
    unfolding lacking
    lacking_seen x m ms p = rw p

    lacking_new : (x : Miss) (m : Member) (ms : List Member) → mem m.tag seen ≡ false → lacking B x (m ∷ ms) seen ≡ lacking B (note B x m) ms seen
    unfolding lacking
    lacking_new x m ms p = rw p

    lacking_end : (x : Miss) → lacking B x [] seen ≡ x
    unfolding lacking
    lacking_end x = refl

    pub own_missing : (ms : List Member) (t : ℕ) → lacking B none ms seen ≡ lacks t → Missing B (Complete B seen t) ms t
    own_missing [] t e = not_lacking t (sym (lacking_end none) ∙ e)
    own_missing (m ∷ ms) t e = go (mem m.tag seen) refl (spare B m) refl (own_missing ms t)
      where
        go : (b : Bool) → mem m.tag seen ≡ b → (c : Bool) → spare B m ≡ c → (lacking B none ms seen ≡ lacks t → Missing B (Complete B seen t) ms t) → Missing B (Complete B seen t) (m ∷ ms) t
        go true p c q ih =
            behind (Complete B seen t) (Complete B seen t) m ms t (λ a h. (lacking_seen none m a p ∙ h.0, h.1)) (ih (sym (lacking_seen none m ms p) ∙ e))
        go false p true q ih =
            behind (Complete B seen t) (Complete B seen t) m ms t (λ a h. (lacking_new none m a p ∙ rw (note_spare m q) h.0, h.1)) (ih (sym (lacking_new none m ms p ∙ rw (note_spare m q)) ∙ e))
        go false p false q ih =
            let w : lacks m.tag ≡ lacks t = sym (lacking_new none m ms p ∙ rw (note_needed m q) (lacking_stays m.tag ms)) ∙ e in
            let et : m.tag ≡ t = cc in
            here (Complete B seen t) m ms t q w (lacking_end none, rw (← et) p)

  -- an instance
  module _ {I : Type 0} (tag : I → ℕ) where
    left_stays : (t : ℕ) (ms : List Member) (l : List I) → left_out B tag (lacks t) ms l ≡ lacks t
    unfolding left_out note
    left_stays t [] l = refl
    left_stays t (m ∷ ms) [] = left_stays t ms []
    left_stays t (m ∷ ms) (i ∷ l) = go (eqb (tag i) m.tag) (left_stays t ms l) (left_stays t ms (i ∷ l))
      where
        go : (b : Bool) → left_out B tag (lacks t) ms l ≡ lacks t → left_out B tag (lacks t) ms (i ∷ l) ≡ lacks t
            → cond b (left_out B tag (lacks t) ms l) (left_out B tag (lacks t) ms (i ∷ l)) ≡ lacks t
        go true h k = h
        go false h k = k

    left_end : (x : Miss) (l : List I) → left_out B tag x [] l ≡ x
    unfolding left_out
    left_end x l = refl

    left_none : (x : Miss) (m : Member) (ms : List Member) → left_out B tag x (m ∷ ms) [] ≡ left_out B tag (note B x m) ms []
    unfolding left_out
    left_none x m ms = refl

    left_here : (x : Miss) (m : Member) (ms : List Member) (i : I) (l : List I) → eqb (tag i) m.tag ≡ true → left_out B tag x (m ∷ ms) (i ∷ l) ≡ left_out B tag x ms l
    unfolding left_out
    left_here x m ms i l p = rw p

    left_later : (x : Miss) (m : Member) (ms : List Member) (i : I) (l : List I) → eqb (tag i) m.tag ≡ false → left_out B tag x (m ∷ ms) (i ∷ l) ≡ left_out B tag (note B x m) ms (i ∷ l)
    unfolding left_out
    left_later x m ms i l p = rw p

    part_nil : (t : ℕ) (items : List I) → Other tag t items → Part B tag t items []
    part_nil t items o = record { taken = []; left = items; split = refl; complete = left_end none []; next = o }

    part_here : (t : ℕ) (m : Member) (i : I) (l : List I) (a : List Member) → eqb (tag i) m.tag ≡ true → Part B tag t l a → Part B tag t (i ∷ l) (m ∷ a)
    part_here t m i l a p h = record {
      taken = i ∷ h.taken;
      left = h.left;
      split = ap (λ k. i ∷ k) h.split;
      complete = left_here none m a i h.taken p ∙ h.complete;
      next = h.next;
    }

    -- a member passed over
    skip : (m : Member) (a : List Member) (k : List I) (i : I) (l j : List I) → spare B m ≡ true → eqb (tag i) m.tag ≡ false → i ∷ l ≡ k ++ j
        → left_out B tag none a k ≡ none → left_out B tag none (m ∷ a) k ≡ none
    skip m a [] i l j q p e h = left_none none m a ∙ rw (note_spare m q) h
    skip m a (x ∷ k) i l j q p e h =
        let ex : i ≡ x = cc in
        left_later none m a x k (rw (← ex) p) ∙ rw (note_spare m q) h

    part_skip : (t : ℕ) (m : Member) (i : I) (l : List I) (a : List Member) → spare B m ≡ true → eqb (tag i) m.tag ≡ false → Part B tag t (i ∷ l) a → Part B tag t (i ∷ l) (m ∷ a)
    part_skip t m i l a q p h = record {
      taken = h.taken;
      left = h.left;
      split = h.split;
      complete = skip m a h.taken i l h.left q p h.split h.complete;
      next = h.next;
    }

    nil_split : (k j : List I) → [] ≡ k ++ j → k ≡ []
    nil_split [] j e = refl
    nil_split (x ∷ k) j e = let z : ◌≡◌ {A = ℕ} 0 1 = cc in absurd (omega arith)

    skip_nil : (m : Member) (a : List Member) (k : List I) → spare B m ≡ true → k ≡ [] → left_out B tag none a k ≡ none → left_out B tag none (m ∷ a) k ≡ none
    skip_nil m a k q e h = rw e (left_none none m a ∙ rw (note_spare m q) (rw e at h))

    part_none : (t : ℕ) (m : Member) (a : List Member) → spare B m ≡ true → Part B tag t [] a → Part B tag t [] (m ∷ a)
    part_none t m a q h = record {
      taken = h.taken;
      left = h.left;
      split = h.split;
      complete = skip_nil m a h.taken q (nil_split h.taken h.left h.split) h.complete;
      next = h.next;
    }

    pub group_missing : (ms : List Member) (items : List I) (t : ℕ) → left_out B tag none ms items ≡ lacks t → Missing B (Part B tag t items) ms t
    group_missing [] items t e = not_lacking t (sym (left_end none items) ∙ e)
    group_missing (m ∷ ms) [] t e = go (spare B m) refl (group_missing ms [] t)
      where
        go : (c : Bool) → spare B m ≡ c → (left_out B tag none ms [] ≡ lacks t → Missing B (Part B tag t []) ms t) → Missing B (Part B tag t []) (m ∷ ms) t
        go true q ih = behind (Part B tag t []) (Part B tag t []) m ms t (λ a h. part_none t m a q h) (ih (sym (left_none none m ms ∙ rw (note_spare m q)) ∙ e))
        go false q ih =
            here (Part B tag t []) m ms t q (sym (left_none none m ms ∙ rw (note_needed m q) (left_stays m.tag ms [])) ∙ e) (part_nil t [] tt)
    group_missing (m ∷ ms) (i ∷ l) t e = go (eqb (tag i) m.tag) refl (spare B m) refl (group_missing ms l t) (group_missing ms (i ∷ l) t)
      where
        go : (b : Bool) → eqb (tag i) m.tag ≡ b → (c : Bool) → spare B m ≡ c
            → (left_out B tag none ms l ≡ lacks t → Missing B (Part B tag t l) ms t)
            → (left_out B tag none ms (i ∷ l) ≡ lacks t → Missing B (Part B tag t (i ∷ l)) ms t) → Missing B (Part B tag t (i ∷ l)) (m ∷ ms) t
        go true p c q on off = behind (Part B tag t (i ∷ l)) (Part B tag t l) m ms t (λ a h. part_here t m i l a p h) (on (sym (left_here none m ms i l p) ∙ e))
        go false p true q on off =
            behind (Part B tag t (i ∷ l)) (Part B tag t (i ∷ l)) m ms t (λ a h. part_skip t m i l a q p h) (off (sym (left_later none m ms i l p ∙ rw (note_spare m q)) ∙ e))
        go false p false q on off =
            let w : lacks m.tag ≡ lacks t = sym (left_later none m ms i l p ∙ rw (note_needed m q) (left_stays m.tag ms (i ∷ l))) ∙ e in
            let et : m.tag ≡ t = cc in
            here (Part B tag t (i ∷ l)) m ms t q w (part_nil t (i ∷ l) (λ x. eqb-false (tag i) m.tag p (x ∙ sym et)))
