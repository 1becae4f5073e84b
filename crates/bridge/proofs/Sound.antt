-- What the check of a book gives the reading: in a message with all its groups opened each tag stands once, and only declared tags stand. Assumes nothing.
use mathlib.Core.Path.{◌≡◌, refl, sym, ◌∙◌}
use mathlib.Core.Bool.{Bool, true, false, cond, ◌&&◌, ◌||◌, not, or-true}
use mathlib.Core.List.{List, [], ◌∷◌, ◌++◌}
use Prim.Native.Nat.{ℕ, zero, suc, ◌≤◌}
use native.Mathlib.Omega.{arith}
use lib.Dec.{eqb, ltb, leb}
use lib.ListN.{length}
use lib.Seq.{take_all}
use borrow.Author.Tests.{eqb-true, eq-eqb, ltb-false, le-leb, not-true, not-false}
use Rattle.numbers.specs.Bytes.{mem, same}
use Rattle.numbers.proofs.Tests.{clash, to_false, and_left, and_right, or_left, or_right}
use Rattle.book.specs.Records.{Member, Record, records, is_field, is_group, type_text, LookUp, nothing, found, look_up, is_found, members_in, group_of, message_of, is_count}
use Rattle.book.specs.Rules.{rule1, rule2, rule3, rule4, rule5, rule6, rule7, rule8, rule9, earlier, good_members, Opened, once, conflict, and_open, open_list, open_group, conflicts}
use Rattle.book.specs.Check.{Verdict, sound, broken, first, and_then, filled, rule_of, rules_from, check}
use Rattle.message.specs.Arrangement.{Page}
use Rattle.reader.specs.Reading.{looked}
use Rattle.bridge.specs.Unsound.{Every}
use Rattle.bridge.proofs.Lists.{distinct, mem_join}
use Rattle.bridge.proofs.Readback.{open_by, under, placed}
use Rattle.bridge.proofs.Framing.{Listed}

unsound : {A : Type 0} (n at : ℕ) → broken n at ≡ sound → A
unsound n at e = let z : ◌≡◌ {A = ℕ} 0 1 = cc in absurd (omega arith)

pub first_every : (n : ℕ) (breaks : Record → Bool) (rs : List Record) → first n breaks rs ≡ sound → Every (λ r. breaks r ≡ false) rs
unfolding first
first_every n breaks [] e = tt
first_every n breaks (r ∷ rs) e = go (breaks r) refl (first_every n breaks rs)
  where
    go : (b : Bool) → breaks r ≡ b → (first n breaks rs ≡ sound → Every (λ r. breaks r ≡ false) rs) → (breaks r ≡ false) × Every (λ r. breaks r ≡ false) rs
    go true p ih = unsound n r.offset (rw (p, first) at e)
    go false p ih = (p, ih (rw (p, first) at e))

-- the record that is found is one of which the test holds, and what every record keeps it keeps
pub found_every : (q : Record → Type 0) (is : Record → Bool) (rs : List Record) (r : Record) → Every q rs → look_up is rs ≡ found r → (is r ≡ true) × q r
unfolding look_up
found_every q is [] r h e = let z : ◌≡◌ {A = ℕ} 0 1 = cc in absurd (omega arith)
found_every q is (x ∷ rs) r h e = go (is x) refl (found_every q is rs r h.1)
  where
    go : (b : Bool) → is x ≡ b → (look_up is rs ≡ found r → (is r ≡ true) × q r) → (is r ≡ true) × q r
    go true p ih =
        let w : found x ≡ found r = rw p at e in
        let ex : x ≡ r = cc in
        rw (← ex) (p, h.0)
    go false p ih = ih (rw p at e)

-- the check, one step open
and_then_sound : (a b : Verdict) → and_then a b ≡ sound → (a ≡ sound) × (b ≡ sound)
unfolding and_then
and_then_sound sound b e = (refl, e)
and_then_sound (broken n at) b e = unsound n at e

pub check_is : (s : List ℕ) → check s ≡ and_then (filled s) (rules_from 8 2 (records s))
unfolding check
check_is s = refl

pub record Rules (B : List Record) : Type 0 where
  pub two : first 2 rule2 B ≡ sound
  pub three : first 3 (rule3 B) B ≡ sound
  pub four : first 4 (rule4 B) B ≡ sound
  pub five : first 5 (rule5 B) B ≡ sound
  pub six : first 6 (rule6 B) B ≡ sound
  pub seven : first 7 rule7 B ≡ sound
  pub eight : first 8 (rule8 B) B ≡ sound
  pub nine : first 9 (rule9 B) B ≡ sound

pub rules_sound : (B : List Record) → rules_from 8 2 B ≡ sound → Rules B
unfolding rules_from rule_of
rules_sound B e =
    let two = and_then_sound (first 2 rule2 B) _ e in
    let three = and_then_sound (first 3 (rule3 B) B) _ two.1 in
    let four = and_then_sound (first 4 (rule4 B) B) _ three.1 in
    let five = and_then_sound (first 5 (rule5 B) B) _ four.1 in
    let six = and_then_sound (first 6 (rule6 B) B) _ five.1 in
    let seven = and_then_sound (first 7 rule7 B) _ six.1 in
    let eight = and_then_sound (first 8 (rule8 B) B) _ seven.1 in
    let nine = and_then_sound (first 9 (rule9 B) B) _ eight.1 in
    record {
      two = two.0;
      three = three.0;
      four = four.0;
      five = five.0;
      six = six.0;
      seven = seven.0;
      eight = eight.0;
      nine = nine.0;
    }

filled_short : (s : List ℕ) → filled s ≡ sound → length s ≤ 16384
unfolding filled rule1
filled_short s e = go (rule1 s) refl
  where
    go : (b : Bool) → rule1 s ≡ b → length s ≤ 16384
    go true p = unsound _ _ (rw p at e)
    go false p = ltb-false 16384 (length s) (or_left (ltb 16384 (length s)) _ p)

-- a sound book is looked at whole
pub sound_whole : (book : List ℕ) → check book ≡ sound → looked book ≡ records book
sound_whole book e =
    let h = and_then_sound (filled book) (rules_from 8 2 (records book)) (sym (check_is book) ∙ e) in
    rw (take_all 16384 book (filled_short book h.0))

-- and keeps the rules
pub sound_rules : (book : List ℕ) → check book ≡ sound → Rules (looked book)
sound_rules book e =
    let h = and_then_sound (filled book) (rules_from 8 2 (records book)) (sym (check_is book) ∙ e) in
    rw (sound_whole book e) (rules_sound (records book) h.1)

-- rule 9: the tags of a list opened behind `seen` are new, stand once, and are seen then
record Adds (seen s l : List ℕ) : Type 0 where
  holds : (x : ℕ) → mem x s ≡ (mem x l || mem x seen)
  new : (x : ℕ) → mem x seen ≡ true → mem x l ≡ false
  each : distinct l ≡ true

adds_none : (seen : List ℕ) → Adds seen seen []
unfolding mem distinct
adds_none seen = record { holds = λ x. refl; new = λ x e. refl; each = refl }

distinct_join : (a b : List ℕ) → distinct a ≡ true → distinct b ≡ true → ((x : ℕ) → mem x a ≡ true → mem x b ≡ false) → distinct (a ++ b) ≡ true
unfolding distinct
distinct_join [] b p q h = q
distinct_join (x ∷ a) b p q h =
    rw (mem_join x a b, not-true (mem x a) (and_left (not (mem x a)) _ p), h x (rw (eq-eqb x x refl)))
    (distinct_join a b (and_right (not (mem x a)) _ p) q (λ y e. h y (rw e (or-true (eqb y x)))))

module _ (t : ℕ) (seen s₁ s₂ a b : List ℕ) (fresh : mem t seen ≡ false) (p : Adds (t ∷ seen) s₁ a) (q : Adds s₁ s₂ b) where
  adds_then : Adds seen s₂ (t ∷ (a ++ b))
  unfolding mem distinct
  adds_then = record {
    holds = λ x. rw (q.holds x, p.holds x, mem_join x a b) (shuffle (eqb x t) (mem x a) (mem x b) (mem x seen));
    new = λ x e. rw (other x e, mem_join x a b, p.new x (rw e (or-true (eqb x t))), q.new x (known x e));
    each =
        rw (mem_join t a b, p.new t (rw (eq-eqb t t refl)), q.new t (rw (p.holds t, eq-eqb t t refl) (or-true (mem t a))))
        (distinct_join a b p.each q.each (λ x e. q.new x (rw (p.holds x, e))));
  }
    where
      shuffle : (c d e f : Bool) → (e || (d || (c || f))) ≡ (c || (d || e) || f)
      shuffle true true true f = refl
      shuffle true true false f = refl
      shuffle true false true f = refl
      shuffle true false false f = refl
      shuffle false true true f = refl
      shuffle false true false f = refl
      shuffle false false true f = refl
      shuffle false false false f = refl

      other : (x : ℕ) → mem x seen ≡ true → eqb x t ≡ false
      other x e = to_false (eqb x t) (λ w. clash (mem t seen) (rw (← eqb-true x t w) e) fresh)

      known : (x : ℕ) → mem x seen ≡ true → mem x s₁ ≡ true
      known x e = rw (p.holds x, e, or-true (eqb x t)) (or-true (mem x a))

opened : {A : Type 0} (s : List ℕ) → conflict ≡ once s → A
opened s e = let z : ◌≡◌ {A = ℕ} 0 1 = cc in absurd (omega arith)

and_open_once : (o : Opened) (f : List ℕ → Opened) (s : List ℕ) → and_open o f ≡ once s → (q : List ℕ) × (o ≡ once q) × (f q ≡ once s)
unfolding and_open
and_open_once (once q) f s e = (q, refl, e)
and_open_once conflict f s e = opened s e

list_adds : (below : List ℕ → ℕ → Opened) (u : ℕ → List ℕ) → ((seen s : List ℕ) (t : ℕ) → below seen t ≡ once s → Adds seen s (u t))
    → (seen s : List ℕ) (ms : List Member) → open_list below seen ms ≡ once s → Adds seen s (open_by u ms)
unfolding open_list open_by
list_adds below u h seen s [] e = let es : seen ≡ s = cc in rw (← es) (adds_none seen)
list_adds below u h seen s (m ∷ ms) e = go (mem m.tag seen) refl (λ q. list_adds below u h q s ms)
  where
    go : (b : Bool) → mem m.tag seen ≡ b → ((q : List ℕ) → open_list below q ms ≡ once s → Adds q s (open_by u ms))
        → Adds seen s (m.tag ∷ (u m.tag ++ open_by u ms))
    go true p ih = opened s (rw (p, open_list) at e)
    go false p ih =
        let o = and_open_once (below (m.tag ∷ seen) m.tag) (λ seen. open_list below seen ms) s (rw (p, open_list) at e) in
        adds_then m.tag seen o.0 s (u m.tag) (open_by u ms) p (h (m.tag ∷ seen) o.0 m.tag o.1) (ih o.0 o.2)

module _ (B : List Record) where
  -- d levels are allowed, so that one more holds no tags
  group_adds : (d : ℕ) (seen s : List ℕ) (t : ℕ) → open_group B d seen t ≡ once s → Adds seen s (under B (suc d) t)
  unfolding open_group under
  group_adds zero seen s t e = go (is_count B t) refl
    where
      go : (b : Bool) → is_count B t ≡ b → Adds seen s (cond (is_count B t) (open_by (under B zero) (group_of B t)) [])
      go true p = opened s (rw p at e)
      go false p = let w : once seen ≡ once s = rw p at e in let es : seen ≡ s = cc in rw (p, ← es) (adds_none seen)
  group_adds (suc d) seen s t e = go (is_count B t) refl (list_adds (open_group B d) (under B (suc d)) (group_adds d) seen s (group_of B t))
    where
      go : (b : Bool) → is_count B t ≡ b → (open_list (open_group B d) seen (group_of B t) ≡ once s → Adds seen s (open_by (under B (suc d)) (group_of B t)))
          → Adds seen s (cond (is_count B t) (open_by (under B (suc d)) (group_of B t)) [])
      go true p ih = rw p (ih (rw p at e))
      go false p ih = let w : once seen ≡ once s = rw p at e in let es : seen ≡ s = cc in rw (p, ← es) (adds_none seen)

  opened_once : (ms : List Member) (o : Opened) → open_list (open_group B 4) [] ms ≡ o → conflicts o ≡ false → distinct (open_by (under B 5) ms) ≡ true
  opened_once ms conflict e c = clash true refl c
  opened_once ms (once s) e c = (list_adds (open_group B 4) (under B 5) (group_adds 4) [] s ms e).each

  -- rule 5: what is not declared has no place
  module _ (groups : (t : ℕ) → good_members B (group_of B t) ≡ true) (x : ℕ) (free : is_found (look_up (is_field x) B) ≡ false) where
    list_outside : (u : ℕ → List ℕ) → ((t : ℕ) → mem x (u t) ≡ false) → (ms : List Member) → good_members B ms ≡ true → mem x (open_by u ms) ≡ false
    unfolding good_members mem open_by
    list_outside u h [] g = refl
    list_outside u h (m ∷ ms) g =
        let a = and_left (is_found (look_up (is_field m.tag) B) && leb m.flag 1) _ g in
        rw (other (and_left (is_found (look_up (is_field m.tag) B)) _ a), mem_join x (u m.tag) (open_by u ms), h m.tag) (list_outside u h ms (and_right (is_found (look_up (is_field m.tag) B) && leb m.flag 1) _ g))
      where
        other : is_found (look_up (is_field m.tag) B) ≡ true → eqb x m.tag ≡ false
        other d = to_false (eqb x m.tag) (λ w. clash (is_found (look_up (is_field x) B)) (rw (eqb-true x m.tag w) d) free)

    under_outside : (d t : ℕ) → mem x (under B d t) ≡ false
    unfolding under mem
    under_outside zero t = refl
    under_outside (suc d) t = go (is_count B t) refl (list_outside (under B d) (under_outside d) (group_of B t) (groups t))
      where
        go : (b : Bool) → is_count B t ≡ b → mem x (open_by (under B d) (group_of B t)) ≡ false → mem x (cond (is_count B t) (open_by (under B d) (group_of B t)) []) ≡ false
        go true p h = rw p h
        go false p h = rw p

-- the rules and look-ups one step open
rule3_is : (B : List Record) (r : Record) → rule3 B r ≡ (eqb r.kind 1 && (mem r.tag (0 ∷ 8 ∷ 9 ∷ 35 ∷ 10 ∷ []) || earlier (is_field r.tag) B r))
unfolding rule3
rule3_is B r = refl

rule5_is : (B : List Record) (r : Record)
    → rule5 B r
    ≡ ((eqb r.kind 1 && eqb r.type 7 && not (is_found (look_up (is_group r.tag) B)))
    || (leb 2 r.kind && not (good_members B r.members))
    || (eqb r.kind 3 && (not (is_count B r.tag) || earlier (is_group r.tag) B r)))
unfolding rule5
rule5_is B r = refl

rule9_is : (B : List Record) (r : Record) → rule9 B r ≡ cond (eqb r.kind 2) (conflicts (open_list (open_group B 4) [] r.members)) false
unfolding rule9
rule9_is B r = refl

pub message_is : (B : List Record) (T : List ℕ) → message_of B T ≡ look_up (λ r. eqb r.kind 2 && same (type_text r.text) T) B
unfolding message_of
message_is B T = refl

pub group_is : (B : List Record) (t : ℕ) → group_of B t ≡ members_in (look_up (is_group t) B)
unfolding group_of
group_is B t = refl

taken : (B : List Record) (r : Record) (t : ℕ) → is_field t r ≡ true → mem t (0 ∷ 8 ∷ 9 ∷ 35 ∷ 10 ∷ []) ≡ true → rule3 B r ≡ true
taken B r t h w = rw (rule3_is B r, and_left (eqb r.kind 1) _ h, eqb-true r.tag t (and_right (eqb r.kind 1) _ h), w)

module _ (B : List Record) (S : Rules B) where
  -- the tags of the frame, and 0, are no field's
  pub undeclared : (t : ℕ) → mem t (0 ∷ 8 ∷ 9 ∷ 35 ∷ 10 ∷ []) ≡ true → is_found (look_up (is_field t) B) ≡ false
  undeclared t w = go (look_up (is_field t) B) refl
    where
      go : (u : LookUp) → look_up (is_field t) B ≡ u → is_found u ≡ false
      go nothing e = refl
      go (found r) e =
          let h = found_every (λ r. rule3 B r ≡ false) (is_field t) B r (first_every 3 (rule3 B) B S.three) e in
          clash (rule3 B r) (taken B r t h.0 w) h.1

  -- members of messages and groups are declared
  listed_members : (r : Record) → 2 ≤ r.kind → rule5 B r ≡ false → good_members B r.members ≡ true
  listed_members r k e =
      let field = eqb r.kind 1 && eqb r.type 7 && not (is_found (look_up (is_group r.tag) B)) in
      let lists = leb 2 r.kind && not (good_members B r.members) in
      let p : lists ≡ false = or_right field _ (or_left (field || lists) _ (sym (rule5_is B r) ∙ e)) in
      not-false (good_members B r.members) (rw (le-leb 2 r.kind k) at p)

  found_members : (is : Record → Bool) (r : Record) → ((r : Record) → is r ≡ true → 2 ≤ r.kind) → look_up is B ≡ found r → good_members B r.members ≡ true
  found_members is r kind e =
      let h = found_every (λ r. rule5 B r ≡ false) is B r (first_every 5 (rule5 B) B S.five) e in
      listed_members r (kind r h.0) h.1

  group_members : (t : ℕ) → good_members B (group_of B t) ≡ true
  group_members t = rw (group_is B t) (go (look_up (is_group t) B) refl)
    where
      kind : (r : Record) → is_group t r ≡ true → 2 ≤ r.kind
      kind r h = let k = eqb-true r.kind 3 (and_left (eqb r.kind 3) _ h) in omega arith

      go : (u : LookUp) → look_up (is_group t) B ≡ u → good_members B (members_in u) ≡ true
      go nothing e = unfold good_members in refl
      go (found r) e = found_members (is_group t) r kind e

  module _ (T : List ℕ) (r : Record) (e : message_of B T ≡ found r) where
    is_message : Record → Bool
    is_message r = eqb r.kind 2 && same (type_text r.text) T

    message_members : good_members B r.members ≡ true
    unfolding is_message
    message_members = found_members is_message r (λ r h. let k = eqb-true r.kind 2 (and_left (eqb r.kind 2) _ h) in omega arith) (sym (message_is B T) ∙ e)

    pub message_once : distinct (open_by (under B 5) r.members) ≡ true
    unfolding is_message
    message_once =
        let h = found_every (λ r. rule9 B r ≡ false) is_message B r (first_every 9 (rule9 B) B S.nine) (sym (message_is B T) ∙ e) in
        let c : conflicts (open_list (open_group B 4) [] r.members) ≡ false = rw (and_left (eqb r.kind 2) _ h.0) at (sym (rule9_is B r) ∙ h.1) in
        opened_once B r.members (open_list (open_group B 4) [] r.members) refl c

    -- a tag that is not declared has no place
    pub message_declared : (x : ℕ) → is_found (look_up (is_field x) B) ≡ false → mem x (open_by (under B 5) r.members) ≡ false
    message_declared x free = list_outside B group_members x free (under B 5) (under_outside B group_members x free 5) r.members message_members

  -- so the page of a message is as the reading needs it
  pub page_sound : (T : List ℕ) (P : Page) → Listed B T P → (distinct (placed P) ≡ true) × (mem 0 (placed P) ≡ false)
  unfolding placed mem
  page_sound T P h =
      rw h.page (message_once T h.entry h.found, message_declared T h.entry h.found 0 (undeclared 0 refl))
