-- In the member lists of a sound book a Length and its data stand together, under equal flags. So a pair may stand exactly where the
-- Length's tag stands: `permitted` need not ask for the data's place or flag. Assumes nothing.
use mathlib.Core.Path.{◌≡◌, refl, sym, ap, ◌∙◌}
use mathlib.Core.Bool.{Bool, true, false, cond, ◌&&◌, not, or-true}
use mathlib.Core.List.{List, [], ◌∷◌, ◌++◌}
use mathlib.Core.Logic.{inl, inr}
use Prim.Native.Nat.{ℕ, ◌≤◌}
use native.Mathlib.Omega.{arith}
use lib.Dec.{eqb, leb}
use borrow.Author.Tests.{eqb-true, eq-eqb, le-leb, not-false}
use Rattle.numbers.specs.Bytes.{mem, same}
use Rattle.numbers.proofs.Tests.{clash, and_left, and_right}
use Rattle.book.specs.Records.{Member, Record, is_field, is_group, type_text, LookUp, nothing, found, look_up, is_found, type_in, partner_in, type_of, partner, members_in, group_of, message_of, is_length, is_bounded}
use Rattle.book.specs.Rules.{rule4, partnered, rule6, paired}
use Rattle.book.specs.Check.{sound, check}
use Rattle.message.specs.Permitted.{has_tag}
use Rattle.reader.specs.Reading.{looked}
use Rattle.bridge.specs.Neighbours.{ListOf, DataNext, LengthBefore}
use Rattle.bridge.proofs.Sound.{first_every, found_every, Rules, sound_rules, undeclared, message_is, group_is}

type_is : (B : List Record) (t : ℕ) → type_of B t ≡ type_in (look_up (is_field t) B)
unfolding type_of
type_is B t = refl

partner_is : (B : List Record) (t : ℕ) → partner B t ≡ partner_in (look_up (is_field t) B)
unfolding partner
partner_is B t = refl

rule4_is : (B : List Record) (r : Record) → rule4 B r ≡ (eqb r.kind 1 && not (leb 1 r.type && leb r.type 16 && partnered B r.tag r.type r.partner))
unfolding rule4
rule4_is B r = refl

partnered_length : (B : List Record) (t p : ℕ) → partnered B t 5 p ≡ (is_bounded B p && eqb (partner B p) t)
unfolding partnered
partnered_length B t p = refl

rule6_is : (B : List Record) (r : Record) → rule6 B r ≡ (leb 2 r.kind && not (paired B 0 0 r.members))
unfolding rule6
rule6_is B r = refl

pair_nil : (B : List Record) (due f : ℕ) → paired B due f [] ≡ eqb due 0
unfolding paired
pair_nil B due f = refl

pair_step : (B : List Record) (due f : ℕ) (m : Member) (ms : List Member)
    → paired B due f (m ∷ ms)
    ≡ (cond (is_bounded B m.tag) (eqb m.tag due && eqb m.flag f) (eqb due 0) && paired B (cond (is_length B m.tag) (partner B m.tag) 0) m.flag ms)
unfolding paired
pair_step B due f m ms = refl

module _ (B : List Record) (S : Rules B) where
  -- rule 4: a Length names a data that names it back
  named : (t : ℕ) (r : Record) → is_field t r ≡ true → rule4 B r ≡ false → r.type ≡ 5 → (is_bounded B r.partner ≡ true) × (partner B r.partner ≡ t)
  named t r i e y =
      let k = and_left (eqb r.kind 1) _ i in
      let et : r.tag ≡ t = eqb-true r.tag t (and_right (eqb r.kind 1) _ i) in
      let all : (leb 1 r.type && leb r.type 16 && partnered B r.tag r.type r.partner) ≡ true = not-false _ (rw k at (sym (rule4_is B r) ∙ e)) in
      let p : partnered B r.tag r.type r.partner ≡ true = and_right (leb 1 r.type && leb r.type 16) _ all in
      let q : (is_bounded B r.partner && eqb (partner B r.partner) r.tag) ≡ true = sym (partnered_length B r.tag r.partner) ∙ (rw y at p) in
      (and_left (is_bounded B r.partner) _ q, eqb-true (partner B r.partner) r.tag (and_right (is_bounded B r.partner) _ q) ∙ et)

  pub length_partner : (t : ℕ) → is_length B t ≡ true → (is_bounded B (partner B t) ≡ true) × (partner B (partner B t) ≡ t)
  length_partner t l = rw (partner_is B t) (go (look_up (is_field t) B) refl (rw (type_is B t) at l))
    where
      go : (u : LookUp) → look_up (is_field t) B ≡ u → eqb (type_in u) 5 ≡ true → (is_bounded B (partner_in u) ≡ true) × (partner B (partner_in u) ≡ t)
      go nothing e y = clash false y refl
      go (found r) e y =
          let h = found_every (λ r. rule4 B r ≡ false) (is_field t) B r (first_every 4 (rule4 B) B S.four) e in
          named t r h.0 h.1 (eqb-true r.type 5 y)

  -- what is not declared is no data; so 0 is none, by rule 3
  pub undeclared_free : (t : ℕ) → is_found (look_up (is_field t) B) ≡ false → is_bounded B t ≡ false
  undeclared_free t h = rw (type_is B t) (go (look_up (is_field t) B) h)
    where
      go : (u : LookUp) → is_found u ≡ false → eqb (type_in u) 10 ≡ false
      go nothing e = refl
      go (found r) e = clash true refl e

  zero_free : is_bounded B 0 ≡ false
  unfolding mem
  zero_free = undeclared_free 0 (undeclared B S 0 refl)

  bounded_tag : (t : ℕ) → is_bounded B t ≡ true → (t ≡ 0 → ⊥)
  bounded_tag t b z = clash (is_bounded B 0) (rw z at b) zero_free

  -- rule 6, one member further
  pair_on : (due f : ℕ) (m : Member) (ms : List Member) → paired B due f (m ∷ ms) ≡ true → paired B (cond (is_length B m.tag) (partner B m.tag) 0) m.flag ms ≡ true
  pair_on due f m ms e = and_right (cond (is_bounded B m.tag) (eqb m.tag due && eqb m.flag f) (eqb due 0)) _ (sym (pair_step B due f m ms) ∙ e)

  pair_here : (due f : ℕ) (m : Member) (ms : List Member) → paired B due f (m ∷ ms) ≡ true → cond (is_bounded B m.tag) (eqb m.tag due && eqb m.flag f) (eqb due 0) ≡ true
  pair_here due f m ms e = and_left (cond (is_bounded B m.tag) (eqb m.tag due && eqb m.flag f) (eqb due 0)) _ (sym (pair_step B due f m ms) ∙ e)

  -- a data that stands is the one due
  is_due : (due f : ℕ) (m : Member) (ms : List Member) → paired B due f (m ∷ ms) ≡ true → is_bounded B m.tag ≡ true → (m.tag ≡ due) × (m.flag ≡ f)
  is_due due f m ms e b =
      let h : (eqb m.tag due && eqb m.flag f) ≡ true = rw b at (pair_here due f m ms e) in
      (eqb-true m.tag due (and_left (eqb m.tag due) _ h), eqb-true m.flag f (and_right (eqb m.tag due) _ h))

  -- where a data is due, it stands
  due_next : (due f : ℕ) (ms : List Member) → (due ≡ 0 → ⊥) → paired B due f ms ≡ true → (n : Member) × (rest : List Member) × (ms ≡ n ∷ rest) × (n.tag ≡ due) × (n.flag ≡ f)
  due_next due f [] z e = absurd (z (eqb-true due 0 (sym (pair_nil B due f) ∙ e)))
  due_next due f (n ∷ rest) z e = go (is_bounded B n.tag) refl
    where
      go : (b : Bool) → is_bounded B n.tag ≡ b → (k : Member) × (r : List Member) × (n ∷ rest ≡ k ∷ r) × (k.tag ≡ due) × (k.flag ≡ f)
      go true b = let h = is_due due f n rest e b in (n, rest, refl, h.0, h.1)
      go false b = absurd (z (eqb-true due 0 (rw b at (pair_here due f n rest e))))

  after_length : (due f : ℕ) (m : Member) (ms : List Member) → paired B due f (m ∷ ms) ≡ true → is_length B m.tag ≡ true → DataNext B m ms
  after_length due f m ms e l =
      let p : paired B (partner B m.tag) m.flag ms ≡ true = rw l at (pair_on due f m ms e) in
      let h = due_next (partner B m.tag) m.flag ms (bounded_tag (partner B m.tag) (length_partner m.tag l).0) p in
      record { next = h.0; rest = h.1; is = h.2; tag = h.3; flag = h.4 }

  data_next : (due f : ℕ) (a : List Member) (m : Member) (b : List Member) → paired B due f (a ++ (m ∷ b)) ≡ true → is_length B m.tag ≡ true → DataNext B m b
  data_next due f [] m b e l = after_length due f m b e l
  data_next due f (x ∷ a) m b e l = data_next (cond (is_length B x.tag) (partner B x.tag) 0) x.flag a m b (pair_on due f x (a ++ (m ∷ b)) e) l

  length_before : (due f : ℕ) (x : Member) (a : List Member) (n : Member) (b : List Member) → paired B due f (x ∷ (a ++ (n ∷ b))) ≡ true → is_bounded B n.tag ≡ true
      → LengthBefore B (x ∷ a) n
  length_before due f x [] n b e d = go (is_length B x.tag) refl (is_due (cond (is_length B x.tag) (partner B x.tag) 0) x.flag n b (pair_on due f x (n ∷ b) e) d)
    where
      go : (c : Bool) → is_length B x.tag ≡ c → (n.tag ≡ cond (is_length B x.tag) (partner B x.tag) 0) × (n.flag ≡ x.flag) → LengthBefore B (x ∷ []) n
      go true l h = record { front = []; last = x; is = refl; kind = l; tag = sym (rw l at h.0); flag = sym h.1 }
      go false l h = absurd (bounded_tag n.tag d (rw l at h.0))
  length_before due f x (y ∷ a) n b e d =
      let h = length_before (cond (is_length B x.tag) (partner B x.tag) 0) x.flag y a n b (pair_on due f x (y ∷ (a ++ (n ∷ b))) e) d in
      record { front = x ∷ h.front; last = h.last; is = ap (λ l. x ∷ l) h.is; kind = h.kind; tag = h.tag; flag = h.flag }

  -- every list of the book is paired
  listed_paired : (r : Record) → 2 ≤ r.kind → rule6 B r ≡ false → paired B 0 0 r.members ≡ true
  listed_paired r k e = not-false (paired B 0 0 r.members) (rw (le-leb 2 r.kind k) at (sym (rule6_is B r) ∙ e))

  found_paired : (is : Record → Bool) (r : Record) → ((r : Record) → is r ≡ true → 2 ≤ r.kind) → look_up is B ≡ found r → paired B 0 0 r.members ≡ true
  found_paired is r kind e =
      let h = found_every (λ r. rule6 B r ≡ false) is B r (first_every 6 (rule6 B) B S.six) e in
      listed_paired r (kind r h.0) h.1

  group_paired : (c : ℕ) → paired B 0 0 (group_of B c) ≡ true
  group_paired c = rw (group_is B c) (go (look_up (is_group c) B) refl)
    where
      kind : (r : Record) → is_group c r ≡ true → 2 ≤ r.kind
      kind r h = let k = eqb-true r.kind 3 (and_left (eqb r.kind 3) _ h) in omega arith

      go : (u : LookUp) → look_up (is_group c) B ≡ u → paired B 0 0 (members_in u) ≡ true
      go nothing e = pair_nil B 0 0
      go (found r) e = found_paired (is_group c) r kind e

  message_paired : (T : List ℕ) (r : Record) → message_of B T ≡ found r → paired B 0 0 r.members ≡ true
  message_paired T r e =
      found_paired (λ r. eqb r.kind 2 && same (type_text r.text) T) r (λ r h. let k = eqb-true r.kind 2 (and_left (eqb r.kind 2) _ h) in omega arith)
      (sym (message_is B T) ∙ e)

  list_paired : (ms : List Member) → ListOf B ms → paired B 0 0 ms ≡ true
  list_paired ms (inl h) = rw h.3 (message_paired h.0 h.1 h.2)
  list_paired ms (inr h) = rw h.1 (group_paired h.0)

-- a tag in a list has a place there
split_at : (t : ℕ) (ms : List Member) → has_tag t ms ≡ true → (a : List Member) × (m : Member) × (b : List Member) × (ms ≡ a ++ (m ∷ b)) × (m.tag ≡ t)
unfolding has_tag
split_at t [] e = clash false e refl
split_at t (m ∷ ms) e = go (eqb t m.tag) refl (split_at t ms)
  where
    go : (b : Bool) → eqb t m.tag ≡ b → (has_tag t ms ≡ true → (a : List Member) × (n : Member) × (b : List Member) × (ms ≡ a ++ (n ∷ b)) × (n.tag ≡ t))
        → (a : List Member) × (n : Member) × (b : List Member) × (m ∷ ms ≡ a ++ (n ∷ b)) × (n.tag ≡ t)
    go true p ih = ([], m, ms, refl, sym (eqb-true t m.tag p))
    go false p ih = let h = ih (rw p at e) in (m ∷ h.0, h.1, h.2, ap (λ l. m ∷ l) h.3, h.4)

has_at : (t : ℕ) (a : List Member) (m : Member) (b : List Member) → m.tag ≡ t → has_tag t (a ++ (m ∷ b)) ≡ true
unfolding has_tag
has_at t [] m b e = rw (eq-eqb t m.tag (sym e))
has_at t (x ∷ a) m b e = rw (has_at t a m b e) (or-true (eqb t x.tag))

has_in : (t : ℕ) (ms a : List Member) (m : Member) (b : List Member) → ms ≡ a ++ (m ∷ b) → m.tag ≡ t → has_tag t ms ≡ true
has_in t ms a m b w e = rw w (has_at t a m b e)

-- one more than before, or one more behind
shift_left : (a : List Member) (m n : Member) (b : List Member) → a ++ (m ∷ (n ∷ b)) ≡ (a ++ (m ∷ [])) ++ (n ∷ b)
shift_left [] m n b = refl
shift_left (x ∷ a) m n b = ap (λ l. x ∷ l) (shift_left a m n b)

next_in : (ms a : List Member) (m : Member) (b : List Member) (n : Member) (r : List Member) → ms ≡ a ++ (m ∷ b) → b ≡ n ∷ r → ms ≡ (a ++ (m ∷ [])) ++ (n ∷ r)
next_in ms a m b n r e f = e ∙ ap (λ l. a ++ (m ∷ l)) f ∙ shift_left a m n r

before_in : (ms a : List Member) (n : Member) (b f : List Member) (m : Member) → ms ≡ a ++ (n ∷ b) → a ≡ f ++ (m ∷ []) → ms ≡ f ++ (m ∷ (n ∷ b))
before_in ms a n b f m e w = e ∙ ap (λ l. l ++ (n ∷ b)) w ∙ sym (shift_left f m n b)

same_bool : (a b : Bool) → (a ≡ true → b ≡ true) → (b ≡ true → a ≡ true) → a ≡ b
same_bool true b f g = sym (f refl)
same_bool false true f g = g refl
same_bool false false f g = refl

module _ (book : List ℕ) (good : check book ≡ sound) (ms : List Member) (of : ListOf (looked book) ms) where
  -- In a list of a sound book a Length stands directly before its data, under the same flag.
  pub data_behind_length : (a : List Member) (m : Member) (b : List Member) → ms ≡ a ++ (m ∷ b) → is_length (looked book) m.tag ≡ true → DataNext (looked book) m b
  data_behind_length a m b e l =
      let S = sound_rules book good in
      data_next (looked book) S 0 0 a m b (rw e at (list_paired (looked book) S ms of)) l

  -- And a data directly behind its Length, under the same flag: a data is never the first.
  pub length_before_data : (a : List Member) (n : Member) (b : List Member) → ms ≡ a ++ (n ∷ b) → is_bounded (looked book) n.tag ≡ true → LengthBefore (looked book) a n
  length_before_data a n b e d = go a (rw e at (list_paired (looked book) (sound_rules book good) ms of))
    where
      go : (a : List Member) → paired (looked book) 0 0 (a ++ (n ∷ b)) ≡ true → LengthBefore (looked book) a n
      go [] p = let S = sound_rules book good in absurd (bounded_tag (looked book) S n.tag d (is_due (looked book) S 0 0 n b p d).0)
      go (x ∷ a) p = length_before (looked book) (sound_rules book good) 0 0 x a n b p d

  -- So a Length stands in a list exactly if its data does: where `permitted` finds the Length's tag, both of the pair have their place.
  pub together : (l : ℕ) → is_length (looked book) l ≡ true → has_tag l ms ≡ has_tag (partner (looked book) l) ms
  together l k = same_bool (has_tag l ms) (has_tag (partner (looked book) l) ms) there back
    where
      S : Rules (looked book)
      S = sound_rules book good

      there : has_tag l ms ≡ true → has_tag (partner (looked book) l) ms ≡ true
      there e =
          let h = split_at l ms e in
          let d = data_behind_length h.0 h.1 h.2 h.3 (rw h.4 k) in
          has_in (partner (looked book) l) ms (h.0 ++ (h.1 ∷ [])) d.next d.rest (next_in ms h.0 h.1 h.2 d.next d.rest h.3 d.is) (d.tag ∙ ap (partner (looked book)) h.4)

      back : has_tag (partner (looked book) l) ms ≡ true → has_tag l ms ≡ true
      back e =
          let h = split_at (partner (looked book) l) ms e in
          let w = length_partner (looked book) S l k in
          let d = length_before_data h.0 h.1 h.2 h.3 (rw h.4 w.0) in
          let v = length_partner (looked book) S d.last.tag d.kind in
          has_in l ms d.front d.last (h.1 ∷ h.2) (before_in ms h.0 h.1 h.2 d.front d.last h.3 d.is)
          (sym v.1 ∙ ap (partner (looked book)) (d.tag ∙ h.4) ∙ w.1)
