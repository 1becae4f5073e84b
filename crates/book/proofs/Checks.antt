-- Laws of the check's maps and order. Assumes nothing.
use mathlib.Core.Path.{◌≡◌, refl, sym, ap, ◌∙◌}
use mathlib.Core.Bool.{Bool, true, false, cond, ◌&&◌, ◌||◌, not, or-false, true≢false}
use mathlib.Core.List.{List, [], ◌∷◌}
use Prim.Native.Nat.{ℕ, zero, suc, ◌+◌, ◌-◌, ◌≤◌, ◌<◌}
use native.Mathlib.Omega.{arith}
use borrow.Author.Tests.{eqb-true, eqb-false, eq-eqb, ne_eqb, leb-true, le-leb, lt-ltb, le-ltb}
use lib.Dec.{eqb, leb}
use lib.ListN.{length, drop, get_or, replicate, length-replicate}
use Rattle.std.specs.Prelude.{Option, Some, None, Result, Ok, Err}
use Rattle.std.specs.Option.{option_map}
use Rattle.std.specs.List.{find}
use Rattle.numbers.specs.Bytes.{mem}
use Rattle.numbers.specs.Bits.{bit_at, marked}
use Rattle.numbers.proofs.Tests.{clash, and_left, and_right, or_left, or_right}
use Rattle.numbers.proofs.Marks.{Marks, marks_none, marks_more, marked_length}
use Rattle.book.specs.declared.records.Record as Code
use Rattle.book.specs.declared.checking.Broken.{Broken}
use Rattle.book.specs.Records.{Member, size, walk_from, walk, stop, members_of, Record, record_at, records, is_field, LookUp, nothing, found, look_up, is_found, type_of, is_count, group_of}
use Rattle.book.specs.Rules.{rule1, first_at, earlier, rule3, rule9, Opened, once, conflict, and_open, open_list, open_group, conflicts}
use Rattle.book.specs.Check.{Verdict, sound, broken, first, and_then, filled, rule_of, rules_from, check}
use Rattle.book.specs.Walked.{record_in}
use Rattle.book.specs.Answers.{told, Declares, Pairs, is_marked, Seen, Opens}

-- the first record that breaks a rule, as `find` answers it
abbrev pub broken_in : ℕ → Option Record → Verdict
broken_in n None = sound
broken_in n (Some r) = broken n r.offset

pub first_is : (n : ℕ) (p : Record → Bool) (B : List Record) → broken_in n (find p B) ≡ first n p B
unfolding first
first_is n p [] = refl
first_is n p (r ∷ B) = go (p r) (first_is n p B)
  where
    go : (t : Bool) → broken_in n (find p B) ≡ first n p B → broken_in n (cond t (Some r) (find p B)) ≡ elim t [ true ↦ broken n r.offset | false ↦ first n p B ]
    go true e = refl
    go false e = e

module _ (n : ℕ) (p : Record → Bool) (B : List Record) (f : Option Code.Record) (e : option_map record_in f ≡ find p B) where
  pub first_some : (r : Code.Record) → f ≡ Some r → broken n r.offset ≡ first n p B
  unfolding record_at
  first_some r q = ap (λ o. broken_in n (option_map record_in o)) (sym q) ∙ ap (broken_in n) e ∙ first_is n p B

  pub first_none : f ≡ None → sound ≡ first n p B
  first_none q = ap (λ o. broken_in n (option_map record_in o)) (sym q) ∙ ap (broken_in n) e ∙ first_is n p B

-- a loop that stops at the first record that breaks a rule: v is the whole book's answer, rs are the records still to come
module _ (n : ℕ) (p : Record → Bool) (v : Verdict) (rs : List Record) where
  module _ (r : Code.Record) (later : List Record) (inv : v ≡ first n p rs) (e : rs ≡ record_in r ∷ later) (b : Bool) (h : b ≡ p (record_in r)) where
    pub loop_hit : b ≡ true → broken n r.offset ≡ v
    unfolding first record_at
    loop_hit q = sym (inv ∙ rw e (rw (sym h ∙ q, first)))

    pub loop_turn : b ≡ false → v ≡ first n p later
    unfolding first
    loop_turn q = inv ∙ rw e (rw (sym h ∙ q, first))

  pub loop_end : v ≡ first n p rs → rs ≡ [] → sound ≡ v
  unfolding first
  loop_end inv e = sym (inv ∙ rw e)

zero_map : (map : List ℕ) → length map ≡ 8192 → Marks (replicate (length map) 0) 65536 (λ u. false)
zero_map map e = marks_none (length map) 65536 (omega (arith, e))

or_swap : (a b c : Bool) → (b || (a || c)) ≡ ((a || b) || c)
or_swap true true c = refl
or_swap true false c = refl
or_swap false b c = refl

head_or : (b : Bool) (r : Record) (k : LookUp) → is_found (cond b (found r) k) ≡ (b || is_found k)
head_or true r k = refl
head_or false r k = refl

flip : (a b : ℕ) → eqb a b ≡ eqb b a
flip a b = go (eqb b a) refl
  where
    go : (v : Bool) → eqb b a ≡ v → eqb a b ≡ v
    go true e = eq-eqb a b (sym (eqb-true b a e))
    go false e = ne_eqb a b (λ q. eqb-false b a e (sym q))

-- the loop that marks: the fields passed are in the map, the records rs are still to come
pub record Marking (p : ℕ → Bool) (B : List Record) (map : List ℕ) (rs : List Record) : Type 0 where
  pub long : length map ≡ 8192
  pub bytes : (i : ℕ) → get_or map i 0 < 256
  pub told : (t : ℕ) → t < 65536 → is_found (look_up (is_marked p t) B) ≡ (bit_at map t || is_found (look_up (is_marked p t) rs))

pub marking_start : (p : ℕ → Bool) (B : List Record) (map₀ map : List ℕ) (rs : List Record) → length map₀ ≡ 8192 → map ≡ replicate {A = ℕ} (length map₀) 0 → rs ≡ B → Marking p B map rs
marking_start p B map₀ map rs e z q = record {
  long = rw z (length-replicate {A = ℕ} (length map₀) 0 ∙ e);
  bytes = λ i. rw z ((zero_map map₀ e).bytes i);
  told = λ t h. rw (q, z, (zero_map map₀ e).holds t h);
}

pub marking_end : (p : ℕ → Bool) (B : List Record) (map : List ℕ) (rs : List Record) → Marking p B map rs → rs ≡ []
    → (t : ℕ) → t < 65536 → bit_at map t ≡ is_found (look_up (is_marked p t) B)
unfolding look_up
marking_end p B map rs inv z t h = sym (inv.told t h ∙ ap (λ l. bit_at map t || is_found (look_up (is_marked p t) l)) z ∙ or-false (bit_at map t))

module _ (p : ℕ → Bool) (B : List Record) (map : List ℕ) (r : Record) (rs later : List Record) (inv : Marking p B map rs) (e : rs ≡ r ∷ later) where
  self : Marks map 65536 (bit_at map)
  self = record { room = omega (arith, inv.long); bytes = inv.bytes; holds = λ u l. refl }

  step : (t : ℕ) → t < 65536 → is_found (look_up (is_marked p t) B) ≡ (bit_at map t || (is_marked p t r || is_found (look_up (is_marked p t) later)))
  unfolding look_up
  step t l =
      inv.told t l ∙ ap (λ l. bit_at map t || is_found (look_up (is_marked p t) l)) e
      ∙ ap (λ v. bit_at map t || v) (head_or (is_marked p t r) r (look_up (is_marked p t) later))

  pub marking_skip : (eqb r.kind 1 && p r.type) ≡ false → Marking p B map later
  marking_skip q = record { long = inv.long; bytes = inv.bytes; told = λ t l. step t l ∙ rw q }

  pub marking_other : eqb r.kind 1 ≡ false → Marking p B map later
  marking_other q = marking_skip (rw q)

  module _ (f : eqb r.kind 1 ≡ true) (y : ℕ) (ey : y ≡ r.type) (b : Bool) (eb : b ≡ p y) where
    pub marking_not : b ≡ false → Marking p B map later
    marking_not q = marking_skip (rw (f, ← ey, ← eb, q))

    pub marking_new : b ≡ true → (u : ℕ) → u ≡ r.tag → u < 65536 → (new : List ℕ) → new ≡ marked map u → Marking p B new later
    marking_new q u eu h new en =
        let k : (eqb r.kind 1 && p r.type) ≡ true = rw (f, ← ey, ← eb, q) in
        let w = marks_more map 65536 (bit_at map) self u h in
        record {
          long = rw en (marked_length map u ∙ inv.long);
          bytes = λ i. rw en (w.bytes i);
          told = λ t l. step t l ∙ rw (k, en, w.holds t l, ← eu, flip u t) (or_swap (eqb t u) (bit_at map t) (is_found (look_up (is_marked p t) later)));
        }

-- the loop of rule 3: the map holds the tags that the fields before declare, their offsets are below `low`, and the records rs are still to come
unfoldable pub rising : ℕ → List Record → Bool
rising low [] = true
rising low (r ∷ rs) = leb low r.offset && rising (suc r.offset) rs

rising_from : (f at low : ℕ) (s : List ℕ) → low ≤ at → rising low (walk_from (λ at. []) (λ at r rs. record_at at r ∷ rs) f at s) ≡ true
unfolding rising walk_from record_at
rising_from zero at low s h = refl
rising_from (suc f) at low s h = go (eqb (size s) 0) refl (rising_from f (at + size s) (suc at) (drop (size s) s))
  where
    go : (t : Bool) → eqb (size s) 0 ≡ t → (suc at ≤ at + size s → rising (suc at) (walk_from (λ at. []) (λ at r rs. record_at at r ∷ rs) f (at + size s) (drop (size s) s)) ≡ true)
        → rising low (cond (eqb (size s) 0) [] (record_at at s ∷ walk_from (λ at. []) (λ at r rs. record_at at r ∷ rs) f (at + size s) (drop (size s) s))) ≡ true
    go true z ih = rw z
    go false z ih = let k = eqb-false (size s) 0 z in rw (z, le-leb low at h, ih (omega (arith, k)))

rising_records : (s : List ℕ) → rising 0 (records s) ≡ true
unfolding records walk
rising_records s = rising_from (length s) 0 0 s (omega arith)

abbrev pub Before : ℕ → LookUp → Type 0
Before low nothing = ⊥
Before low (found r) = r.offset < low

later_too : (low high : ℕ) → low ≤ high → (k : LookUp) → Before low k → Before high k
later_too low high h nothing b = b
later_too low high h (found r) b = omega (arith, h, b)

pub record Repeating (B : List Record) (map : List ℕ) (rs : List Record) : Type 0 where
  pub long : length map ≡ 8192
  pub bytes : (i : ℕ) → get_or map i 0 < 256
  pub low : ℕ
  pub rises : rising low rs ≡ true
  pub fresh : (t : ℕ) → t < 65536 → bit_at map t ≡ false → look_up (is_field t) B ≡ look_up (is_field t) rs
  pub before : (t : ℕ) → t < 65536 → bit_at map t ≡ true → Before low (look_up (is_field t) B)

pub repeat_start : (s map₀ map : List ℕ) (rs : List Record) → length map₀ ≡ 8192 → map ≡ replicate {A = ℕ} (length map₀) 0 → rs ≡ records s → Repeating (records s) map rs
repeat_start s map₀ map rs e z q = record {
  long = rw z (length-replicate {A = ℕ} (length map₀) 0 ∙ e);
  bytes = λ i. rw z ((zero_map map₀ e).bytes i);
  low = 0;
  rises = rw q (rising_records s);
  fresh = λ t h b. rw q;
  before = λ t h b. clash (bit_at map t) b (rw z ((zero_map map₀ e).holds t h));
}

module _ (B : List Record) (map : List ℕ) (r : Record) (rs later : List Record) (inv : Repeating B map rs) (e : rs ≡ r ∷ later) where
  both : (leb inv.low r.offset && rising (suc r.offset) later) ≡ true
  unfolding rising
  both = ap (rising inv.low) (sym e) ∙ inv.rises

  reached : inv.low ≤ r.offset
  reached = leb-true inv.low r.offset (and_left (leb inv.low r.offset) (rising (suc r.offset) later) both)

  rises_on : rising (suc r.offset) later ≡ true
  rises_on = and_right (leb inv.low r.offset) (rising (suc r.offset) later) both

  still : (t : ℕ) → t < 65536 → bit_at map t ≡ true → Before (suc r.offset) (look_up (is_field t) B)
  still t h b = later_too inv.low (suc r.offset) (omega (arith, reached)) (look_up (is_field t) B) (inv.before t h b)

  passed : (t : ℕ) → t < 65536 → bit_at map t ≡ false → is_field t r ≡ false → look_up (is_field t) B ≡ look_up (is_field t) later
  unfolding look_up
  passed t h b n = inv.fresh t h b ∙ ap (look_up (is_field t)) e ∙ rw n

  reaches : (t : ℕ) → t < 65536 → bit_at map t ≡ false → is_field t r ≡ true → look_up (is_field t) B ≡ found r
  unfolding look_up
  reaches t h b n = inv.fresh t h b ∙ ap (look_up (is_field t)) e ∙ rw n

  module _ (q : eqb r.kind 1 ≡ false) where
    pub repeat_none : false ≡ rule3 B r
    unfolding rule3
    repeat_none = rw q

    pub repeat_other : Repeating B map later
    repeat_other = record { long = inv.long; bytes = inv.bytes; low = suc r.offset; rises = rises_on; fresh = λ t h b. passed t h b (rw q); before = still }

  module _ (f : eqb r.kind 1 ≡ true) (u : ℕ) (eu : u ≡ r.tag) (hu : u < 65536) where
    mine : is_field u r ≡ true
    mine = rw f (eq-eqb r.tag u (sym eu))

    earlier_is : (m : Bool) → bit_at map u ≡ m → earlier (is_field u) B r ≡ m
    earlier_is true b = go (look_up (is_field u) B) (inv.before u hu b)
      where
        go : (k : LookUp) → Before inv.low k → not (first_at k r.offset) ≡ true
        go nothing x = absurd x
        go (found y) x = rw (ne_eqb y.offset r.offset (λ z. omega (arith, z, x, reached)))
    earlier_is false b = rw (reaches u hu b mine) (rw (eq-eqb r.offset r.offset refl))

    pub repeat_is : (v m : Bool) → v ≡ mem u (0 ∷ 8 ∷ 9 ∷ 35 ∷ 10 ∷ []) → m ≡ bit_at map u → (v || m) ≡ rule3 B r
    unfolding rule3
    repeat_is v m ev em = rw (f, ← eu, ← ev, earlier_is m (sym em))

    pub repeat_new : (m : Bool) → m ≡ bit_at map u → m ≡ false → (new : List ℕ) → new ≡ marked map u → Repeating B new later
    repeat_new m em q new en =
        let self : Marks map 65536 (bit_at map) = record { room = omega (arith, inv.long); bytes = inv.bytes; holds = λ u l. refl } in
        let w = marks_more map 65536 (bit_at map) self u hu in
        record {
          long = rw en (marked_length map u ∙ inv.long);
          bytes = λ i. rw en (w.bytes i);
          low = suc r.offset;
          rises = rises_on;
          fresh = λ t h b. let k : (eqb t u || bit_at map t) ≡ false = sym (w.holds t h) ∙ (rw en at b) in
              passed t h (or_right (eqb t u) (bit_at map t) k) (rw (f, ← eu, flip u t, or_left (eqb t u) (bit_at map t) k));
          before = λ t h b. new_before t h (eqb t u) refl (sym (w.holds t h) ∙ (rw en at b));
        }
      where
        new_before : (t : ℕ) → t < 65536 → (x : Bool) → eqb t u ≡ x → (eqb t u || bit_at map t) ≡ true → Before (suc r.offset) (look_up (is_field t) B)
        new_before t h true x k = let z : t ≡ u = eqb-true t u x in rw (z, reaches u hu (sym em ∙ q) mine) (omega arith)
        new_before t h false x k = still t h (rw x at k)

-- what the maps say to rules 5 and 6
look_same : (p q : Record → Bool) → ((r : Record) → p r ≡ q r) → (B : List Record) → look_up p B ≡ look_up q B
unfolding look_up
look_same p q h [] = refl
look_same p q h (r ∷ B) = rw (h r, look_same p q h B)

pub declares_of : (map : List ℕ) (B : List Record) → ((t : ℕ) → t < 65536 → bit_at map t ≡ is_found (look_up (is_marked (λ y. true) t) B)) → Declares map B
declares_of map B h t l = h t l ∙ ap is_found (look_same (is_marked (λ y. true) t) (is_field t) (λ r. all (eqb r.kind 1) (eqb r.tag t)) B)
  where
    all : (a b : Bool) → (a && true && b) ≡ (a && b)
    all true b = refl
    all false b = refl

abbrev pub pairs : ℕ → Bool
pairs y = eqb y 5 || eqb y 10

unmarked : (t : ℕ) (B : List Record) → is_found (look_up (is_marked pairs t) B) ≡ false → (eqb (type_of B t) 5 ≡ false) × (eqb (type_of B t) 10 ≡ false)
unfolding type_of look_up
unmarked t [] h = (refl, refl)
unmarked t (r ∷ B) h = go (eqb r.kind 1) refl (eqb r.tag t) refl (eqb r.type 5) refl (eqb r.type 10) refl (unmarked t B)
  where
    go : (a : Bool) → eqb r.kind 1 ≡ a → (b : Bool) → eqb r.tag t ≡ b → (c : Bool) → eqb r.type 5 ≡ c → (d : Bool) → eqb r.type 10 ≡ d
        → (is_found (look_up (is_marked pairs t) B) ≡ false → (eqb (type_of B t) 5 ≡ false) × (eqb (type_of B t) 10 ≡ false))
        → (eqb (type_of (r ∷ B) t) 5 ≡ false) × (eqb (type_of (r ∷ B) t) 10 ≡ false)
    go false ea b eb c ec d ed ih = let k = ih (rw ea at h) in (rw ea k.0, rw ea k.1)
    go true ea false eb c ec d ed ih = let k = ih (after c d) in (rw (ea, eb) k.0, rw (ea, eb) k.1)
      where
        after : (c d : Bool) → is_found (look_up (is_marked pairs t) B) ≡ false
        after c d = sym (skip (eqb r.type 5) (eqb r.type 10)) ∙ h
          where
            skip : (c d : Bool) → is_found (cond (eqb r.kind 1 && (c || d) && eqb r.tag t) (found r) (look_up (is_marked pairs t) B)) ≡ is_found (look_up (is_marked pairs t) B)
            skip true d = rw (ea, eb)
            skip false true = rw (ea, eb)
            skip false false = rw ea
    go true ea true eb true ec d ed ih = absurd (true≢false (rw (ea, eb, ec) at h))
    go true ea true eb false ec true ed ih = absurd (true≢false (rw (ea, eb, ec, ed) at h))
    go true ea true eb false ec false ed ih = (rw (ea, eb) ec, rw (ea, eb) ed)

pub pairs_of : (map : List ℕ) (B : List Record) → ((t : ℕ) → t < 65536 → bit_at map t ≡ is_found (look_up (is_marked pairs t) B)) → Pairs map B
pairs_of map B h t l f = unmarked t B (sym (h t l) ∙ f)

-- rule 9: a list opened behind the tags that the map holds
pub seen_start : (map₀ map : List ℕ) → length map₀ ≡ 8192 → map ≡ replicate (length map₀) 0 → Seen map []
unfolding mem
seen_start map₀ map e z = record {
  long = rw z (length-replicate {A = ℕ} (length map₀) 0 ∙ e);
  bytes = λ i. rw z ((zero_map map₀ e).bytes i);
  holds = λ t h. rw z ((zero_map map₀ e).holds t h);
}

pub seen_more : (map seen : List ℕ) (t : ℕ) → t < 65536 → Seen map seen → Seen (marked map t) (t ∷ seen)
unfolding mem
seen_more map seen t h s =
    let m : Marks map 65536 (λ u. mem u seen) = record { room = omega (arith, s.long); bytes = s.bytes; holds = s.holds } in
    let w = marks_more map 65536 (λ u. mem u seen) m t h in
    record { long = marked_length map t ∙ s.long; bytes = w.bytes; holds = w.holds }

-- what the loop knows: o is what opening the whole list gives, some tags are seen now, and the members ms are still to be opened
pub record Ahead (f : List ℕ → ℕ → Opened) (o : Opened) (map : List ℕ) (ms : List Member) : Type 0 where
  pub seen : List ℕ
  pub now : Seen map seen
  pub same : o ≡ open_list f seen ms

open_fresh : (f : List ℕ → ℕ → Opened) (seen : List ℕ) (m : Member) (ms : List Member) → mem m.tag seen ≡ false
    → open_list f seen (m ∷ ms) ≡ and_open (f (m.tag ∷ seen) m.tag) (λ seen. open_list f seen ms)
unfolding open_list
open_fresh f seen m ms q = rw (q, open_list)

module _ (f : List ℕ → ℕ → Opened) (o : Opened) where
  module _ (map : List ℕ) (m : Member) (ms ns : List Member) (a : Ahead f o map ms) (e : ms ≡ m ∷ ns) (small : m.tag < 65536) (r : Bool) (er : r ≡ bit_at map m.tag) where
    pub ahead_twice : r ≡ true → o ≡ conflict
    unfolding open_list
    ahead_twice q =
        let k : mem m.tag a.seen ≡ true = sym (a.now.holds m.tag small) ∙ sym er ∙ q in
        a.same ∙ rw e (rw (k, open_list))

    module _ (q : r ≡ false) where
      fresh : mem m.tag a.seen ≡ false
      fresh = sym (a.now.holds m.tag small) ∙ sym er ∙ q

      pub ahead_opened : o ≡ and_open (f (m.tag ∷ a.seen) m.tag) (λ seen. open_list f seen ns)
      ahead_opened = a.same ∙ ap (open_list f a.seen) e ∙ open_fresh f a.seen m ns fresh

      pub ahead_plain : f (m.tag ∷ a.seen) m.tag ≡ once (m.tag ∷ a.seen) → (new : List ℕ) → new ≡ marked map m.tag → Ahead f o new ns
      unfolding and_open
      ahead_plain z new e = record { seen = m.tag ∷ a.seen; now = rw e (seen_more map a.seen m.tag small a.now); same = ahead_opened ∙ rw z }

      pub ahead_conflict : f (m.tag ∷ a.seen) m.tag ≡ conflict → o ≡ conflict
      unfolding and_open
      ahead_conflict z = ahead_opened ∙ rw z

      pub ahead_inner : (seen' : List ℕ) (new : List ℕ) → f (m.tag ∷ a.seen) m.tag ≡ once seen' → Seen new seen' → Ahead f o new ns
      unfolding and_open
      ahead_inner seen' new z s = record { seen = seen'; now = s; same = ahead_opened ∙ rw z }

  pub ahead_end : (map : List ℕ) (ms : List Member) (a : Ahead f o map ms) → ms ≡ [] → o ≡ once a.seen
  unfolding open_list
  ahead_end map ms a e = a.same ∙ rw e

-- one level down; v says whether the tag is a count
module _ (B : List Record) (seen : List ℕ) (t d : ℕ) (v : Bool) (e : v ≡ is_count B t) where
  pub level_plain : v ≡ false → open_group B d seen t ≡ once seen
  unfolding open_group
  level_plain n = go d
    where
      go : (d : ℕ) → open_group B d seen t ≡ once seen
      go zero = rw (← e, n)
      go (suc d) = rw (← e, n)

  pub level_none : v ≡ true → d ≡ 0 → open_group B d seen t ≡ conflict
  unfolding open_group
  level_none n z = rw (z, open_group, ← e, n)

  pub level_some : v ≡ true → (d ≡ 0 → ⊥) → open_group B d seen t ≡ open_list (open_group B (d - 1)) seen (group_of B t)
  unfolding open_group
  level_some n z = go d z
    where
      go : (d : ℕ) → (d ≡ 0 → ⊥) → open_group B d seen t ≡ open_list (open_group B (d - 1)) seen (group_of B t)
      go zero z = absurd (z refl)
      go (suc d) z = let k : suc d - 1 ≡ d = omega arith in rw (← e, n, k)

-- rule 9 of a record; k says whether it is a message
module _ (B : List Record) (r : Record) (k : Bool) (e : k ≡ eqb r.kind 2) where
  pub rule9_else : k ≡ false → false ≡ rule9 B r
  unfolding rule9
  rule9_else n = rw (← e, n)

  pub rule9_message : k ≡ true → (l map : List ℕ) (v : Bool) → members_of l ≡ r.members → Opens (open_list (open_group B 4) [] (members_of l)) v map → v ≡ rule9 B r
  unfolding rule9
  rule9_message n l map v m o = go (open_list (open_group B 4) [] (members_of l)) refl o ∙ rw (← e, n, m)
    where
      go : (w : Opened) → open_list (open_group B 4) [] (members_of l) ≡ w → Opens w v map → v ≡ conflicts (open_list (open_group B 4) [] (members_of l))
      go (once seen) q x = x.0 ∙ rw q
      go conflict q x = x ∙ rw q

-- the rules in their order, from number n on; v is what the code answers for it
module _ (k n : ℕ) (B : List Record) (v : Result (Unit {0}) Broken) (h : told v ≡ first n (rule_of n B) B) where
  pub rules_stop : (e : Broken) → v ≡ Err e → told (Err e) ≡ rules_from (suc k) n B
  unfolding rules_from and_then
  rules_stop e q = rw (← h, q)

  pub rules_on : (u : Unit {0}) → v ≡ Ok u → rules_from k (suc n) B ≡ rules_from (suc k) n B
  unfolding rules_from and_then
  rules_on u q = rw (← h, q)

  pub rules_last : told v ≡ rules_from 1 n B
  unfolding rules_from and_then
  rules_last = h ∙ go (first n (rule_of n B) B)
    where
      go : (w : Verdict) → w ≡ and_then w sound
      go sound = refl
      go (broken m at) = refl

-- the whole check
pub check_is : (s : List ℕ) → check s ≡ and_then (filled s) (rules_from 8 2 (records s))
unfolding check
check_is s = refl

module _ (s : List ℕ) where
  pub check_over : 16384 < length s → broken 1 0 ≡ check s
  unfolding filled rule1 and_then
  check_over h = sym (check_is s ∙ rw (lt-ltb 16384 (length s) h))

  module _ (h : length s ≤ 16384) (n : ℕ) (e : n ≡ stop s) where
    torn : (n ≡ length s → ⊥) → and_then (filled s) (rules_from 8 2 (records s)) ≡ broken 1 n
    unfolding filled rule1 and_then
    torn k = rw (le-ltb 16384 (length s) h, ← e, ne_eqb n (length s) k)

    pub check_torn : (n ≡ length s → ⊥) → broken 1 n ≡ check s
    check_torn k = sym (check_is s ∙ torn k)

    filled_up : n ≡ length s → and_then (filled s) (rules_from 8 2 (records s)) ≡ rules_from 8 2 (records s)
    unfolding filled rule1 and_then
    filled_up k = rw (le-ltb 16384 (length s) h, ← e, eq-eqb n (length s) k)

    pub check_rules : n ≡ length s → (v : Verdict) → v ≡ rules_from 8 2 (records s) → v ≡ check s
    check_rules k v q = q ∙ sym (check_is s ∙ filled_up k)

-- what an opened list answers
pub as_conflict : (o : Opened) (m : List ℕ) → o ≡ conflict → Opens o true m
as_conflict o m e = rw e refl

pub as_once : (o : Opened) (seen m : List ℕ) → o ≡ once seen → Seen m seen → Opens o false m
as_once o seen m e s = rw e (refl, s)

-- a group below, which v and the map `new` answer for
module _ (B : List Record) (d : ℕ) (w : Opened) (map : List ℕ) (m : Member) (ms ns : List Member) (a : Ahead (open_group B d) w map ms)
    (e : ms ≡ m ∷ ns) (small : m.tag < 65536) (r : Bool) (er : r ≡ bit_at map m.tag) (q : r ≡ false)
    (y : Bool) (ey : y ≡ is_count B m.tag) (z : y ≡ true) (deep : d ≡ 0 → ⊥) (g : List ℕ) (eg : members_of g ≡ group_of B m.tag) (v : Bool) (after new : List ℕ) (ea : after ≡ marked map m.tag)
    (o : (seen : List ℕ) → Seen after seen → Opens (open_list (open_group B (d - 1)) seen (members_of g)) v new) where
  inner : Opens (open_list (open_group B (d - 1)) (m.tag ∷ a.seen) (members_of g)) v new
  inner = o (m.tag ∷ a.seen) (rw ea (seen_more map a.seen m.tag small a.now))

  level : open_group B d (m.tag ∷ a.seen) m.tag ≡ open_list (open_group B (d - 1)) (m.tag ∷ a.seen) (members_of g)
  level = level_some B (m.tag ∷ a.seen) m.tag d y ey z deep ∙ ap (open_list (open_group B (d - 1)) (m.tag ∷ a.seen)) (sym eg)

  pub nested_conflict : v ≡ true → w ≡ conflict
  nested_conflict x = ahead_conflict (open_group B d) w map m ms ns a e small r er q (level ∙ go (open_list (open_group B (d - 1)) (m.tag ∷ a.seen) (members_of g)) inner)
    where
      go : (w : Opened) → Opens w v new → w ≡ conflict
      go (once s) k = clash v x k.0
      go conflict k = refl

  pub nested_once : v ≡ false → Ahead (open_group B d) w new ns
  nested_once x = go (open_list (open_group B (d - 1)) (m.tag ∷ a.seen) (members_of g)) inner level
    where
      go : (u : Opened) → Opens u v new → open_group B d (m.tag ∷ a.seen) m.tag ≡ u → Ahead (open_group B d) w new ns
      go (once s) k j = ahead_inner (open_group B d) w map m ms ns a e small r er q s new j k.1
      go conflict k j = clash v k x
