-- Laws of the reading of a message's own list, a field at a time. Assumes nothing.
use mathlib.Core.Path.{◌≡◌, refl, ◌∙◌, fun_ext}
use mathlib.Core.Bool.{Bool, true, false, cond, ◌||◌}
use mathlib.Core.List.{List, [], ◌∷◌}
use Prim.Native.Nat.{ℕ, zero, suc, ◌+◌, ◌-◌, ◌≤◌, ◌<◌, min}
use native.Mathlib.Omega.{arith}
use lib.Dec.{eqb}
use lib.ListN.{length, length-drop, drop}
use Rattle.std.proofs.lemmas.List.{drop_all}
use denote.Bor.{Bor}
use Rattle.std.specs.List.{list_any}
use Rattle.std.specs.Prelude.{Result, Ok, Err}
use Rattle.numbers.specs.Bytes.{mem}
use Rattle.book.specs.Records.{Record, Member, members_of, records, is_bounded}
use Rattle.message.specs.Arrangement.{Page}
use Rattle.message.specs.Permitted.{has_tag, none, lacking}
use Rattle.numbers.specs.Decimal.{value, tag_form}
use borrow.Author.Tests.{lt-ltb, ne_eqb, eqb-true}
use Rattle.reader.specs.declared.Step.{Step}
use Rattle.reader.specs.declared.Step.TheVariants.{Done, Ask}
use Rattle.reader.specs.declared.Spot.{Spot}
use Rattle.reader.specs.declared.page.Page as Code
use Rattle.reader.specs.declared.refusal.Refused.{Refused}
use Rattle.reader.specs.declared.refusal.Refusal.TheVariants.{Twice}
use Rattle.reader.specs.Fields.{Cut, uncut, cut_at, tag_in, torn, peek, fault, tagged, cut, grab}
use Rattle.reader.specs.Items.{stands_in, stands_under, has_place, starts}
use Rattle.reader.specs.Filling.{Fill, poor, next, f_refuse, f_node_by, f_item, f_ending, f_own, f_items}
use Rattle.reader.specs.Marked.{Marked}
use Rattle.reader.specs.Met.{page_of, outer_by, Spare, Says, Meets}
use Rattle.reader.proofs.Going.{Going, next_poor, going_first, going_on, going_bad, going_ask, going_says}

-- no group is open
none_open : (f : Bor (List ℕ) → Bool) → ((l : Bor (List ℕ)) → members_of l.now ≡ [] → f l ≡ false) → (a : List (Bor (List ℕ))) → Spare a → list_any f a ≡ false
none_open f empty [] h = refl
none_open f empty (l ∷ a) h = rw (empty l h.0) (none_open f empty a h.1)

pub outer_is : (p : Code.Page) (groups : List (Bor (List ℕ))) → Spare groups → outer_by p groups ≡ (λ u. eqb u 0 || starts (page_of p) (members_of p.own.now) u)
unfolding has_tag
outer_is p groups h = fun_ext each
  where
    each : (u : ℕ) → outer_by p groups u ≡ (eqb u 0 || starts (page_of p) (members_of p.own.now) u)
    each u =
        let f : Bor (List ℕ) → Bool = λ l. starts (page_of p) (members_of l.now) u in
        rw (none_open f (λ l e. rw e) groups h)

module _ (P : Page) (w : ℕ) (below : (ℕ → Bool) → ℕ → ℕ → List ℕ → Fill) (seen : List ℕ) (a n : ℕ) where
  abbrev outer : ℕ → Bool
  outer u = eqb u 0 || starts P P.own u

  own_turn : (fuel : ℕ) (s : List ℕ) → 0 < length s → length s ≤ fuel
      → f_own P w below fuel seen a n s
      ≡ cond (starts P P.own (peek s)) (cond (mem (peek s) seen) (poor 10 0 s) (next (below outer a n s) (λ q x r. f_own P w below (fuel - 1) (peek s ∷ seen) x (n + length q) r))) (f_refuse P w [] false s)
  unfolding f_own
  own_turn fuel [] h z = absurd (omega arith)
  own_turn zero (b ∷ s) h z = absurd (omega arith)
  own_turn (suc fuel) (b ∷ s) h z = let e : suc fuel - 1 ≡ fuel = omega arith in rw e

  own_end : (fuel : ℕ) → f_own P w below fuel seen a n [] ≡ f_ending P w (lacking P.book none P.own seen) a
  unfolding f_own
  own_end zero = refl
  own_end (suc fuel) = refl

-- a data in the list, without its Length before it
tagged_bounded : (B : List Record) (s : List ℕ) (c : Cut) (t : ℕ) → tag_in c ≡ t → t < 65536 → is_bounded B t ≡ true → tagged B s c ≡ fault 12 s
unfolding tagged
tagged_bounded B s uncut t e l h = absurd (omega (arith, e))
tagged_bounded B s (cut_at d r) t e l h = go (tag_form d) refl
  where
    go : (b : Bool) → tag_form d ≡ b → tagged B s (cut_at d r) ≡ fault 12 s
    go false q = let z : torn ≡ t = rw q at e in absurd (omega (arith, z))
    go true q =
        let z : min (value d) 65536 ≡ t = rw q at e in
        let v : value d ≡ t = omega (arith, z, l) in
        rw (q, v, lt-ltb t 65536 l, h)

has_place_own : (P : Page) (t : ℕ) → has_tag t P.own ≡ true → has_place P t ≡ true
unfolding has_place has_tag stands_in
has_place_own P t h = go (stands_under P.book 4 t) P.own h
  where
    go : (f : ℕ → Bool) (ms : List Member) → has_tag t ms ≡ true → stands_in f t ms ≡ true
    go f [] h = let z : false ≡ true = h in cc
    go f (m ∷ ms) h = split (eqb t m.tag) refl (f m.tag) refl h (go f ms)
      where
        split : (x : Bool) → eqb t m.tag ≡ x → (y : Bool) → f m.tag ≡ y → (eqb t m.tag || has_tag t ms) ≡ true → (has_tag t ms ≡ true → stands_in f t ms ≡ true) → stands_in f t (m ∷ ms) ≡ true
        split true e y q h ih = rw (e, stands_in)
        split false e true q h ih = rw (e, q, stands_in)
        split false e false q h ih = rw (e, q, stands_in) (ih (rw e at h))

grab_is : (B : List Record) (s : List ℕ) → grab B s ≡ tagged B s (cut 61 s)
unfolding grab
grab_is B s = refl

head : (s : List ℕ) → 0 < length s → tag_in (cut 61 s) ≡ peek s
unfolding peek
head [] h = absurd (omega arith)
head (b ∷ s) h = refl

module _ (P : Page) (w : ℕ) (out : ℕ → Bool) (a n : ℕ) (s : List ℕ) (t : ℕ) (pk : peek s ≡ t) (low : t < 65536) (some : 0 < length s) (h : is_bounded P.book t ≡ true) where
  bounded_item : f_item P w 5 out 0 0 0 a n s ≡ poor 12 0 s
  unfolding f_item f_node_by
  bounded_item = rw (grab_is P.book s ∙ tagged_bounded P.book s (cut 61 s) t (head s some ∙ pk) low h)

  bounded_refused : has_tag t P.own ≡ true → f_refuse P w [] false s ≡ poor 12 0 s
  unfolding f_refuse
  bounded_refused q = rw (pk, ne_eqb t torn (λ e. omega (arith, e, low)), h, has_place_own P t q)

-- the loop over the fields of the message's own list
pub record Owning (p : Code.Page) (m : List ℕ) (w at k : ℕ) (i b bits : List ℕ) (s : Spot) (j u : List ℕ) : Type 0 where
  pub seen : List ℕ
  pub fuel : ℕ
  pub marked : Marked bits (members_of p.own.now) seen
  pub begun : (t : ℕ) → mem t seen ≡ true → is_bounded (records p.book.now) t ≡ false
  pub enough : length m - s.at ≤ fuel
  pub going : Going m i b at k (f_items (page_of p) w at k (drop at m))
      (f_own (page_of p) w (λ outer x y. f_item (page_of p) w 5 outer 0 0 0 x y) fuel seen s.at s.row (drop s.at m)) s.at s.row j u

module _ (p : Code.Page) (m : List ℕ) (w at k : ℕ) (i b : List ℕ) where
  abbrev P : Page
  P = page_of p

  abbrev Below : (ℕ → Bool) → ℕ → ℕ → List ℕ → Fill
  Below outer x y = f_item P w 5 outer 0 0 0 x y

  abbrev Whole : Fill
  Whole = f_items P w at k (drop at m)

  pub owning_first : (bits : List ℕ) → at ≤ length m → Marked bits (members_of p.own.now) [] → Owning p m w at k i b bits (record { at = at; row = k }) i b
  unfolding f_items mem
  owning_first bits h marks = record {
    seen = [];
    fuel = length (drop at m);
    marked = marks;
    begun = λ t z. let y : false ≡ true = z in absurd (let n : ◌≡◌ {A = ℕ} 0 1 = cc in omega arith);
    enough = rw (length-drop at m) (omega arith);
    going = going_first m i b at k Whole h;
  }

  module _ (bits : List ℕ) (s : Spot) (j u : List ℕ) (h : Owning p m w at k i b bits s j u) (t : ℕ) (pk : peek (drop s.at m) ≡ t) where
    abbrev Here : Fill
    Here = f_item P w 5 (outer P w Below h.seen s.at s.row) 0 0 0 s.at s.row (drop s.at m)

    abbrev Rest : ℕ → ℕ → List ℕ → Fill
    Rest x y r = f_own P w Below (h.fuel - 1) (t ∷ h.seen) x y r

    module _ (more : s.at < length m) where
      turn : f_own P w Below h.fuel h.seen s.at s.row (drop s.at m)
          ≡ cond (starts P P.own t) (cond (mem t h.seen) (poor 10 0 (drop s.at m)) (next Here (λ q x r. Rest x (s.row + length q) r))) (f_refuse P w [] false (drop s.at m))
      turn = rw pk at (own_turn P w Below h.seen s.at s.row h.fuel (drop s.at m) (rw (length-drop s.at m) (omega arith)) (rw (length-drop s.at m) h.enough))

      pub owning_other : has_tag t P.own ≡ false → (x : Result Step Refused) → Says (drop s.at m) s.at s.row (f_refuse P w [] false (drop s.at m)) x → Meets 0 m at k Whole x i j b u
      owning_other z x S = going_says m i b at k Whole _ s.at s.row j u j u 0 (rw (turn, z) at h.going) (omega (arith, h.going.costs)) x S

      pub owning_twice : has_tag t P.own ≡ true → mem t h.seen ≡ true → (r : Refused) → r ≡ record { why = Twice; at = s.at } → Meets 0 m at k Whole (Err r) i j b u
      owning_twice z y r e =
          let q = h.begun t y in
          going_says m i b at k Whole _ s.at s.row j u j u 0 (rw (turn, z, q, y) at h.going) (omega (arith, h.going.costs)) (Err r) (refl, rw e (refl, refl, refl))

      module _ (z : has_tag t P.own ≡ true) (low : t < 65536) (y : mem t h.seen ≡ false) (j' u' : List ℕ) where
        some : 0 < length (drop s.at m)
        some = rw (length-drop s.at m) (omega (arith, more))

        -- a data is refused as the field reader refuses it
        turned : Going m i b at k Whole (next Here (λ q x r. Rest x (s.row + length q) r)) s.at s.row j u
        turned = go (is_bounded P.book t) refl
          where
            go : (c : Bool) → is_bounded P.book t ≡ c → Going m i b at k Whole (next Here (λ q x r. Rest x (s.row + length q) r)) s.at s.row j u
            go false q = rw (turn, z, q, y) at h.going
            go true q =
                let e = bounded_item P w (outer P w Below h.seen s.at s.row) s.at s.row (drop s.at m) t pk low some q in
                let f = bounded_refused P w (outer P w Below h.seen s.at s.row) s.at s.row (drop s.at m) t pk low some q z in
                rw (e, next_poor) (rw (turn, z, q, f) at h.going)

        pub owning_bad : (e : Refused) → Meets 1 m s.at s.row Here (Err e) j j' u u' → Meets 0 m at k Whole (Err e) i j' b u'
        owning_bad e M = going_bad m i b at k Whole Here s.at s.row j u j' u' Rest turned 1 0 e M j' u'

        pub owning_ask : (e : ℕ) → Meets 1 m s.at s.row Here (Ok (Ask e)) j j' u u' → Meets 0 m at k Whole (Ok (Ask e)) i j' b u'
        owning_ask e M = going_ask m i b at k Whole Here s.at s.row j u j' u' Rest turned 1 0 e M j' u'

        free : (x n : ℕ) → Meets 1 m s.at s.row Here (Ok (Done x n)) j j' u u' → is_bounded P.book t ≡ false
        free x n M = go (is_bounded P.book t) refl
          where
            go : (c : Bool) → is_bounded P.book t ≡ c → is_bounded P.book t ≡ false
            go false q = q
            go true q = let k = rw (bounded_item P w (outer P w Below h.seen s.at s.row) s.at s.row (drop s.at m) t pk low some q) at M in absurd k.1

        begins : (x n : ℕ) → Meets 1 m s.at s.row Here (Ok (Done x n)) j j' u u' → (v : ℕ) → mem v (t ∷ h.seen) ≡ true → is_bounded P.book v ≡ false
        unfolding mem
        begins x n M v q = go (eqb v t) refl q
          where
            go : (c : Bool) → eqb v t ≡ c → (eqb v t || mem v h.seen) ≡ true → is_bounded P.book v ≡ false
            go true e q = rw (eqb-true v t e) (free x n M)
            go false e q = h.begun v (rw e at q)

        pub owning_next : (x n : ℕ) (bits' : List ℕ) → Meets 1 m s.at s.row Here (Ok (Done x n)) j j' u u' → Marked bits' (members_of p.own.now) (t ∷ h.seen) → Owning p m w at k i b bits' (record { at = x; row = n }) j' u' × (s.at + 1 ≤ x)
        owning_next x n bits' M marks =
            let (on, past) = going_on m i b at k Whole Here s.at s.row j u j' u' Rest turned 1 x n M in
            (record { seen = t ∷ h.seen; fuel = h.fuel - 1; marked = marks; begun = begins x n M; enough = omega (arith, h.enough, past, more); going = on }, past)

    pub owning_end : length m ≤ s.at → (x : Result Step Refused) → Says [] s.at s.row (f_ending P w (lacking P.book none P.own h.seen) s.at) x → Meets 0 m at k Whole x i j b u
    owning_end last x S =
        let e : drop s.at m ≡ [] = drop_all s.at m last in
        let f = rw (e, own_end P w Below h.seen s.at s.row h.fuel) at h.going in
        going_says m i b at k Whole _ s.at s.row j u j u 0 f (omega (arith, h.going.costs)) x (rw e S)
