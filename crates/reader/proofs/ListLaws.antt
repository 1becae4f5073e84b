-- Laws of the questions on member lists. Assumes nothing.
use mathlib.Core.Path.{◌≡◌, refl, sym, ap, ◌∙◌}
use mathlib.Core.Bool.{Bool, true, false, cond, ◌||◌, and-false}
use mathlib.Core.List.{List, [], ◌∷◌}
use Prim.Native.Nat.{ℕ, zero, suc, ◌+◌, ◌-◌, ◌≤◌, ◌<◌}
use native.Mathlib.Omega.{arith}
use borrow.Author.Tests.{eqb-true, eq-eqb, ne_eqb}
use Rattle.numbers.specs.Bytes.{le16}
use lib.Dec.{eqb}
use Rattle.std.proofs.Common.{⊎_elim}
use Rattle.std.proofs.lemmas.Bool.{cases_lt}
use Rattle.std.specs.Prelude.{Option}
use Rattle.std.specs.List.{list_any}
use lib.ListN.{length, drop, get_or}
use lib.Seq.{get_or-drop}
use Rattle.book.specs.Records.{Member, members_of, Record, record_at, size, walk_from, walk, records, is_kind, is_count, nothing, look_up, type_of, group_of, is_bounded}
use Rattle.book.proofs.Members.{members_at, members_past}
use Rattle.message.specs.Permitted.{has_tag, note}
use Rattle.reader.specs.Items.{stands_in, stands_under}
use Rattle.reader.specs.Filling.{passed, met, seek_in}
use Rattle.reader.specs.Met.{miss_of}

-- what `any` answers
pub tag_any : (t : ℕ) (ms : List Member) → list_any (λ m. eqb t m.tag) ms ≡ has_tag t ms
unfolding has_tag
tag_any t [] = refl
tag_any t (m ∷ ms) = ap (λ b. eqb t m.tag || b) (tag_any t ms)

-- of bytes no tag is above 65,535
abbrev Small : List ℕ → Type 0
Small s = (i : ℕ) → get_or s i 0 < 256

small_drop : (s : List ℕ) (n : ℕ) → Small s → Small (drop n s)
small_drop s n h i = rw (get_or-drop n s i 0) (h (n + i))

tag_small : (at : ℕ) (s : List ℕ) → Small s → (record_at at s).tag < 65536
unfolding record_at
tag_small at s h =
    let a = small_drop s 4 h 0 in
    let b = small_drop s 4 h 1 in
    omega (arith, a, b)

pub listed_low : (t : ℕ) (l : List ℕ) → Small l → has_tag t (members_of l) ≡ true → t < 65536
unfolding has_tag members_of
listed_low t [] h e = let z : false ≡ true = e in absurd (let y : ◌≡◌ {A = ℕ} 0 1 = cc in omega arith)
listed_low t (a ∷ []) h e = absurd (let y : ◌≡◌ {A = ℕ} 0 1 = cc in omega arith)
listed_low t (a ∷ b ∷ []) h e = absurd (let y : ◌≡◌ {A = ℕ} 0 1 = cc in omega arith)
listed_low t (a ∷ b ∷ c ∷ []) h e = absurd (let y : ◌≡◌ {A = ℕ} 0 1 = cc in omega arith)
listed_low t (a ∷ b ∷ c ∷ d ∷ s) h e = go (eqb t (le16 (a ∷ b ∷ []))) refl e (listed_low t s (small_drop (a ∷ b ∷ c ∷ d ∷ s) 4 h))
  where
    go : (x : Bool) → eqb t (le16 (a ∷ b ∷ [])) ≡ x → (eqb t (le16 (a ∷ b ∷ [])) || has_tag t (members_of s)) ≡ true → (has_tag t (members_of s) ≡ true → t < 65536) → t < 65536
    go true q e ih = let k = eqb-true t (le16 (a ∷ b ∷ [])) q in omega (arith, k, h 0, h 1)
    go false q e ih = ih (rw q at e)

none_large : (t f at : ℕ) (s : List ℕ) → 65535 < t → Small s → look_up (is_kind 1 t) (walk_from (λ at. []) (λ at r rs. record_at at r ∷ rs) f at s) ≡ nothing
unfolding walk_from look_up
none_large t zero at s l h = refl
none_large t (suc f) at s l h = go (eqb (size s) 0) refl (none_large t f (at + size s) (drop (size s) s) l (small_drop s (size s) h))
  where
    other : eqb (record_at at s).tag t ≡ false
    other = let k = tag_small at s h in ne_eqb (record_at at s).tag t (λ e. omega (arith, e, k, l))

    go : (b : Bool) → eqb (size s) 0 ≡ b → look_up (is_kind 1 t) (walk_from (λ at. []) (λ at r rs. record_at at r ∷ rs) f (at + size s) (drop (size s) s)) ≡ nothing
        → look_up (is_kind 1 t) (cond (eqb (size s) 0) [] (record_at at s ∷ walk_from (λ at. []) (λ at r rs. record_at at r ∷ rs) f (at + size s) (drop (size s) s))) ≡ nothing
    go true e ih = rw e
    go false e ih = rw (e, other, and-false (eqb (record_at at s).kind 1)) ih

pub records_walk : (b : List ℕ) → records b ≡ walk_from (λ at. []) (λ at r rs. record_at at r ∷ rs) (length b) 0 b
unfolding records walk
records_walk b = refl

type_is : (B : List Record) (t : ℕ) → look_up (is_kind 1 t) B ≡ nothing → type_of B t ≡ 0
unfolding type_of
type_is B t e = rw e

pub large_free : (b : List ℕ) (t : ℕ) → ((i : ℕ) → get_or b i 0 < 256) → 65535 < t → false ≡ is_bounded (records b) t
large_free b t h l = sym (rw (type_is (records b) t (ap (look_up (is_kind 1 t)) (records_walk b) ∙ none_large t (length b) 0 b l h)))

-- the walk down a list's bytes, to the members ns that are left
pub record Seeking (B : List Record) (l : List ℕ) (from t : ℕ) (miss : Option ℕ) (at : ℕ) (x : Option ℕ) (ns : List Member) : Type 0 where
  pub inside : at ≤ length l
  pub here : members_of (drop at l) ≡ ns
  pub same : seek_in B (miss_of miss) (members_of (drop from l)) t ≡ seek_in B (miss_of x) ns t

module _ (B : List Record) (l : List ℕ) (from t : ℕ) (miss : Option ℕ) (at : ℕ) (x : Option ℕ) (ms : List Member) (inv : Seeking B l from t miss at x ms) where
  module _ (m : Member) (ns : List Member) (e : ms ≡ m ∷ ns) where
    pub seek_inside : at + 4 ≤ length l
    seek_inside = ⊎_elim (λ h. absurd (none h)) (λ h. h) (cases_lt (length l) (at + 4))
      where
        none : length l < at + 4 → ⊥
        none h = let z = members_past l at h in let i = inv.here in cc

    seek_here : members_of (drop (at + 4) l) ≡ ns
    seek_here = let z = members_at l at seek_inside in let i = inv.here in cc

    seek_step : seek_in B (miss_of miss) (members_of (drop from l)) t ≡ cond (eqb t m.tag) (met (miss_of x) ns) (seek_in B (note B (miss_of x) m) ns t)
    unfolding seek_in
    seek_step = inv.same ∙ rw e

    pub seek_hit : (v : ℕ) → v ≡ m.tag → t ≡ v → met (miss_of x) (members_of (drop (at + 4) l)) ≡ seek_in B (miss_of miss) (members_of (drop from l)) t
    seek_hit v ev q = rw seek_here (sym (seek_step ∙ rw (eq-eqb t m.tag (q ∙ ev))))

    pub seek_turn : (v : ℕ) → v ≡ m.tag → (t ≡ v → ⊥) → (y : Option ℕ) → miss_of y ≡ note B (miss_of x) m → Seeking B l from t miss (at + 4) y ns
    seek_turn v ev q y ey = record {
      inside = seek_inside;
      here = seek_here;
      same = seek_step ∙ rw (ne_eqb t m.tag (λ z. q (z ∙ sym ev)), ← ey);
    }

  pub seek_end : ms ≡ [] → passed (miss_of x) ≡ seek_in B (miss_of miss) (members_of (drop from l)) t
  unfolding seek_in
  seek_end e = sym (inv.same ∙ rw e)

-- the loop that looks for a tag's place; o is the answer
module _ (f : ℕ → Bool) (o : Bool) (t : ℕ) (ms : List Member) (inv : o ≡ stands_in f t ms) where
  module _ (m : Member) (ns : List Member) (e : ms ≡ m ∷ ns) (v : ℕ) (ev : v ≡ m.tag) where
    stand_step : (b : Bool) → (eqb t m.tag || f m.tag) ≡ b → o ≡ cond b true (stands_in f t ns)
    unfolding stands_in
    stand_step true q = inv ∙ rw e (rw (q, stands_in))
    stand_step false q = inv ∙ rw e (rw (q, stands_in))

    pub stand_here : t ≡ v → true ≡ o
    stand_here q = sym (stand_step true (rw (eq-eqb t m.tag (q ∙ ev))))

    pub stand_below : (t ≡ v → ⊥) → f m.tag ≡ true → true ≡ o
    stand_below q z = sym (stand_step true (rw (ne_eqb t m.tag (λ y. q (y ∙ sym ev)), z)))

    pub stand_turn : (t ≡ v → ⊥) → f m.tag ≡ false → o ≡ stands_in f t ns
    stand_turn q z = stand_step false (rw (ne_eqb t m.tag (λ y. q (y ∙ sym ev)), z))

  pub stand_end : ms ≡ [] → false ≡ o
  unfolding stands_in
  stand_end e = sym (inv ∙ rw e)

module _ (B : List Record) (d t u : ℕ) where
  pub under_zero : d ≤ 0 → stands_under B d t u ≡ false
  unfolding stands_under
  under_zero h = let e : d ≡ 0 = omega arith in rw (e, stands_under)

  pub under_plain : is_count B u ≡ false → stands_under B d t u ≡ false
  unfolding stands_under
  under_plain z = go d
    where
      go : (d : ℕ) → stands_under B d t u ≡ false
      go zero = refl
      go (suc d) = rw z

  pub under_group : is_count B u ≡ true → 0 < d → (l : List ℕ) → members_of l ≡ group_of B u → (r : Bool) → r ≡ stands_in (stands_under B (d - 1) t) t (members_of l) → stands_under B d t u ≡ r
  unfolding stands_under
  under_group z n l el r er = go d n er
    where
      go : (d : ℕ) → 0 < d → r ≡ stands_in (stands_under B (d - 1) t) t (members_of l) → stands_under B d t u ≡ r
      go zero n q = absurd (omega arith)
      go (suc d) n q = let k : suc d - 1 ≡ d = omega arith in sym (rw k at q ∙ rw (z, el))
