-- The check's answer, taken apart. Assumes nothing.
use mathlib.Core.Path.{◌≡◌, refl, sym, ap, ◌∙◌}
use mathlib.Core.Bool.{Bool, true, false, cond, ◌||◌, not}
use mathlib.Core.List.{List, [], ◌∷◌, ◌++◌}
use mathlib.Core.Logic.{◌⊎◌, inl, inr, ⊎_elim}
use Prim.Native.Nat.{ℕ, zero, suc, ◌+◌, ◌≤◌, ◌<◌}
use native.Mathlib.Omega.{arith}
use lib.Dec.{eqb, ltb}
use lib.ListN.{length, drop, length-drop}
use lib.Seq.{drop-drop}
use borrow.Author.Tests.{eqb-true, eqb-false, ltb-true, ltb-false}
use Rattle.book.specs.Records.{Record, record_at, records, stop, size, walk_from, walk}
use Rattle.book.specs.Rules.{rule1}
use Rattle.book.specs.Check.{Verdict, sound, broken, first, and_then, filled, rule_of, rules_from}
use Rattle.book.proofs.Walk.{size_fits, whole}
use Rattle.bridge.specs.Unsound.{Every, Keeps, StandsIn, Unsound, over, torn}
use Rattle.bridge.proofs.Sound.{first_every}

not_broken : {A : Type 0} (n at : ℕ) → sound ≡ broken n at → A
not_broken n at e = let z : ◌≡◌ {A = ℕ} 0 1 = cc in absurd (omega arith)

broken_parts : (n at m b : ℕ) → broken n at ≡ broken m b → (n ≡ m) × (at ≡ b)
broken_parts n at m b e = ((cc), (cc))

-- every record stands where it says
record_offset : (at : ℕ) (r : List ℕ) → (record_at at r).offset ≡ at
unfolding record_at
record_offset at r = refl

stands : (s : List ℕ) (at : ℕ) → (size (drop at s) ≡ 0 → ⊥) → StandsIn s (record_at at (drop at s))
stands s at n =
    let w = whole (drop at s) n in
    record {
      is = sym (ap (λ a. record_at a (drop a s)) (record_offset at (drop at s)));
      fits = rw (record_offset at (drop at s)) (omega (arith, w.low, w.fits, length-drop at s));
    }

walk_stands : (s : List ℕ) (f at : ℕ) → Every (StandsIn s) (walk_from (λ at. []) (λ at r rs. record_at at r ∷ rs) f at (drop at s))
unfolding walk_from
walk_stands s zero at = tt
walk_stands s (suc f) at = go (eqb (size (drop at s)) 0) refl (walk_stands s f (at + size (drop at s)))
  where
    go : (b : Bool) → eqb (size (drop at s)) 0 ≡ b
        → Every (StandsIn s) (walk_from (λ at. []) (λ at r rs. record_at at r ∷ rs) f (at + size (drop at s)) (drop (at + size (drop at s)) s))
        → Every (StandsIn s)
        (cond b [] (record_at at (drop at s) ∷ walk_from (λ at. []) (λ at r rs. record_at at r ∷ rs) f (at + size (drop at s)) (drop (size (drop at s)) (drop at s))))
    go true p h = tt
    go false p h = (stands s at (eqb-false (size (drop at s)) 0 p), rw (drop-drop (size (drop at s)) at s) h)

pub records_stand : (s : List ℕ) → Every (StandsIn s) (records s)
unfolding records walk
records_stand s = walk_stands s (length s) 0

-- the walk stops in the book
stop_from : (s : List ℕ) (f at : ℕ) → at ≤ length s → walk_from (λ at. at) (λ at r n. n) f at (drop at s) ≤ length s
unfolding walk_from
stop_from s zero at h = h
stop_from s (suc f) at h = go (eqb (size (drop at s)) 0) (stop_from s f (at + size (drop at s)))
  where
    go : (b : Bool) → (at + size (drop at s) ≤ length s → walk_from (λ at. at) (λ at r n. n) f (at + size (drop at s)) (drop (at + size (drop at s)) s) ≤ length s)
        → cond b at (walk_from (λ at. at) (λ at r n. n) f (at + size (drop at s)) (drop (size (drop at s)) (drop at s))) ≤ length s
    go true ih = h
    go false ih = rw (drop-drop (size (drop at s)) at s) (ih (omega (arith, h, size_fits (drop at s), length-drop at s)))

pub stop_in : (s : List ℕ) → stop s ≤ length s
unfolding stop walk
stop_in s = stop_from s (length s) 0 (omega arith)

-- the first record that breaks a rule
pub record First (n : ℕ) (breaks : Record → Bool) (rs : List Record) (m at : ℕ) : Type 0 where
  pub number : m ≡ n
  pub before : List Record
  pub after : List Record
  pub which : Record
  pub is : rs ≡ before ++ (which ∷ after)
  pub keep : Every (λ r. breaks r ≡ false) before
  pub fails : breaks which ≡ true
  pub offset : at ≡ which.offset

first_broken : (n : ℕ) (breaks : Record → Bool) (rs : List Record) (m at : ℕ) → first n breaks rs ≡ broken m at → First n breaks rs m at
unfolding first
first_broken n breaks [] m at e = not_broken m at e
first_broken n breaks (r ∷ rs) m at e = go (breaks r) refl (first_broken n breaks rs m at)
  where
    go : (b : Bool) → breaks r ≡ b → (first n breaks rs ≡ broken m at → First n breaks rs m at) → First n breaks (r ∷ rs) m at
    go true p ih =
        let x = broken_parts n r.offset m at (rw (p, first) at e) in
        record { number = sym x.0; before = []; after = rs; which = r; is = refl; keep = tt; fails = p; offset = sym x.1 }
    go false p ih =
        let h = ih (rw (p, first) at e) in
        record {
          number = h.number;
          before = r ∷ h.before;
          after = h.after;
          which = h.which;
          is = ap (λ l. r ∷ l) h.is;
          keep = (p, h.keep);
          fails = h.fails;
          offset = h.offset;
        }

pub and_then_broken : (a b : Verdict) (m at : ℕ) → and_then a b ≡ broken m at → (a ≡ broken m at) ⊎ ((a ≡ sound) × (b ≡ broken m at))
unfolding and_then
and_then_broken sound b m at e = inr (refl, e)
and_then_broken (broken n x) b m at e = inl e

rules_step : (k n : ℕ) (B : List Record) → rules_from (suc k) n B ≡ and_then (first n (rule_of n B) B) (rules_from k (suc n) B)
unfolding rules_from
rules_step k n B = refl

rules_none : (n : ℕ) (B : List Record) → rules_from zero n B ≡ sound
unfolding rules_from
rules_none n B = refl

-- the lowest rule broken, of k rules from n on
pub record Lowest (k n : ℕ) (B : List Record) (m at : ℕ) : Type 0 where
  pub low : n ≤ m
  pub high : m < n + k
  pub lower : (i : ℕ) → n ≤ i → i < m → Keeps B i B
  pub here : First m (rule_of m B) B m at

pub rules_broken : (k n : ℕ) (B : List Record) (m at : ℕ) → rules_from k n B ≡ broken m at → Lowest k n B m at
rules_broken zero n B m at e = not_broken m at (sym (rules_none n B) ∙ e)
rules_broken (suc k) n B m at e = ⊎_elim now (later (rules_broken k (suc n) B m at)) (and_then_broken (first n (rule_of n B) B) (rules_from k (suc n) B) m at (sym (rules_step k n B) ∙ e))
  where
    now : first n (rule_of n B) B ≡ broken m at → Lowest (suc k) n B m at
    now w =
        let h = first_broken n (rule_of n B) B m at w in
        let x : m ≡ n = h.number in
        let g : First m (rule_of m B) B m at = rw x (rw x at h) in
        record { low = omega (arith, x); high = omega (arith, x); lower = λ i a b. absurd (omega (arith, a, b, x)); here = g }

    lower : first n (rule_of n B) B ≡ sound → ((i : ℕ) → suc n ≤ i → i < m → Keeps B i B) → (i : ℕ) → n ≤ i → i < m → (b : Bool) → eqb i n ≡ b → Keeps B i B
    lower w h i a b true p = rw (eqb-true i n p) (first_every n (rule_of n B) B w)
    lower w h i a b false p = h i (omega (arith, a, eqb-false i n p)) b

    later : (rules_from k (suc n) B ≡ broken m at → Lowest k (suc n) B m at) → (first n (rule_of n B) B ≡ sound) × (rules_from k (suc n) B ≡ broken m at) → Lowest (suc k) n B m at
    later ih w =
        let h = ih w.1 in
        record { low = omega (arith, h.low); high = omega (arith, h.high); lower = λ i a b. lower w.0 h.lower i a b (eqb i n) refl; here = h.here }

filled_is : (s : List ℕ) → filled s ≡ cond (rule1 s) (broken 1 (cond (ltb 16384 (length s)) 0 (stop s))) sound
unfolding filled
filled_is s = refl

rule1_is : (s : List ℕ) → rule1 s ≡ (ltb 16384 (length s) || not (eqb (stop s) (length s)))
unfolding rule1
rule1_is s = refl

pub filled_broken : (s : List ℕ) (m at : ℕ) → filled s ≡ broken m at → Unsound s m at
filled_broken s m at e = go (ltb 16384 (length s)) refl (eqb (stop s) (length s)) refl
  where
    go : (b : Bool) → ltb 16384 (length s) ≡ b → (c : Bool) → eqb (stop s) (length s) ≡ c → Unsound s m at
    go true p c q =
        let x = broken_parts 1 0 m at (sym (filled_is s ∙ rw (rule1_is s, p)) ∙ e) in
        over (sym x.0) (ltb-true 16384 (length s) p) (sym x.1)
    go false p true q = not_broken m at (sym (filled_is s ∙ rw (rule1_is s, p, q)) ∙ e)
    go false p false q =
        let x = broken_parts 1 (stop s) m at (sym (filled_is s ∙ rw (rule1_is s, p, q)) ∙ e) in
        torn (sym x.0) (ltb-false 16384 (length s) p) (sym x.1) (omega (arith, x.1, stop_in s, eqb-false (stop s) (length s) q))

pub filled_whole : (s : List ℕ) → filled s ≡ sound → stop s ≡ length s
filled_whole s e = go (ltb 16384 (length s)) refl (eqb (stop s) (length s)) refl
  where
    go : (b : Bool) → ltb 16384 (length s) ≡ b → (c : Bool) → eqb (stop s) (length s) ≡ c → stop s ≡ length s
    go b p true q = eqb-true (stop s) (length s) q
    go true p false q = not_broken 1 0 (sym e ∙ (filled_is s ∙ rw (rule1_is s, p)))
    go false p false q = not_broken 1 (stop s) (sym e ∙ (filled_is s ∙ rw (rule1_is s, p, q)))

every_at : (p : Record → Type 0) (a b : List Record) (r : Record) → Every p (a ++ (r ∷ b)) → p r
every_at p [] b r h = h.0
every_at p (x ∷ a) b r h = every_at p a b r h.1

pub every_in : (p : Record → Type 0) (rs a b : List Record) (r : Record) → rs ≡ a ++ (r ∷ b) → Every p rs → p r
every_in p rs a b r e h = every_at p a b r (rw e at h)
