-- Laws of a reading that goes from place to place and puts its rows one behind the other. Assumes nothing.
use mathlib.Core.Path.{◌≡◌, refl, sym, ap, ◌∙◌}
use mathlib.Core.Bool.{Bool, true, false, cond, ◌||◌}
use mathlib.Core.List.{List, [], ◌∷◌, ◌++◌, append_assoc, append-nil}
use Prim.Native.Nat.{ℕ, ◌+◌, ◌≤◌, ◌<◌}
use native.Mathlib.Omega.{arith}
use lib.ListN.{length, length-append, drop}
use Rattle.std.specs.Prelude.{Result, Ok, Err}
use Rattle.book.proofs.Members.{members_count, members_none}
use Rattle.book.specs.Records.{Member}
use Rattle.message.specs.Arrangement.{Page}
use Rattle.message.specs.Rows.{Row}
use Rattle.reader.specs.declared.Step.{Step}
use Rattle.reader.specs.declared.Step.TheVariants.{Done, Ask}
use Rattle.reader.specs.declared.closing.Group.{Group}
use Rattle.reader.specs.declared.refusal.Refused.{Refused}
use Rattle.reader.specs.declared.refusal.Refusal.TheVariants.{Instances}
use Rattle.reader.specs.Fields.{peek}
use Rattle.reader.specs.Items.{is_first, starts}
use Rattle.reader.specs.Filling.{Fill, full, poor, ask, before, next, f_refuse, f_inst, f_closed, put_rows, row_numbers, row_bytes}
use Rattle.reader.specs.Met.{page_of, ends_by, list_of, Says, Meets}
use Rattle.reader.proofs.RowLaws.{rows_then}

-- where the first member is due and does not stand
module _ (P : Page) (w : ℕ) (read : ℕ → ℕ → List ℕ → Fill) (stay : ℕ → Bool) (at k : ℕ) (s : List ℕ) where
  pub inst_other : (all : List Member) → is_first all (peek s) ≡ false → 0 < length all
      → f_inst P w read all stay all at k s ≡ cond (starts P all (peek s) || stay (peek s)) (poor 13 0 s) (f_refuse P w [] false s)
  unfolding f_inst
  inst_other [] e h = absurd (omega arith)
  inst_other (m ∷ ms) e h = rw e

module _ (g : Group) (w : ℕ) (s : List ℕ) (k at t : ℕ) (read : ℕ → ℕ → List ℕ → Fill) where
  abbrev P : Page
  P = page_of g.page

  pub no_first_some : peek s ≡ t → is_first (list_of g) t ≡ false → 4 ≤ length g.list.now → (x : Result Step Refused)
      → Says s at k (cond (starts P (list_of g) (peek s) || ends_by g (peek s)) (poor 13 0 s) (f_refuse P w [] false s)) x
      → Says s at k (f_inst P w read (list_of g) (ends_by g) (list_of g) at k s) x
  no_first_some p z h x y =
      let c = members_count g.list.now in
      let e = inst_other P w read (ends_by g) at k s (list_of g) (rw p z) (omega (arith, c)) in
      rw e y

  pub no_first_none : length g.list.now < 4 → (r : Refused) → r ≡ record { why = Instances; at = at } → Says s at k (f_inst P w read (list_of g) (ends_by g) (list_of g) at k s) (Err r)
  unfolding f_inst
  no_first_none h r e = rw (members_none g.list.now h, e) (refl, (refl, refl, refl))

abbrev pub is_full : Fill → Bool
is_full (full q a r) = true
is_full (poor n t s) = false
is_full (ask t) = false

-- rows in front of what follows
before_nil : (F : Fill) → before [] F ≡ F
unfolding before
before_nil (full q a r) = refl
before_nil (poor n t s) = refl
before_nil (ask t) = refl

before_more : (p q : List Row) (F : Fill) → before p (before q F) ≡ before (p ++ q) F
unfolding before
before_more p q (full o a r) = rw (append_assoc p q o)
before_more p q (poor n t s) = refl
before_more p q (ask t) = refl

closed_before : (P : Page) (w : ℕ) (ms : List Member) (q : List Row) (F : Fill) → f_closed P w ms (before q F) ≡ before q (f_closed P w ms F)
unfolding before f_closed
closed_before P w ms q (poor n t s) = refl
closed_before P w ms q (ask t) = refl
closed_before P w ms q (full p a r) = go (is_first ms (peek r)) refl
  where
    go : (b : Bool) → is_first ms (peek r) ≡ b → f_closed P w ms (full (q ++ p) a r) ≡ before q (f_closed P w ms (full p a r))
    go true e = rw e
    go false e = rw e

pub closed_next : (P : Page) (w : ℕ) (ms : List Member) (F : Fill) (G : List Row → ℕ → List ℕ → Fill) → f_closed P w ms (next F G) ≡ next F (λ q a r. f_closed P w ms (G q a r))
unfolding next
closed_next P w ms (full q a r) G = closed_before P w ms q (G q a r)
closed_next P w ms (poor n t s) G = unfold f_closed in refl
closed_next P w ms (ask t) G = unfold f_closed in refl

next_full : (q : List Row) (a : ℕ) (r : List ℕ) (G : List Row → ℕ → List ℕ → Fill) → next (full q a r) G ≡ before q (G q a r)
unfolding next
next_full q a r G = refl

pub next_poor : (y t : ℕ) (s : List ℕ) (G : List Row → ℕ → List ℕ → Fill) → next (poor y t s) G ≡ poor y t s
unfolding next
next_poor y t s G = refl

before_next : (y t : ℕ) (s : List ℕ) (G : List Row → ℕ → List ℕ → Fill) (q : List Row) → before q (next (poor y t s) G) ≡ poor y t s
unfolding next before
before_next y t s G q = refl

next_ask : (t : ℕ) (G : List Row → ℕ → List ℕ → Fill) (q : List Row) → before q (next (ask t) G) ≡ ask t
unfolding next before
next_ask t G q = refl

before_all : (q p : List Row) (a : ℕ) (r : List ℕ) → before q (full p a r) ≡ full (q ++ p) a r
unfolding before
before_all q p a r = refl

pub before_full : (q : List Row) (a : ℕ) (r : List ℕ) → before q (full [] a r) ≡ full q a r
unfolding before
before_full q a r = rw (append-nil q)

before_poor : (q : List Row) (y t : ℕ) (s : List ℕ) → before q (poor y t s) ≡ poor y t s
unfolding before
before_poor q y t s = refl

before_ask : (q : List Row) (t : ℕ) → before q (ask t) ≡ ask t
unfolding before
before_ask q t = refl

-- what was put down so far, and what is left to read from a place on: with it, it is the whole
pub record Going (m i b : List ℕ) (at k : ℕ) (whole here : Fill) (a n : ℕ) (j d : List ℕ) : Type 0 where
  pub rows : List Row
  pub made : whole ≡ before rows here
  pub index : j ≡ put_rows 6 row_numbers i k rows
  pub bytes : d ≡ put_rows 12 row_bytes b k rows
  pub count : n ≡ k + length rows
  pub costs : at + length rows ≤ a
  pub inside : a ≤ length m

module _ (m i b : List ℕ) (at k : ℕ) (whole : Fill) where
  pub going_first : at ≤ length m → Going m i b at k whole whole at k i b
  unfolding put_rows
  going_first h = record {
    rows = [];
    made = sym (before_nil whole);
    index = refl;
    bytes = refl;
    count = omega arith;
    costs = omega arith;
    inside = h;
  }

  pub going_here : (F G : Fill) (a n : ℕ) (j d : List ℕ) → F ≡ G → Going m i b at k whole F a n j d → Going m i b at k whole G a n j d
  going_here F G a n j d e g = record { rows = g.rows; made = g.made ∙ ap (before g.rows) e; index = g.index; bytes = g.bytes; count = g.count; costs = g.costs; inside = g.inside }

  module _ (F : Fill) (a n : ℕ) (j d j' d' : List ℕ) where
    module _ (H : ℕ → ℕ → List ℕ → Fill) (g : Going m i b at k whole (next F (λ q x r. H x (n + length q) r)) a n j d) where
      pub going_on : (least a' n' : ℕ) → Meets least m a n F (Ok (Done a' n')) j j' d d' → Going m i b at k whole (H a' n' (drop a' m)) a' n' j' d' × (a + least ≤ a')
      going_on least a' n' M = go F refl M
        where
          go : (E : Fill) → F ≡ E → Meets least m a n E (Ok (Done a' n')) j j' d d' → Going m i b at k whole (H a' n' (drop a' m)) a' n' j' d' × (a + least ≤ a')
          go (poor y t s) e M = absurd M.1
          go (ask t) e M = let z : ◌≡◌ {A = ℕ} 0 1 = cc in absurd (omega arith)
          go (full q x r) e (v, er, inside, past, costs, ei, eb) =
              let ea : a' ≡ x = cc in
              let en : n' ≡ n + length q = cc in
              let made : whole ≡ before (g.rows ++ q) (H a' n' (drop a' m)) = rw (ea, en) (g.made ∙ rw (e, next_full, er) (before_more g.rows q (H x (n + length q) (drop x m)))) in (
                record {
                  rows = g.rows ++ q;
                  made = made;
                  index = ei ∙ rw (g.index, g.count) (rows_then 6 row_numbers i k g.rows q);
                  bytes = eb ∙ rw (g.bytes, g.count) (rows_then 12 row_bytes b k g.rows q);
                  count = en ∙ rw (g.count, length-append g.rows q) (omega arith);
                  costs = let c = g.costs in rw (length-append g.rows q) (omega (arith, ea));
                  inside = rw ea inside;
                },
                rw ea past,
              )

      pub going_bad : (some least : ℕ) (e : Refused) → Meets some m a n F (Err e) j j' d d' → (o u : List ℕ) → Meets least m at k whole (Err e) i o b u
      going_bad some least r M o u = go F refl M
        where
          go : (E : Fill) → F ≡ E → Meets some m a n E (Err r) j j' d d' → Meets least m at k whole (Err r) i o b u
          go (poor y t s) e M = let z : whole ≡ poor y t s = g.made ∙ rw e (before_next y t s _ g.rows) in rw z M
          go (ask t) e M = let z : ◌≡◌ {A = ℕ} 0 1 = cc in absurd (omega arith)
          go (full q x y) e M = let z : ◌≡◌ {A = ℕ} 0 1 = cc in absurd (omega arith)

      pub going_ask : (some least t : ℕ) → Meets some m a n F (Ok (Ask t)) j j' d d' → (o u : List ℕ) → Meets least m at k whole (Ok (Ask t)) i o b u
      going_ask some least t M o u = go F refl M
        where
          go : (E : Fill) → F ≡ E → Meets some m a n E (Ok (Ask t)) j j' d d' → Meets least m at k whole (Ok (Ask t)) i o b u
          go (poor y x s) e M = absurd M.1
          go (ask x) e M = let z : whole ≡ ask x = g.made ∙ rw e (next_ask x _ g.rows) in rw z M
          go (full q x y) e M = let z : ◌≡◌ {A = ℕ} 0 1 = cc in absurd (omega arith)

    pub going_says : (least : ℕ) → Going m i b at k whole F a n j d → at + least ≤ a → (x : Result Step Refused) → Says (drop a m) a n F x → Meets least m at k whole x i j b d
    going_says least g h x S = go F refl S
      where
        go : (E : Fill) → F ≡ E → Says (drop a m) a n E x → Meets least m at k whole x i j b d
        go (poor y t s) e (r, R) = let z : whole ≡ poor y t s = g.made ∙ rw e (before_poor g.rows y t s) in rw z (a, R, r, g.inside)
        go (ask t) e S = let z : whole ≡ ask t = g.made ∙ rw e (before_ask g.rows t) in rw z S
        go (full q y r) e (eq, ea, er, ex) =
            let z : whole ≡ full g.rows y r = g.made ∙ rw (e, eq) (before_full g.rows y r) in
            rw z (
              rw (ea, ← g.count) ex,
              rw ea er,
              rw ea g.inside,
              rw ea h,
              rw ea g.costs,
              g.index,
              g.bytes,
            )

    -- what is left to read is read by one who puts its rows down behind these
    pub going_meets : Going m i b at k whole F a n j d → at + 1 ≤ a → (x : Result Step Refused) → Meets 0 m a n F x j j' d d' → Meets 1 m at k whole x i j' b d'
    going_meets g h x M = go F refl M
      where
        go : (E : Fill) → F ≡ E → Meets 0 m a n E x j j' d d' → Meets 1 m at k whole x i j' b d'
        go (poor y t s) e M = let z : whole ≡ poor y t s = g.made ∙ rw e (before_poor g.rows y t s) in rw z M
        go (ask t) e M = let z : whole ≡ ask t = g.made ∙ rw e (before_ask g.rows t) in rw z M
        go (full q y r) e (ex, er, inside, past, costs, ei, eb) =
            let z : whole ≡ full (g.rows ++ q) y r = g.made ∙ rw e (before_all g.rows q y r) in
            let l : length (g.rows ++ q) ≡ length g.rows + length q = length-append g.rows q in
            let c : n + length q ≡ k + length (g.rows ++ q) = rw (g.count, l) (omega arith) in
            rw z (
              rw (← c) ex,
              er,
              inside,
              omega (arith, h, past),
              rw l (omega (arith, g.costs, costs)),
              ei ∙ rw (g.index, g.count) (rows_then 6 row_numbers i k g.rows q),
              eb ∙ rw (g.bytes, g.count) (rows_then 12 row_bytes b k g.rows q),
            )
