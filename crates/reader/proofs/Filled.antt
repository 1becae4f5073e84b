-- The reading that puts down rows as it goes gives the rows of what the other reading gives. Assumes nothing.
use mathlib.Core.Path.{◌≡◌, refl, sym, ap, ◌∙◌}
use mathlib.Core.Bool.{Bool, true, false, ◌||◌}
use mathlib.Core.List.{List, [], ◌∷◌, ◌++◌}
use Prim.Native.Nat.{ℕ, zero, suc, ◌+◌}
use lib.Dec.{eqb}
use lib.ListN.{length}
use Rattle.numbers.specs.Bytes.{mem}
use Rattle.numbers.specs.Decimal.{value}
use Rattle.book.specs.Records.{Member, group_of, is_count, is_bounded}
use Rattle.message.specs.Arrangement.{single, pair, Page}
use Rattle.message.specs.Permitted.{has_tag, Miss, none, lacks, note, lacking}
use Rattle.message.specs.Rows.{Row, field_size, piece_rows, past_all, past_node, past_item, rows_all, rows_insts, rows_node, rows_item}
use Rattle.reader.specs.Fields.{torn, peek, Grab, got, fault, grab}
use Rattle.reader.specs.Items.{Out, done, bad, late, and_then, onto, is_first, has_place, starts, refuse, close, members, inst, insts, closed, group, node_by, read_item, ending, own_list, read_items}
use Rattle.reader.specs.Filling.{Fill, full, poor, before, next, late_fill, f_refuse, f_close, f_members, f_inst, f_insts, f_closed, f_group, f_node_by, f_item, f_ending, f_own, f_items}

-- an outcome as rows
abbrev pub fill_of : {X : Type 0} → ℕ → (ℕ → X → ℕ) → (ℕ → ℕ → X → List Row) → ℕ → ℕ → Out X → Fill
fill_of w p q at k (done x r) = full (q at k x) (p at x) r
fill_of w p q at k (bad n t s) = poor n t s
fill_of w p q at k (late b s) = late_fill w b s

unlate : (w : ℕ) (b : Bool) (s : List ℕ) (q : List Row) → before q (late_fill w b s) ≡ late_fill w b s
unfolding before
unlate w b s q = go (eqb (peek s) w) refl
  where
    go : (c : Bool) → eqb (peek s) w ≡ c → before q (late_fill w b s) ≡ late_fill w b s
    go true e = rw e
    go false e = rw e

unnext : (w : ℕ) (b : Bool) (s : List ℕ) (F : List Row → ℕ → List ℕ → Fill) → next (late_fill w b s) F ≡ late_fill w b s
unfolding next
unnext w b s F = go (eqb (peek s) w) refl
  where
    go : (c : Bool) → eqb (peek s) w ≡ c → next (late_fill w b s) F ≡ late_fill w b s
    go true e = rw e
    go false e = rw e

-- one thing, then a list of such
module _ (w : ℕ) {X : Type 0} (pX : ℕ → X → ℕ) (rX : ℕ → ℕ → X → List Row) (pL : ℕ → List X → ℕ) (rY rZ : ℕ → ℕ → List X → List Row)
    (pcons : (at : ℕ) (x : X) (l : List X) → pL at (x ∷ l) ≡ pL (pX at x) l)
    (rcons : (at k : ℕ) (x : X) (l : List X) → rZ at k (x ∷ l) ≡ rX at k x ++ rY (pX at x) (k + length (rX at k x)) l) where
  joined : (at k : ℕ) (x : X) (o : Out (List X)) → before (rX at k x) (fill_of w pL rY (pX at x) (k + length (rX at k x)) o) ≡ fill_of w pL rZ at k (onto x o)
  unfolding before onto
  joined at k x (done l r) = rw (pcons at x l, rcons at k x l)
  joined at k x (bad n t s) = refl
  joined at k x (late b s) = unlate w b s (rX at k x)

  join : (o : Out X) (G : X → List ℕ → Out (List X)) (F : List Row → ℕ → List ℕ → Fill) (at k : ℕ)
      → ((x : X) (r : List ℕ) → F (rX at k x) (pX at x) r ≡ fill_of w pL rY (pX at x) (k + length (rX at k x)) (G x r))
      → next (fill_of w pX rX at k o) F ≡ fill_of w pL rZ at k (and_then o (λ x r. onto x (G x r)))
  unfolding next and_then
  join (done x r) G F at k h = rw (h x r) (joined at k x (G x r))
  join (bad n t s) G F at k h = refl
  join (late b s) G F at k h = unnext w b s F

module _ (P : Page) (w : ℕ) where
  refuse_same : {X : Type 0} (p : ℕ → X → ℕ) (q : ℕ → ℕ → X → List Row) (all : List Member) (seen : List ℕ) (hit : Bool) (at k : ℕ) (s : List ℕ) → hit ≡ mem w seen
      → f_refuse P w all hit s ≡ fill_of w p q at k (refuse P all seen s)
  unfolding f_refuse refuse
  refuse_same p q all seen hit at k s h =
      go (eqb (peek s) torn) refl (is_bounded P.book (peek s)) refl (has_place P (peek s)) refl (has_tag (peek s) all) refl
    where
      told : (c : Bool) → eqb (peek s) w ≡ c → late_fill w hit s ≡ late_fill w (mem (peek s) seen) s
      told true e = let n : peek s ≡ w = borrow.Author.Tests.eqb-true (peek s) w e in rw (h, n)
      told false e = rw e

      go : (a : Bool) → eqb (peek s) torn ≡ a → (b : Bool) → is_bounded P.book (peek s) ≡ b → (c : Bool) → has_place P (peek s) ≡ c → (d : Bool) → has_tag (peek s) all ≡ d
          → f_refuse P w all hit s ≡ fill_of w p q at k (refuse P all seen s)
      go true ea b eb c ec d ed = rw ea
      go false ea true eb true ec d ed = rw (ea, eb, ec)
      go false ea true eb false ec true ed = rw (ea, eb, ec, ed) (told (eqb (peek s) w) refl)
      go false ea true eb false ec false ed = rw (ea, eb, ec, ed)
      go false ea false eb c ec true ed = rw (ea, eb, ed) (told (eqb (peek s) w) refl)
      go false ea false eb c ec false ed = rw (ea, eb, ed)

module _ (P : Page) (w : ℕ) {I : Type 0} (past : ℕ → I → ℕ) where
  module _ (rows : ℕ → ℕ → I → List Row) (read : List ℕ → Out I) (fread : ℕ → ℕ → List ℕ → Fill)
      (same : (at k : ℕ) (s : List ℕ) → fread at k s ≡ fill_of w past rows at k (read s)) where
    one_more : (o : Out I) (G : I → List ℕ → Out (List I)) (F : List Row → ℕ → List ℕ → Fill) (at k : ℕ)
        → ((x : I) (r : List ℕ) → F (rows at k x) (past at x) r ≡ fill_of w (past_all past) (rows_all past rows) (past at x) (k + length (rows at k x)) (G x r))
        → next (fill_of w past rows at k o) F ≡ fill_of w (past_all past) (rows_all past rows) at k (and_then o (λ x r. onto x (G x r)))
    unfolding past_all rows_all
    one_more = join w past rows (past_all past) (rows_all past rows) (rows_all past rows) (λ at x l. refl) (λ at k x l. refl)

    module _ (all : List Member) (stay : ℕ → Bool) where
      close_same : (seen : List ℕ) (hit : Bool) (x : Miss) (at k : ℕ) (s : List ℕ) → hit ≡ mem w seen
          → f_close P w all stay hit x at s ≡ fill_of w (past_all past) (rows_all past rows) at k (close P all stay seen x s)
      unfolding f_close close past_all rows_all
      close_same seen hit none at k s h = go (stay (peek s)) refl
        where
          go : (b : Bool) → stay (peek s) ≡ b → f_close P w all stay hit none at s ≡ fill_of w (past_all past) (rows_all past rows) at k (close P all stay seen none s)
          go true p = rw p
          go false p = rw p (refuse_same P w (past_all past) (rows_all past rows) all seen hit at k s h)
      close_same seen hit (lacks t) at k s h = go (stay (peek s)) refl
        where
          go : (b : Bool) → stay (peek s) ≡ b → f_close P w all stay hit (lacks t) at s ≡ fill_of w (past_all past) (rows_all past rows) at k (close P all stay seen (lacks t) s)
          go true p = rw p
          go false p = rw p (refuse_same P w (past_all past) (rows_all past rows) all seen hit at k s h)

      members_same : (seen : List ℕ) (hit : Bool) (x : Miss) (ms : List Member) (at k : ℕ) (s : List ℕ) → hit ≡ mem w seen
          → f_members P w fread all stay hit x ms at k s ≡ fill_of w (past_all past) (rows_all past rows) at k (members P read all stay seen x ms s)
      unfolding f_members members mem
      members_same seen hit x [] at k s h = close_same seen hit x at k s h
      members_same seen hit x (m ∷ ms) at k s h =
          go (eqb (peek s) m.tag) refl
          (λ a k r. members_same (m.tag ∷ seen) (eqb w m.tag || hit) x ms a k r (ap (λ b. eqb w m.tag || b) h)) (members_same seen hit (note P.book x m) ms at k s h)
        where
          go : (b : Bool) → eqb (peek s) m.tag ≡ b
              → ((a k : ℕ) (r : List ℕ) → f_members P w fread all stay (eqb w m.tag || hit) x ms a k r ≡ fill_of w (past_all past) (rows_all past rows) a k (members P read all stay (m.tag ∷ seen) x ms r))
              → f_members P w fread all stay hit (note P.book x m) ms at k s ≡ fill_of w (past_all past) (rows_all past rows) at k (members P read all stay seen (note P.book x m) ms s)
              → f_members P w fread all stay hit x (m ∷ ms) at k s ≡ fill_of w (past_all past) (rows_all past rows) at k (members P read all stay seen x (m ∷ ms) s)
          go true p on off = rw (p, same at k s) (one_more (read s) (λ i r. members P read all stay (m.tag ∷ seen) x ms r) (λ q a r. f_members P w fread all stay (eqb w m.tag || hit) x ms a (k + length q) r) at k (λ x r. on _ _ r))
          go false p on off = rw p off

      inst_same : (ms : List Member) (at k : ℕ) (s : List ℕ)
          → f_inst P w fread all stay ms at k s ≡ fill_of w (past_all past) (rows_all past rows) at k (inst P read all stay ms s)
      unfolding f_inst inst mem
      inst_same [] at k s = refl
      inst_same (m ∷ ms) at k s = go (eqb (peek s) m.tag) refl (starts P all (peek s) || stay (peek s)) refl
        where
          go : (b : Bool) → eqb (peek s) m.tag ≡ b → (c : Bool) → (starts P all (peek s) || stay (peek s)) ≡ c
              → f_inst P w fread all stay (m ∷ ms) at k s ≡ fill_of w (past_all past) (rows_all past rows) at k (inst P read all stay (m ∷ ms) s)
          go true p c q =
              rw (p, same at k s) (one_more (read s) (λ i r. members P read all stay (m.tag ∷ []) none ms r) (λ q a r. f_members P w fread all stay (eqb w m.tag || false) none ms a (k + length q) r) at k
              (λ x r. members_same (m.tag ∷ []) (eqb w m.tag || false) none ms _ _ r refl))
          go false p true q = rw (p, q)
          go false p false q = rw (p, q) (refuse_same P w (past_all past) (rows_all past rows) [] [] false at k s refl)

      ending_same : (x : Miss) (at k : ℕ) → f_ending P w x at ≡ fill_of w (past_all past) (rows_all past rows) at k (ending P x)
      unfolding f_ending ending past_all rows_all
      ending_same none at k = refl
      ending_same (lacks t) at k = refl

  module _ (rows : ℕ → ℕ → ℕ → ℕ → ℕ → I → List Row) (read : (ℕ → Bool) → List ℕ → Out I) (fread : (ℕ → Bool) → ℕ → ℕ → ℕ → ℕ → ℕ → List ℕ → Fill)
      (same : (out : ℕ → Bool) (e c j at k : ℕ) (s : List ℕ) → fread out e c j at k s ≡ fill_of w past (rows e c j) at k (read out s)) where
    insts_same : (out : ℕ → Bool) (all : List Member) (stay : ℕ → Bool) (e c n j : ℕ) (ms : List Member) (at k : ℕ) (s : List ℕ)
        → f_insts P w (fread out e c) all stay n j ms at k s ≡ fill_of w (past_all (past_all past)) (rows_insts past rows e c j) at k (insts P (read out) all stay n ms s)
    unfolding f_insts insts past_all rows_insts
    insts_same out all stay e c zero j ms at k s = refl
    insts_same out all stay e c (suc n) j ms at k s =
        rw (inst_same (rows e c j) (read out) (fread out e c j) (same out e c j) all stay ms at k s)
        (join w (past_all past) (rows_all past (rows e c j)) (past_all (past_all past)) (rows_insts past rows e c (j + 1)) (rows_insts past rows e c j) (λ at x l. refl) (λ at k x l. refl)
        (inst P (read out) all stay ms s) (λ x r. insts P (read out) all stay n ms r) (λ q a r. f_insts P w (fread out e c) all stay n (j + 1) ms a (k + length q) r) at k
        (λ x r. insts_same out all stay e c n (j + 1) ms _ _ r))

    shut : (ms : List Member) (t : ℕ) (v : List ℕ) (e c j at k : ℕ) (o : Out (List (List I)))
        → before (piece_rows e c j at (single t v)) (f_closed P w ms (fill_of w (past_all (past_all past)) (rows_insts past rows (e + 1) k 1) (at + field_size t v) (k + 1) o))
        ≡ fill_of w (past_node past) (rows_node past rows e c j) at k (closed P ms t v o)
    unfolding before f_closed closed past_node rows_node
    shut ms t v e c j at k (bad n x s) = refl
    shut ms t v e c j at k (late b s) = go (eqb (peek s) w) refl
      where
        go : (y : Bool) → eqb (peek s) w ≡ y → before (piece_rows e c j at (single t v)) (f_closed P w ms (late_fill w b s)) ≡ late_fill w b s
        go true p = rw p
        go false p = rw p
    shut ms t v e c j at k (done l r) = go (is_first ms (peek r)) refl
      where
        go : (b : Bool) → is_first ms (peek r) ≡ b
            → before (piece_rows e c j at (single t v)) (f_closed P w ms (full (rows_insts past rows (e + 1) k 1 (at + field_size t v) (k + 1) l) (past_all (past_all past) (at + field_size t v) l) r))
            ≡ fill_of w (past_node past) (rows_node past rows e c j) at k (closed P ms t v (done l r))
        go true p = rw p
        go false p = rw p

    group_same : (out : ℕ → Bool) (t : ℕ) (v : List ℕ) (e c j at k : ℕ) (s : List ℕ)
        → before (piece_rows e c j at (single t v)) (f_group P w fread out t (value v) e (at + field_size t v) k s)
        ≡ fill_of w (past_node past) (rows_node past rows e c j) at k (group P read out t v s)
    unfolding f_group group
    group_same out t v e c j at k s =
        let ms = group_of P.book t in
        rw (insts_same (λ u. starts P ms u || out u) ms (λ u. is_first ms u || out u) (e + 1) k (value v) 1 ms (at + field_size t v) (k + 1) s)
        (shut ms t v e c j at k (insts P (read (λ u. starts P ms u || out u)) ms (λ u. is_first ms u || out u) (value v) ms s))

    by_same : (out : ℕ → Bool) (e c j at k : ℕ) (g : Grab)
        → f_node_by P w fread out e c j at k g ≡ fill_of w (past_node past) (rows_node past rows e c j) at k (node_by P read out g)
    unfolding f_node_by node_by past_node rows_node
    by_same out e c j at k (fault n q) = refl
    by_same out e c j at k (got (single t v) r) = go (is_count P.book t) refl
      where
        go : (b : Bool) → is_count P.book t ≡ b → f_node_by P w fread out e c j at k (got (single t v) r) ≡ fill_of w (past_node past) (rows_node past rows e c j) at k (node_by P read out (got (single t v) r))
        go true p = rw p (group_same out t v e c j at k r)
        go false p = rw p
    by_same out e c j at k (got (pair l x d v) r) = refl

  module _ (rows : ℕ → ℕ → I → List Row) (read : (ℕ → Bool) → List ℕ → Out I) (fread : (ℕ → Bool) → ℕ → ℕ → List ℕ → Fill)
      (same : (out : ℕ → Bool) (at k : ℕ) (s : List ℕ) → fread out at k s ≡ fill_of w past rows at k (read out s)) where
    own_same : (f : ℕ) (seen : List ℕ) (at k : ℕ) (s : List ℕ) → f_own P w fread f seen at k s ≡ fill_of w (past_all past) (rows_all past rows) at k (own_list P read f seen s)
    unfolding f_own own_list
    own_same zero seen at k [] = ending_same rows (read (λ u. true)) (fread (λ u. true)) (same (λ u. true)) [] (λ u. true) (lacking P.book none P.own seen) at k
    own_same zero seen at k (b ∷ s) = refl
    own_same (suc f) seen at k [] = ending_same rows (read (λ u. true)) (fread (λ u. true)) (same (λ u. true)) [] (λ u. true) (lacking P.book none P.own seen) at k
    own_same (suc f) seen at k (b ∷ s) = go (starts P P.own x) refl (mem x seen) refl (λ a k r. own_same f (x ∷ seen) a k r)
      where
        x : ℕ
        x = peek (b ∷ s)

        out : ℕ → Bool
        out u = eqb u 0 || starts P P.own u

        go : (c : Bool) → starts P P.own x ≡ c → (d : Bool) → mem x seen ≡ d
            → ((a k : ℕ) (r : List ℕ) → f_own P w fread f (x ∷ seen) a k r ≡ fill_of w (past_all past) (rows_all past rows) a k (own_list P read f (x ∷ seen) r))
            → f_own P w fread (suc f) seen at k (b ∷ s) ≡ fill_of w (past_all past) (rows_all past rows) at k (own_list P read (suc f) seen (b ∷ s))
        go true p false q ih = rw (p, q, same out at k (b ∷ s)) (one_more rows (read out) (fread out) (same out) (read out (b ∷ s)) (λ i r. own_list P read f (x ∷ seen) r) (λ q a r. f_own P w fread f (x ∷ seen) a (k + length q) r) at k (λ y r. ih _ _ r))
        go true p true q ih = rw (p, q)
        go false p d q ih = rw p (refuse_same P w (past_all past) (rows_all past rows) [] [] false at k (b ∷ s) (unfold mem in refl))

pub item_same : (P : Page) (w d : ℕ) (out : ℕ → Bool) (e c j at k : ℕ) (s : List ℕ) → f_item P w d out e c j at k s ≡ fill_of w (past_item d) (rows_item d e c j) at k (read_item P d out s)
unfolding f_item read_item past_item rows_item
item_same P w zero out e c j at k s = refl
item_same P w (suc d) out e c j at k s = by_same P w (past_item d) (rows_item d) (read_item P d) (f_item P w d) (item_same P w d) out e c j at k (grab P.book s)

read_items_is : (P : Page) (s : List ℕ) → read_items P s ≡ own_list P (read_item P 5) (length s) [] s
unfolding read_items
read_items_is P s = refl

pub items_same : (P : Page) (w at k : ℕ) (s : List ℕ) → f_items P w at k s ≡ fill_of w (past_all (past_item 5)) (rows_all (past_item 5) (rows_item 5 0 0 0)) at k (read_items P s)
unfolding f_items
items_same P w at k s =
    own_same P w (past_item 5) (rows_item 5 0 0 0) (read_item P 5) (λ out at k. f_item P w 5 out 0 0 0 at k) (λ out at k s. item_same P w 5 out 0 0 0 at k s) (length s) [] at k s
    ∙ ap (fill_of w (past_all (past_item 5)) (rows_all (past_item 5) (rows_item 5 0 0 0)) at k) (sym (read_items_is P s))
