-- Laws of the whole reading: what was counted and put down, against the answer. Assumes nothing.
use mathlib.Core.Path.{◌≡◌, refl, ap, ◌∙◌}
use mathlib.Core.Bool.{Bool, true, false, cond}
use mathlib.Core.List.{List, [], ◌∷◌, ◌++◌}
use Prim.Native.Nat.{ℕ, zero, suc, ◌+◌, ◌-◌, ◌≤◌}
use native.Mathlib.Omega.{arith}
use borrow.Author.Tests.{eq-eqb}
use lib.Dec.{eqb}
use lib.ListN.{length, length-take, length-drop, take, drop}
use Rattle.std.specs.Prelude.{Result, Ok, Err}
use Rattle.numbers.specs.Bytes.{le16}
use Rattle.book.specs.Records.{Record, member_bytes, record_at, size, walk_from, records, look_up, members_in, message_of, is_message}
use Rattle.book.proofs.Members.{members_count}
use Rattle.message.specs.Arrangement.{Items, Page}
use Rattle.message.specs.Rows.{Row}
use Rattle.reader.specs.declared.Step.{Step}
use Rattle.reader.specs.declared.Step.TheVariants.{Done, Ask}
use Rattle.reader.specs.declared.Framed as Code
use Rattle.reader.specs.declared.refusal.Refused.{Refused}
use Rattle.reader.specs.Refusals.{number, tag_of}
use Rattle.reader.specs.Fields.{peek}
use Rattle.reader.specs.Items.{Out, done, bad, late, read_items}
use Rattle.reader.specs.Filling.{Fill, full, poor, ask, late_fill, before, next, f_items}
use Rattle.reader.specs.Met.{Refuses, Meets}
use Rattle.reader.specs.Rowed.{head_rows, closing_row, f_message, item_rows, past, all_rows, Counts}
use Rattle.reader.proofs.ListLaws.{records_walk}
use Rattle.reader.proofs.Filled.{items_same}

-- a record of the book has no more members than the book has room for
part_few : (n k : ℕ) (s : List ℕ) → length (take n (drop k s)) ≤ length s
part_few n k s = rw (length-take n (drop k s), length-drop k s) (omega arith)

bytes_few : (n k : ℕ) (s : List ℕ) → length (member_bytes n k s) ≤ length s
bytes_few n k s = go (eqb k 2) refl
  where
    go : (b : Bool) → eqb k 2 ≡ b → length (member_bytes n k s) ≤ length s
    go true e = rw e (part_few (n - 6) 8 s)
    go false e = rw e (part_few (n - 4) 6 s)

few_at : (at : ℕ) (s : List ℕ) → length s ≤ 16384 → length (record_at at s).members ≤ 4096
unfolding record_at
few_at at s h =
    let n = le16 s in
    let k = le16 (drop 2 s) in
    omega (arith, members_count (member_bytes n k s), bytes_few n k s, h)

few_from : (is : Record → Bool) (f at : ℕ) (s : List ℕ) → length s ≤ 16384 → length (members_in (look_up is (walk_from (λ at. []) (λ at r rs. record_at at r ∷ rs) f at s))) ≤ 4096
unfolding walk_from look_up
few_from is zero at s h = omega arith
few_from is (suc f) at s h = go (eqb (size s) 0) refl (is (record_at at s)) refl (few_from is f (at + size s) (drop (size s) s) (rw (length-drop (size s) s) (omega (arith, h))))
  where
    go : (b : Bool) → eqb (size s) 0 ≡ b → (c : Bool) → is (record_at at s) ≡ c
        → length (members_in (look_up is (walk_from (λ at. []) (λ at r rs. record_at at r ∷ rs) f (at + size s) (drop (size s) s)))) ≤ 4096
        → length (members_in (look_up is (cond (eqb (size s) 0) [] (record_at at s ∷ walk_from (λ at. []) (λ at r rs. record_at at r ∷ rs) f (at + size s) (drop (size s) s))))) ≤ 4096
    go true e c q ih = rw e (omega arith)
    go false e true q ih = rw (e, q) (few_at at s h)
    go false e false q ih = rw (e, q) ih

pub few : (b x : List ℕ) → length b ≤ 16384 → length (members_in (message_of (records b) x)) ≤ 4096
unfolding message_of
few b x h = rw (records_walk b) (few_from (is_message x) (length b) 0 b h)

abbrev pub is_ask : Fill → Bool
is_ask (full q a r) = false
is_ask (poor n t s) = false
is_ask (ask t) = true

refuses_err : (n t p : ℕ) (x : Result Step Refused) → Refuses n t p x → (e : Refused) × (x ≡ Err e) × (number e.why ≡ n) × (tag_of e.why ≡ t) × (e.at ≡ p)
refuses_err n t p (Ok x) h = absurd h
refuses_err n t p (Err e) (a, b, c) = (e, refl, a, b, c)

-- what was read, as rows
module _ (P : Page) (f : Code.Framed) (m : List ℕ) where
  abbrev Read : Out Items
  Read = read_items P (drop f.type_end m)

  module _ (w : ℕ) where
    items_full : (a : Items) (r : List ℕ) → Read ≡ done a r → f_items P w f.type_end 3 (drop f.type_end m) ≡ full (item_rows f.type_end a) (past f.type_end a) r
    items_full a r e = items_same P w f.type_end 3 (drop f.type_end m) ∙ rw e

    items_poor : (n t : ℕ) (r : List ℕ) → Read ≡ bad n t r → f_items P w f.type_end 3 (drop f.type_end m) ≡ poor n t r
    items_poor n t r e = items_same P w f.type_end 3 (drop f.type_end m) ∙ rw e

    items_late : (b : Bool) (r : List ℕ) → Read ≡ late b r → f_items P w f.type_end 3 (drop f.type_end m) ≡ late_fill w b r
    items_late b r e = items_same P w f.type_end 3 (drop f.type_end m) ∙ rw e

    abbrev Laid : Fill → Fill
    Laid F = before (head_rows f) (next F (λ q a r. full (closing_row a ∷ []) a r))

    laid_full : (q : List Row) (a : ℕ) (r : List ℕ) → Laid (full q a r) ≡ full (head_rows f ++ (q ++ (closing_row a ∷ []))) a r
    unfolding next before
    laid_full q a r = refl

    laid_poor : (n t : ℕ) (r : List ℕ) → Laid (poor n t r) ≡ poor n t r
    unfolding next before
    laid_poor n t r = refl

    laid_ask : (t : ℕ) → Laid (ask t) ≡ ask t
    unfolding next before
    laid_ask t = refl

    pub message_full : (a : Items) (r : List ℕ) → Read ≡ done a r → f_message P w f m ≡ full (all_rows f a) (past f.type_end a) r
    message_full a r e = ap Laid (items_full a r e) ∙ laid_full (item_rows f.type_end a) (past f.type_end a) r

    message_poor : (n t : ℕ) (r : List ℕ) → Read ≡ bad n t r → f_message P w f m ≡ poor n t r
    message_poor n t r e = ap Laid (items_poor n t r e) ∙ laid_poor n t r

    message_late : (b : Bool) (r : List ℕ) → Read ≡ late b r → eqb (peek r) w ≡ true → f_message P w f m ≡ poor (cond b 10 9) 0 r
    message_late b r e q = ap Laid (items_late b r e ∙ rw q) ∙ laid_poor (cond b 10 9) 0 r

    message_asks : (b : Bool) (r : List ℕ) → Read ≡ late b r → eqb (peek r) w ≡ false → f_message P w f m ≡ ask (peek r)
    message_asks b r e q = ap Laid (items_late b r e ∙ rw q) ∙ laid_ask (peek r)

  module _ (w : ℕ) where
    counts : (x : Result Step Refused) (i j b u : List ℕ) → Meets 0 m 0 0 (f_message P w f m) x i j b u
        → (y : Result ℕ Refused) → ((a n : ℕ) → x ≡ Ok (Done a n) → y ≡ Ok n) → ((e : Refused) → x ≡ Err e → y ≡ Err e) → ((t : ℕ) → x ≡ Ok (Ask t) → ⊥) → Counts m f Read y
    counts x i j b u M y fine wrong asks = go Read refl
      where
        put : (o : Out Items) → Read ≡ o → Counts m f o y → Counts m f Read y
        put o e h = rw e h

        go : (o : Out Items) → Read ≡ o → Counts m f Read y
        go (done a r) e =
            let k = rw (message_full w a r e) at M in
            let z : 0 + length (all_rows f a) ≡ length (all_rows f a) = omega arith in
            put (done a r) e (fine (past f.type_end a) (0 + length (all_rows f a)) k.0 ∙ ap Ok z)
        go (bad n t r) e =
            let k = rw (message_poor w n t r e) at M in
            let d = refuses_err n t k.0 x k.1 in
            put (bad n t r) e (k.0, rw (wrong d.0 d.1) (d.2, d.3, d.4), k.2, k.3)
        go (late b r) e = split (eqb (peek r) w) refl
          where
            split : (c : Bool) → eqb (peek r) w ≡ c → Counts m f Read y
            split true q =
                let k = rw (message_late w b r e q) at M in
                let d = refuses_err (cond b 10 9) 0 k.0 x k.1 in
                put (late b r) e (k.0, rw (wrong d.0 d.1) (d.2, d.3, d.4), k.2, k.3)
            split false q = absurd (asks (peek r) (rw (message_asks w b r e q) at M))

    pub counts_done : (a n : ℕ) (i j b u : List ℕ) → Meets 0 m 0 0 (f_message P w f m) (Ok (Done a n)) i j b u → Counts m f Read (Ok n)
    counts_done a n i j b u M = counts (Ok (Done a n)) i j b u M (Ok n) (λ a' n' e. let z : n ≡ n' = cc in ap Ok z) (λ e z. absurd (let y : ◌≡◌ {A = ℕ} 0 1 = cc in omega arith)) (λ t z. let y : ◌≡◌ {A = ℕ} 0 1 = cc in omega arith)

    pub counts_bad : (e : Refused) (i j b u : List ℕ) → Meets 0 m 0 0 (f_message P w f m) (Err e) i j b u → Counts m f Read (Err e)
    counts_bad e i j b u M = counts (Err e) i j b u M (Err e) (λ a n z. absurd (let y : ◌≡◌ {A = ℕ} 0 1 = cc in omega arith)) (λ d z. let y : e ≡ d = cc in ap Err y) (λ t z. let y : ◌≡◌ {A = ℕ} 0 1 = cc in omega arith)

    -- a late tag that was asked for is known in the next reading
    pub asked : (t : ℕ) (i j b u : List ℕ) → Meets 0 m 0 0 (f_message P w f m) (Ok (Ask t)) i j b u → (is_ask (f_message P w f m) ≡ true) × (is_ask (f_message P t f m) ≡ false)
    asked t i j b u M = go Read refl
      where
        go : (o : Out Items) → Read ≡ o → (is_ask (f_message P w f m) ≡ true) × (is_ask (f_message P t f m) ≡ false)
        go (done a r) e = let k = rw (message_full w a r e) at M in absurd (let y : ◌≡◌ {A = ℕ} 0 1 = cc in omega arith)
        go (bad n x r) e = let k = rw (message_poor w n x r e) at M in absurd k.1
        go (late c r) e = split (eqb (peek r) w) refl
          where
            split : (d : Bool) → eqb (peek r) w ≡ d → (is_ask (f_message P w f m) ≡ true) × (is_ask (f_message P t f m) ≡ false)
            split true q = let k = rw (message_late w c r e q) at M in absurd k.1
            split false q =
                let k = rw (message_asks w c r e q) at M in
                let z : t ≡ peek r = cc in
                (ap is_ask (message_asks w c r e q), ap is_ask (message_late t c r e (rw z (eq-eqb (peek r) (peek r) refl))))
