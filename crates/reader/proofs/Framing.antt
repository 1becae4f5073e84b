-- Laws of the frame: what is known behind each of its steps. Assumes nothing.
use mathlib.Core.Path.{◌≡◌, refl, sym, ap, ◌∙◌}
use mathlib.Core.Bool.{Bool, true, false, cond, ◌&&◌, ◌||◌}
use mathlib.Core.List.{List, [], ◌∷◌, ◌++◌, append_assoc}
use native.Mathlib.Nat.{sub-zero, zero-sub}
use Prim.Native.Nat.{ℕ, zero, suc, ◌+◌, ◌-◌, ◌%◌, ◌≤◌}
use native.Mathlib.Omega.{arith}
use borrow.Author.Tests.{eqb-true, eq-eqb, ne_eqb, leb-true}
use lib.Dec.{eqb, leb}
use lib.ListN.{length, take, drop, length-drop, length-take, length-append, take-append-drop}
use lib.Seq.{drop-drop, drop-nil, take-nil, take-take, take_at}
use denote.Bor.{Bor}
use Rattle.std.specs.Prelude.{Option, Some, None, Result, Err, MatchOption}
use Rattle.std.specs.Bool.{then_some}
use Rattle.std.specs.Option.{ok_or}
use Rattle.std.specs.Result.{IsErrAnd}
use Rattle.std.specs.Cmp.Lexicographic.{pointwise}
use Rattle.std.proofs.lemmas.Result.{err_from_is_err_and}
use Rattle.reader.specs.declared.refusal.Refused.{Refused}
use Rattle.numbers.specs.Bytes.{same, some, total}
use Rattle.numbers.specs.Decimal.{digits, value}
use Rattle.numbers.proofs.Tests.{and_left, and_right}
use Rattle.book.specs.Records.{Record, LookUp, nothing, found, message_of, is_found, members_in}
use Rattle.message.specs.Written.{header}
use Rattle.message.specs.Permitted.{versions, among}
use Rattle.reader.specs.Fields.{Cut, uncut, cut_at}
use Rattle.reader.specs.Frame.{framed, misframed, field, listed_as, type_of, sum_of, count_of, version_of, frame}
use Rattle.reader.specs.Answers.{value_in, cut_in, is_closing, Ends}
use Rattle.reader.proofs.Cuts.{field_parts, Left, field_left}

eqb_swap : (a b : ℕ) → eqb a b ≡ eqb b a
eqb_swap a b = go (eqb a b) refl
  where
    go : (t : Bool) → eqb a b ≡ t → t ≡ eqb b a
    go true e = sym (eq-eqb b a (sym (eqb-true a b e)))
    go false e = sym (ne_eqb b a (λ q. let z : true ≡ false = sym (eq-eqb a b (sym q)) ∙ e in cc))

-- the test of two texts, the other way round
same_swap : (s t : List ℕ) → pointwise eqb t s ≡ same s t
unfolding same
same_swap [] [] = refl
same_swap [] (b ∷ t) = refl
same_swap (a ∷ s) [] = refl
same_swap (a ∷ s) (b ∷ t) = rw (eqb_swap b a, same_swap s t)

pub version_is : (w : List ℕ)
    → (pointwise eqb (70 ∷ 73 ∷ 88 ∷ 46 ∷ 52 ∷ 46 ∷ 50 ∷ []) w
    || (pointwise eqb (70 ∷ 73 ∷ 88 ∷ 46 ∷ 52 ∷ 46 ∷ 52 ∷ []) w || (pointwise eqb (70 ∷ 73 ∷ 88 ∷ 84 ∷ 46 ∷ 49 ∷ 46 ∷ 49 ∷ []) w || false)))
    ≡ among w versions
unfolding among versions
version_is w =
    rw (same_swap w (70 ∷ 73 ∷ 88 ∷ 46 ∷ 52 ∷ 46 ∷ 50 ∷ []), same_swap w (70 ∷ 73 ∷ 88 ∷ 46 ∷ 52 ∷ 46 ∷ 52 ∷ []), same_swap w (70 ∷ 73 ∷ 88 ∷ 84 ∷ 46 ∷ 49 ∷ 46 ∷ 49 ∷ []))

-- a cut whose value and rest pass a test
abbrev pub kept : (List ℕ → List ℕ → Bool) → Cut → Cut
kept good uncut = uncut
kept good (cut_at v r) = cond (good v r) (cut_at v r) uncut

pub kept_some : (good : List ℕ → List ℕ → Bool) (c : Cut) (v r : List ℕ) → kept good c ≡ cut_at v r → (c ≡ cut_at v r) × (good v r ≡ true)
kept_some good uncut v r e = cc
kept_some good (cut_at w q) v r e = go (good w q) refl
  where
    go : (t : Bool) → good w q ≡ t → (cut_at w q ≡ cut_at v r) × (good v r ≡ true)
    go true h =
        let k : cut_at w q ≡ cut_at v r = rw h at e in
        let a : w ≡ v = cc in
        let b : q ≡ r = cc in
        (k, rw (← a, ← b) h)
    go false h = let z : uncut ≡ cut_at v r = rw h at e in cc

pub kept_none : (good : List ℕ → List ℕ → Bool) (v r : List ℕ) → kept good (cut_at v r) ≡ uncut → good v r ≡ false
kept_none good v r e = go (good v r) refl
  where
    go : (t : Bool) → good v r ≡ t → good v r ≡ false
    go true h = let z : cut_at v r ≡ uncut = rw h at e in cc
    go false h = h

pub drop_take : (b n : ℕ) (s : List ℕ) → drop b (take n s) ≡ take (n - b) (drop b s)
drop_take zero n s = rw sub-zero
drop_take (suc b) zero s = rw (drop-nil (suc b), zero-sub)
drop_take (suc b) (suc n) [] = rw (take-nil (suc n - suc b))
drop_take (suc b) (suc n) (x ∷ s) = let e : suc n - suc b ≡ n - b = omega arith in rw e (drop_take b n s)

header_more : (W N x y : List ℕ) → header W N (x ++ y) ≡ header W N x ++ y
header_more W N x y =
    ap (λ l. 56 ∷ 61 ∷ (W ++ (1 ∷ 57 ∷ 61 ∷ l))) (sym (append_assoc N (1 ∷ x) y))
    ∙ ap (λ l. 56 ∷ 61 ∷ l) (sym (append_assoc W (1 ∷ 57 ∷ 61 ∷ (N ++ (1 ∷ x))) y))

-- the tests on the four fields, by value and rest
abbrev pub is_version : List ℕ → List ℕ → Bool
is_version v r = among v versions

abbrev pub is_count : List ℕ → List ℕ → Bool
is_count v r = some v && digits v && leb 7 (length r) && eqb (value v) (length r - 7)

abbrev pub is_last : List ℕ → List ℕ → Bool
is_last v r = is_closing (cut_at v r)

abbrev pub is_listed : List Record → List ℕ → List ℕ → Bool
is_listed B v r = some v && is_found (message_of B v)

frame_is : (B : List Record) (s : List ℕ) → frame B s ≡ version_of B s (field (56 ∷ 61 ∷ []) s)
unfolding frame
frame_is B s = refl

-- field 10 ends the message: three digits
module _ (B : List Record) (w W N F z : List ℕ) where
  last_some : (t : List ℕ) → is_last z t ≡ true
      → sum_of B w W N F (cut_at z t) ≡ cond (eqb (value z) (total (header W N F) % 256)) (type_of B (F ++ w) W N z (field (51 ∷ 53 ∷ 61 ∷ []) F)) (misframed 6 w)
  unfolding sum_of
  last_some [] e = rw e
  last_some (x ∷ t) e = cc

last_three : (z t : List ℕ) → is_last z t ≡ true → length z ≡ 3
last_three z [] e = eqb-true (length z) 3 (and_left (eqb (length z) 3) (digits z) e)
last_three z (x ∷ t) e = cc

-- a type that the book lists
listed_none : (B : List Record) (s W N z T u : List ℕ) (k : LookUp) → (some T && is_found k) ≡ false → cond (some T) (listed_as B s W N z T u k) (misframed 7 s) ≡ misframed 7 s
unfolding listed_as
listed_none B s W N z T u nothing e = go (some T)
  where
    go : (t : Bool) → cond t (misframed 7 s) (misframed 7 s) ≡ misframed 7 s
    go true = refl
    go false = refl
listed_none B s W N z T u (found r) e = go (some T) e
  where
    go : (t : Bool) → (t && true) ≡ false → cond t (listed_as B s W N z T u (found r)) (misframed 7 s) ≡ misframed 7 s
    go true h = cc
    go false h = refl

listed_some : (B : List Record) (s W N z T u : List ℕ) (k : LookUp) → (some T && is_found k) ≡ true
    → cond (some T) (listed_as B s W N z T u k) (misframed 7 s) ≡ framed W N T (record { book = B; own = members_in k }) u z
unfolding listed_as
listed_some B s W N z T u nothing e = let h : false ≡ true = and_right (some T) false e in cc
listed_some B s W N z T u (found r) e = rw (and_left (some T) true e)

type_none : (B : List Record) (s W N z : List ℕ) (c : Cut) → kept (is_listed B) c ≡ uncut → type_of B s W N z c ≡ misframed 7 s
unfolding type_of
type_none B s W N z uncut e = refl
type_none B s W N z (cut_at T u) e = listed_none B s W N z T u (message_of B T) (kept_none (is_listed B) T u e)

type_some : (B : List Record) (s W N z T u : List ℕ) → is_listed B T u ≡ true → type_of B s W N z (cut_at T u) ≡ framed W N T (record { book = B; own = members_in (message_of B T) }) u z
unfolding type_of
type_some B s W N z T u e = listed_some B s W N z T u (message_of B T) e

-- 3
version_none : (B : List Record) (s : List ℕ) (c : Cut) → kept is_version c ≡ uncut → version_of B s c ≡ misframed 3 s
unfolding version_of
version_none B s uncut e = refl
version_none B s (cut_at v r) e = rw (kept_none is_version v r e)

module _ (B : List Record) (s : List ℕ) where
  pub version_bad : kept is_version (field (56 ∷ 61 ∷ []) s) ≡ uncut → misframed 3 s ≡ frame B s
  version_bad e = sym (frame_is B s ∙ version_none B s (field (56 ∷ 61 ∷ []) s) e)

  -- behind it: W, and what is left
  module _ (W r : List ℕ) (e8 : kept is_version (field (56 ∷ 61 ∷ []) s) ≡ cut_at W r) where
    cut_8 : (field (56 ∷ 61 ∷ []) s ≡ cut_at W r) × (among W versions ≡ true)
    cut_8 = kept_some is_version (field (56 ∷ 61 ∷ []) s) W r e8

    whole_8 : 56 ∷ 61 ∷ (W ++ (1 ∷ r)) ≡ s
    whole_8 = field_parts (56 ∷ 61 ∷ []) s W r cut_8.0

    pub left_8 : Left s 2 W r
    left_8 = field_left s s (56 ∷ 61 ∷ []) W r 0 refl (omega arith) whole_8

    frame_8 : frame B s ≡ count_of B r W (field (57 ∷ 61 ∷ []) r)
    unfolding version_of
    frame_8 = frame_is B s ∙ ap (version_of B s) cut_8.0 ∙ rw cut_8.1

    -- 4
    count_none : (c : Cut) → kept is_count c ≡ uncut → count_of B r W c ≡ misframed 4 r
    unfolding count_of
    count_none uncut e = refl
    count_none (cut_at v q) e = rw (kept_none is_count v q e)

    pub count_bad : kept is_count (field (57 ∷ 61 ∷ []) r) ≡ uncut → misframed 4 (drop (length s - length r) s) ≡ frame B s
    count_bad e = sym (frame_8 ∙ count_none (field (57 ∷ 61 ∷ []) r) e ∙ rw left_8.rest)

    -- behind it: N, and what is left
    module _ (N q : List ℕ) (e9 : kept is_count (field (57 ∷ 61 ∷ []) r) ≡ cut_at N q) where
      cut_9 : (field (57 ∷ 61 ∷ []) r ≡ cut_at N q) × (is_count N q ≡ true)
      cut_9 = kept_some is_count (field (57 ∷ 61 ∷ []) r) N q e9

      whole_9 : 57 ∷ 61 ∷ (N ++ (1 ∷ q)) ≡ r
      whole_9 = field_parts (57 ∷ 61 ∷ []) r N q cut_9.0

      pub left_9 : Left s (length s - length r + 2) N q
      left_9 = field_left s r (57 ∷ 61 ∷ []) N q (length s - length r) (sym left_8.rest) (omega arith) whole_9

      pub room : 7 ≤ length q
      room = leb-true 7 (length q) (and_right (some N && digits N) _ (and_left _ _ cut_9.1))

      place : length s - length q + (length q - 7) ≡ length s - 7
      place = omega (arith, room, left_9.inside)

      pub tail_is : drop (length q - 7) q ≡ drop (length s - 7) s
      tail_is = sym (ap (drop (length q - 7)) left_9.rest) ∙ drop-drop (length q - 7) (length s - length q) s ∙ rw place

      frame_9 : frame B s ≡ sum_of B (drop (length q - 7) q) W N (take (length q - 7) q) (field (49 ∷ 48 ∷ 61 ∷ []) (drop (length q - 7) q))
      unfolding count_of
      frame_9 = frame_8 ∙ ap (count_of B r W) cut_9.0 ∙ rw cut_9.1

      -- the bytes that are summed
      head_9 : header W N (take (length q - 7) q) ≡ take (length s - 7) s
      head_9 =
          let F = take (length q - 7) q in
          let R = drop (length q - 7) q in
          let w : header W N F ++ R ≡ s =
          sym (header_more W N F R) ∙ ap (header W N) (take-append-drop (length q - 7) q) ∙ ap (λ l. 56 ∷ 61 ∷ (W ++ (1 ∷ l))) whole_9 ∙ whole_8 in
          let l : length (header W N F) + length R ≡ length s = sym (length-append (header W N F) R) ∙ ap length w in
          let k : length (header W N F) ≡ length s - 7 = omega (arith, l, length-drop (length q - 7) q, room, left_9.inside) in
          sym (take_at (header W N F) R (length s - 7) k) ∙ ap (take (length s - 7)) w

      -- 5
      last_none : (c : Cut) → kept is_last c ≡ uncut → sum_of B (drop (length q - 7) q) W N (take (length q - 7) q) c ≡ misframed 5 (drop (length q - 7) q)
      unfolding sum_of
      last_none uncut e = refl
      last_none (cut_at v []) e = rw (kept_none is_last v [] e)
      last_none (cut_at v (x ∷ t)) e = refl

      pub last_bad : kept is_last (field (49 ∷ 48 ∷ 61 ∷ []) (drop (length q - 7) q)) ≡ uncut → misframed 5 (drop (length s - 7) s) ≡ frame B s
      last_bad e = sym (frame_9 ∙ last_none (field (49 ∷ 48 ∷ 61 ∷ []) (drop (length q - 7) q)) e ∙ rw tail_is)

      -- behind it: ddd
      module _ (z t : List ℕ) (e10 : kept is_last (field (49 ∷ 48 ∷ 61 ∷ []) (drop (length q - 7) q)) ≡ cut_at z t) where
        cut_10 : (field (49 ∷ 48 ∷ 61 ∷ []) (drop (length q - 7) q) ≡ cut_at z t) × (is_last z t ≡ true)
        cut_10 = kept_some is_last (field (49 ∷ 48 ∷ 61 ∷ []) (drop (length q - 7) q)) z t e10

        frame_10 : frame B s
            ≡ cond (eqb (value z) (total (take (length s - 7) s) % 256))
            (type_of B q W N z (field (51 ∷ 53 ∷ 61 ∷ []) (take (length q - 7) q)))
            (misframed 6 (drop (length q - 7) q))
        frame_10 =
            frame_9
            ∙ ap (sum_of B (drop (length q - 7) q) W N (take (length q - 7) q)) cut_10.0
            ∙ last_some B (drop (length q - 7) q) W N (take (length q - 7) q) z t cut_10.1
            ∙ rw (head_9, take-append-drop (length q - 7) q)

        sum_is : take 3 (drop (length s - 4) s) ≡ z
        sum_is =
            let k : length s - 7 + 3 ≡ length s - 4 = omega (arith, room, left_9.inside) in
            let w : 49 ∷ 48 ∷ 61 ∷ (z ++ (1 ∷ t)) ≡ drop (length q - 7) q = field_parts (49 ∷ 48 ∷ 61 ∷ []) (drop (length q - 7) q) z t cut_10.0 in
            let d : drop (length s - 4) s ≡ z ++ (1 ∷ t) = rw (← k, ← drop-drop 3 (length s - 7) s, ← tail_is, ← w) in
            rw d (take_at z (1 ∷ t) 3 (last_three z t cut_10.1))

        -- 6
        pub sum_bad : eqb (value z) (total (take (length s - 7) s) % 256) ≡ false → misframed 6 (drop (length s - 7) s) ≡ frame B s
        sum_bad e = sym (frame_10 ∙ rw (e, tail_is))

        module _ (es : eqb (value z) (total (take (length s - 7) s) % 256) ≡ true) where
          frame_11 : frame B s ≡ type_of B q W N z (field (51 ∷ 53 ∷ 61 ∷ []) (take (length q - 7) q))
          frame_11 = frame_10 ∙ rw es

          -- 7
          pub type_bad : kept (is_listed B) (field (51 ∷ 53 ∷ 61 ∷ []) (take (length q - 7) q)) ≡ uncut → misframed 7 (drop (length s - length q) s) ≡ frame B s
          type_bad e = sym (frame_11 ∙ type_none B q W N z (field (51 ∷ 53 ∷ 61 ∷ []) (take (length q - 7) q)) e ∙ rw left_9.rest)

          module _ (T u : List ℕ) (e35 : kept (is_listed B) (field (51 ∷ 53 ∷ 61 ∷ []) (take (length q - 7) q)) ≡ cut_at T u) where
            cut_35 : (field (51 ∷ 53 ∷ 61 ∷ []) (take (length q - 7) q) ≡ cut_at T u) × (is_listed B T u ≡ true)
            cut_35 = kept_some (is_listed B) (field (51 ∷ 53 ∷ 61 ∷ []) (take (length q - 7) q)) T u e35

            front_is : take (length q - 7) q ≡ drop (length s - length q) (take (length s - 7) s)
            front_is =
                let k : length s - 7 - (length s - length q) ≡ length q - 7 = omega (arith, room, left_9.inside) in
                sym (drop_take (length s - length q) (length s - 7) s ∙ rw (k, left_9.rest))

            size : length (take (length s - 7) s) ≡ length s - 7
            size = omega (arith, length-take (length s - 7) s)

            left_35 : Left (take (length s - 7) s) (length s - length q + 3) T u
            left_35 =
                field_left (take (length s - 7) s) (take (length q - 7) q) (51 ∷ 53 ∷ 61 ∷ []) T u (length s - length q) front_is (omega (arith, size, room, left_9.inside))
                (field_parts (51 ∷ 53 ∷ 61 ∷ []) (take (length q - 7) q) T u cut_35.0)

            pub inside : length u ≤ length s - 7
            inside = omega (arith, size, left_35.inside)

            type_is : value_in s (length s - length q + 3) (length s - 7 - length u) ≡ T
            type_is =
                let k : length s - 7 - length u - 1 - (length s - length q + 3) ≤ length s - 7 - (length s - length q + 3) = omega arith in
                sym (rw (drop_take (length s - length q + 3) (length s - 7) s, take-take (length s - 7 - length u - 1 - (length s - length q + 3)) (length s - 7 - (length s - length q + 3)) (drop (length s - length q + 3) s) k))
                ∙ rw size at left_35.value

            body_is : take (length s - 7 - (length s - 7 - length u)) (drop (length s - 7 - length u) s) ≡ u
            body_is = sym (drop_take (length s - 7 - length u) (length s - 7) s) ∙ rw size at left_35.rest

            pub frame_good : framed (value_in s 2 (length s - length r)) (value_in s (length s - length r + 2) (length s - length q))
                (value_in s (length s - length q + 3) (length s - 7 - length u))
                (record { book = B; own = members_in (message_of B (value_in s (length s - length q + 3) (length s - 7 - length u))) })
                (take (length s - 7 - (length s - 7 - length u)) (drop (length s - 7 - length u) s)) (take 3 (drop (length s - 4) s)) ≡ frame B s
            frame_good =
                rw (left_8.value, left_9.value, type_is, body_is, sum_is)
                (sym (frame_11 ∙ ap (type_of B q W N z) cut_35.0 ∙ type_some B q W N z T u cut_35.1))

            pub ends : Ends s (length s - length r) (length s - length q) (length s - 7 - length u)
            ends = record {
              version = left_8.past;
              count = omega (arith, left_9.past);
              type = omega (arith, size, left_35.past);
              close = omega (arith, room, left_9.inside);
            }

-- a field that `filter` kept, or did not
filtered : (good : List ℕ → List ℕ → Bool) (Gives : Bor (List ℕ) × Bor (List ℕ) → Bool → Type 0) (o r : Option (Bor (List ℕ) × Bor (List ℕ)))
    → MatchOption o (r ≡ None) (λ p. (b : Bool) × Gives p b × (r ≡ then_some b p))
    → ((p : Bor (List ℕ) × Bor (List ℕ)) (b : Bool) → Gives p b → b ≡ good p.0.now p.1.now)
    → kept good (cut_in o) ≡ cut_in r
filtered good Gives None r f g = rw f
filtered good Gives (Some p) r (b, h, f) g = rw (f, ← g p b h) (go b)
  where
    go : (b : Bool) → cond b (cut_at p.0.now p.1.now) uncut ≡ cut_in (then_some b p)
    go true = refl
    go false = refl

module _ (good : List ℕ → List ℕ → Bool) (Gives : Bor (List ℕ) × Bor (List ℕ) → Bool → Type 0) (c : Cut) (o r : Option (Bor (List ℕ) × Bor (List ℕ)))
    (e : cut_in o ≡ c)
    (f : MatchOption o (r ≡ None) (λ p. (b : Bool) × Gives p b × (r ≡ then_some b p)))
    (g : (p : Bor (List ℕ) × Bor (List ℕ)) (b : Bool) → Gives p b → b ≡ good p.0.now p.1.now)
  where
    pub passed : (p : Bor (List ℕ) × Bor (List ℕ)) → r ≡ Some p → kept good c ≡ cut_at p.0.now p.1.now
    passed p h = ap (kept good) (sym e) ∙ filtered good Gives o r f g ∙ ap cut_in h

    pub failed : r ≡ None → kept good c ≡ uncut
    failed h = ap (kept good) (sym e) ∙ filtered good Gives o r f g ∙ ap cut_in h

-- a refusal handed on by `?`
pub refused : {X Y : Type 0} (o : Option X) (r : Result Y Refused) (e f : Refused) → ◌≡◌ {A = Result X Refused} (Err e) (ok_or o f) → o ≡ None → IsErrAnd r (λ y. y ≡ e) → r ≡ Err f
refused {X} o r e f v n a =
    let p = err_from_is_err_and r a in
    let k : ◌≡◌ {A = Result X Refused} (Err e) (Err f) = rw n at v in
    let q : e ≡ f = cc in
    p.1 ∙ ap (λ y. Err y) (p.2 ∙ q)

-- a refusal's place
pub place_is : (s : List ℕ) (p : ℕ) → p ≤ length s → length s - length (drop p s) ≡ p
place_is s p h = rw (length-drop p s) (omega (arith, h))
