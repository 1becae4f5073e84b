-- Where the reading between 35 and 10 breaks off: at the beginning of a field, or at the end of the bytes. Of any book. Assumes nothing.
use mathlib.Core.Path.{◌≡◌, refl, sym, ap, ◌∙◌}
use mathlib.Core.Bool.{Bool, true, false, cond, ◌&&◌, ◌||◌}
use mathlib.Core.List.{List, [], ◌∷◌, ◌++◌}
use mathlib.Core.Logic.{◌⊎◌, inl, inr, ⊎_elim}
use Prim.Native.Nat.{ℕ, zero, suc, ◌≤◌}
use native.Mathlib.Omega.{arith}
use lib.Dec.{eqb, ltb}
use lib.ListN.{length, take, drop}
use Rattle.numbers.specs.Bytes.{some, mem}
use Rattle.numbers.specs.Decimal.{value, tag_form}
use Rattle.numbers.proofs.Tests.{and_left, and_right}
use Rattle.forms.specs.Types.{of_type}
use Rattle.book.specs.Records.{Record, Member, type_of, group_of, is_length, is_count, is_bounded, partner}
use Rattle.message.specs.Arrangement.{Piece, single, pair, Node, leaf, count, tag_of, Page}
use Rattle.message.specs.Written.{put_field, put, put_all, put_item}
use Rattle.message.specs.Permitted.{is_tag, good_value, good, fits, Miss, none, lacks, note, lacking, has_tag}
use Rattle.reader.specs.Fields.{torn, Cut, uncut, cut_at, cut, peek, Grab, got, fault, ended, data_of, valued, tagged, grab}
use Rattle.reader.specs.Items.{Out, done, bad, late, and_then, onto, is_first, has_place, starts, refuse, close, members, inst, insts, closed, group, node_by, read_item, ending, own_list, read_items}
use Rattle.bridge.specs.Refused.{good_pieces, Past, nothing, behind, put_due, Reaches, left_out, tags_onto, Lacks}
use Rattle.bridge.proofs.Sees.{cut_true, legal_tag, tag_put, grab_is, tagged_is, valued_is, data_is, grab_true}
use Rattle.bridge.proofs.Accepted.{tag_at, peek_item, item_true, reading_is}

-- pieces one after another
pieces_join : (B : List Record) (a b : List Piece) → good_pieces B a ≡ true → good_pieces B b ≡ true → good_pieces B (a ++ b) ≡ true
unfolding good_pieces
pieces_join B [] b p q = q
pieces_join B (k ∷ a) b p q = rw (and_left (good B k) _ p) (pieces_join B a b (and_right (good B k) _ p) q)

put_join : (a b : List Piece) (r : List ℕ) → put_all put (a ++ b) r ≡ put_all put a (put_all put b r)
unfolding put_all
put_join [] b r = refl
put_join (k ∷ a) b r = ap (put k) (put_join a b r)

-- over plain variables
two_runs : (a b : List Piece) (s q r : List ℕ) → s ≡ put_all put a q → q ≡ put_all put b r → s ≡ put_all put (a ++ b) r
two_runs a b s q r p e = p ∙ ap (put_all put a) e ∙ sym (put_join a b r)

module _ (B : List Record) where
  pub past_none : (s : List ℕ) → Past B s s
  unfolding good_pieces put_all
  past_none s = record { pieces = []; good = refl; is = refl }

  pub past_one : (s r : List ℕ) (k : Piece) → s ≡ put k r → good B k ≡ true → Past B s r
  unfolding good_pieces put_all
  past_one s r k e g = record { pieces = k ∷ []; good = rw g; is = e }

  pub past_then : (s q r : List ℕ) → Past B s q → Past B q r → Past B s r
  past_then s q r a b = record {
    pieces = a.pieces ++ b.pieces;
    good = pieces_join B a.pieces b.pieces a.good b.good;
    is = two_runs a.pieces b.pieces s q r a.is b.is;
  }

  pub reach_then : (s q r : List ℕ) → Past B s q → Reaches B q r → Reaches B s r
  reach_then s q r a b = record {
    pieces = a.pieces ++ b.pieces;
    good = pieces_join B a.pieces b.pieces a.good b.good;
    due = b.due;
    fine = b.fine;
    is = two_runs a.pieces b.pieces s q (put_due b.due r) a.is b.is;
  }

  pub reach_here : (s : List ℕ) → Reaches B s s
  unfolding good_pieces put_all
  reach_here s = record { pieces = []; good = refl; due = nothing; fine = refl; is = refl }

  pub past_reach : (s r : List ℕ) → Past B s r → Reaches B s r
  past_reach s r p = reach_then s r r p (reach_here r)

  reach_due : (s : List ℕ) (l : ℕ) (w r : List ℕ) → s ≡ put_field l w r → (good_value B l w && is_length B l) ≡ true → Reaches B s r
  unfolding good_pieces put_all
  reach_due s l w r e g = record { pieces = []; good = refl; due = behind l w; fine = g; is = e }

  -- a fault in one field, or in a pair
  abbrev Stays : List ℕ → Grab → Type 0
  Stays s (got k r) = Unit {0}
  Stays s (fault n q) = (q ≡ s) × (8 ≤ n) × (n ≤ 12)

  abbrev Faults : List ℕ → Grab → Type 0
  Faults s (got k r) = Unit {0}
  Faults s (fault n q) = Reaches B s q × (8 ≤ n) × (n ≤ 12)

  ended_stays : (l : ℕ) (w : List ℕ) (d : ℕ) (v s x : List ℕ) → Stays s (ended B l w d v s x)
  unfolding ended
  ended_stays l w d v s [] = (refl, (omega arith), (omega arith))
  ended_stays l w d v s (y ∷ r) = go (eqb y 1)
    where
      go : (b : Bool) → Stays s (cond b (got (pair l w d v) r) (fault 12 s))
      go true = tt
      go false = (refl, (omega arith), (omega arith))

  data_stays : (l : ℕ) (w s : List ℕ) (c : Cut) → Stays s (data_of B l w s c)
  data_stays l w s uncut = unfold data_of in go (some s)
    where
      go : (b : Bool) → Stays s (fault (cond b 8 12) s)
      go true = (refl, (omega arith), (omega arith))
      go false = (refl, (omega arith), (omega arith))
  data_stays l w s (cut_at d r) = rw (data_is B l w s d r) (go (tag_form d) (ltb (value d) 65536 && eqb (value d) (partner B l)) (eqb (value w) 0))
    where
      go : (a b c : Bool)
          → Stays s (cond a (cond b (cond c (fault 8 s) (ended B l w (value d) (take (value w) r) s (drop (value w) r))) (fault 12 s)) (fault 8 s))
      go false b c = (refl, (omega arith), (omega arith))
      go true false c = (refl, (omega arith), (omega arith))
      go true true true = (refl, (omega arith), (omega arith))
      go true true false = ended_stays l w (value d) (take (value w) r) s (drop (value w) r)

  due_faults : (s : List ℕ) (l : ℕ) (w x : List ℕ) (g : Grab) → s ≡ put_field l w x → (good_value B l w && is_length B l) ≡ true → Stays x g → Faults s g
  due_faults s l w x (got k r) e g h = tt
  due_faults s l w x (fault n q) e g h = (rw h.0 (reach_due s l w x e g), h.1, h.2)

  here_faults : (n : ℕ) (s : List ℕ) → 8 ≤ n → n ≤ 12 → Faults s (fault n s)
  here_faults n s a b = (reach_here s, a, b)

  valued_faults : (d s q : List ℕ) (c : Cut) → tag_form d ≡ true → is_tag (value d) ≡ true → s ≡ d ++ (61 ∷ q) → cut 1 q ≡ c → Faults s (valued B (value d) s c)
  valued_faults d s q uncut f ok es ec = unfold valued in here_faults 8 s (omega arith) (omega arith)
  valued_faults d s q (cut_at v x) f ok es ec = rw (valued_is B (value d) s v x) (go (some v) refl (of_type (type_of B (value d)) v) refl (is_length B (value d)) refl)
    where
      go : (a : Bool) → some v ≡ a → (b : Bool) → of_type (type_of B (value d)) v ≡ b → (c : Bool) → is_length B (value d) ≡ c
          → Faults s (cond a (cond b (cond c (data_of B (value d) v x (cut 61 x)) (got (single (value d) v) x)) (fault 11 s)) (fault 8 s))
      go false p b p₂ c p₃ = here_faults 8 s (omega arith) (omega arith)
      go true p false p₂ c p₃ = here_faults 11 s (omega arith) (omega arith)
      go true p true p₂ false p₃ = tt
      go true p true p₂ true p₃ =
          let w = cut_true 1 q v x ec in
          due_faults s (value d) v x (data_of B (value d) v x (cut 61 x)) (es ∙ tag_put d v q x f w.0) (rw (ok, p, w.1, p₂, p₃)) (data_stays (value d) v x (cut 61 x))

  tagged_faults : (s : List ℕ) (c : Cut) → cut 61 s ≡ c → Faults s (tagged B s c)
  tagged_faults s uncut ec = unfold tagged in here_faults 8 s (omega arith) (omega arith)
  tagged_faults s (cut_at d q) ec = rw (tagged_is B s d q) (go (tag_form d && ltb (value d) 65536) refl (is_bounded B (value d)))
    where
      go : (a : Bool) → (tag_form d && ltb (value d) 65536) ≡ a → (b : Bool) → Faults s (cond a (cond b (fault 12 s) (valued B (value d) s (cut 1 q))) (fault 8 s))
      go false p b = here_faults 8 s (omega arith) (omega arith)
      go true p true = here_faults 12 s (omega arith) (omega arith)
      go true p false =
          let f = and_left (tag_form d) _ p in
          valued_faults d s q (cut 1 q) f (legal_tag d f (and_right (tag_form d) _ p)) (cut_true 61 s d q ec).0 refl

  grab_faults : (s : List ℕ) → Faults s (grab B s)
  grab_faults s = rw (grab_is B s) (tagged_faults s (cut 61 s) refl)

-- what a refusal says: where it stands, its number, its tag; `Q` is what 14 says of tag and place
pub record Bad (B : List Record) (Q : ℕ → List ℕ → Type 0) (s : List ℕ) (n t : ℕ) (r : List ℕ) : Type 0 where
  pub reach : Reaches B s r
  pub low : 8 ≤ n
  pub high : n ≤ 14
  pub plain : (n ≡ 14 → ⊥) → t ≡ 0
  pub missing : n ≡ 14 → Q t r

abbrev pub Far : {X : Type 0} → List Record → (ℕ → List ℕ → Type 0) → List ℕ → Out X → Type 0
Far B Q s (done x r) = Past B s r
Far B Q s (bad n t r) = Bad B Q s n t r
Far B Q s (late there r) = Bad B Q s (cond there 10 9) 0 r

module _ (B : List Record) where
  -- a number but 14, at the bytes themselves
  here : (Q : ℕ → List ℕ → Type 0) (s : List ℕ) (n : ℕ) → 8 ≤ n → n ≤ 13 → Bad B Q s n 0 s
  here Q s n a b = record {
    reach = reach_here B s;
    low = a;
    high = omega (arith, b);
    plain = λ h. refl;
    missing = λ e. absurd (omega (arith, b, e));
  }

  -- read from further on
  far_shift : {X : Type 0} (Q R : ℕ → List ℕ → Type 0) (s q : List ℕ) (o : Out X) → Past B s q → ((t : ℕ) (r : List ℕ) → Q t r → R t r) → Far B Q q o → Far B R s o
  far_shift Q R s q (done x r) p f h = past_then B s q r p h
  far_shift Q R s q (bad n t r) p f h = record {
    reach = reach_then B s q r p h.reach;
    low = h.low;
    high = h.high;
    plain = h.plain;
    missing = λ e. f t r (h.missing e);
  }
  far_shift Q R s q (late there r) p f h = record {
    reach = reach_then B s q r p h.reach;
    low = h.low;
    high = h.high;
    plain = h.plain;
    missing = λ e. f 0 r (h.missing e);
  }

  far_onto : {X : Type 0} (Q : ℕ → List ℕ → Type 0) (s : List ℕ) (x : X) (o : Out (List X)) → Far B Q s o → Far B Q s (onto x o)
  unfolding onto
  far_onto Q s x (done l r) h = h
  far_onto Q s x (bad n t r) h = h
  far_onto Q s x (late there r) h = h

  late_here : (Q : ℕ → List ℕ → Type 0) (s : List ℕ) (there : Bool) → Bad B Q s (cond there 10 9) 0 s
  late_here Q s true = here Q s 10 (omega arith) (omega arith)
  late_here Q s false = here Q s 9 (omega arith) (omega arith)

refuse_far : (X : Type 0) (P : Page) (Q : ℕ → List ℕ → Type 0) (all : List Member) (seen s : List ℕ) → Far {X = X} P.book Q s (refuse P all seen s)
unfolding refuse
refuse_far X P Q all seen s = go (eqb (peek s) torn) (is_bounded P.book (peek s)) (has_place P (peek s)) (has_tag (peek s) all)
  where
    go : (a b c d : Bool)
        → Far {X = X} P.book Q s
        (cond a (bad 8 0 s) (cond b (cond c (bad 12 0 s) (cond d (late (mem (peek s) seen) s) (bad 9 0 s))) (cond d (late (mem (peek s) seen) s) (bad 9 0 s))))
    go true b c d = here P.book Q s 8 (omega arith) (omega arith)
    go false true true d = here P.book Q s 12 (omega arith) (omega arith)
    go false true false true = late_here P.book Q s (mem (peek s) seen)
    go false true false false = here P.book Q s 9 (omega arith) (omega arith)
    go false false c true = late_here P.book Q s (mem (peek s) seen)
    go false false c false = here P.book Q s 9 (omega arith) (omega arith)

-- one level, over the one below. `Q s` is what 14 says of a reading from s on
module _ (P : Page) (Q : List ℕ → ℕ → List ℕ → Type 0) (further : (s q r : List ℕ) (t : ℕ) → Past P.book s q → Q q t r → Q s t r)
    {I : Type 0} (tag : I → ℕ) (fits : I → Bool) (write : I → List ℕ → List ℕ)
    (begins : (i : I) (r : List ℕ) → fits i ≡ true → peek (write i r) ≡ tag i) where
  -- a list of items that ends in a place, and leaves out t
  record Rest (x : Miss) (ms : List Member) (s : List ℕ) (t : ℕ) (r : List ℕ) : Type 0 where
    items : List I
    is : s ≡ put_all write items r
    lack : left_out P.book tag x ms items ≡ lacks t
    first : (i : I) (l : List I) → items ≡ i ∷ l → peek s ≡ tag i

  pass : (x : Miss) (m : Member) (ms : List Member) (s : List ℕ) (l : List I) → eqb (peek s) m.tag ≡ false → ((i : I) (k : List I) → l ≡ i ∷ k → peek s ≡ tag i)
      → left_out P.book tag x (m ∷ ms) l ≡ left_out P.book tag (note P.book x m) ms l
  unfolding left_out
  pass x m ms s [] p f = refl
  pass x m ms s (i ∷ l) p f = rw (← f i l refl, p)

  passed : (x : Miss) (m : Member) (ms : List Member) (s : List ℕ) (t : ℕ) (r : List ℕ) → eqb (peek s) m.tag ≡ false → Rest (note P.book x m) ms s t r → Rest x (m ∷ ms) s t r
  passed x m ms s t r p h = record { items = h.items; is = h.is; lack = pass x m ms s h.items p h.first ∙ h.lack; first = h.first }

  head_of : (i j : I) (l k : List I) → i ∷ l ≡ j ∷ k → i ≡ j
  head_of i j l k e = cc

  taken : (x : Miss) (m : Member) (ms : List Member) (i : I) (s q : List ℕ) (t : ℕ) (r : List ℕ) → eqb (peek s) m.tag ≡ true → s ≡ write i q → fits i ≡ true
      → Rest x ms q t r → Rest x (m ∷ ms) s t r
  unfolding left_out put_all
  taken x m ms i s q t r p es f h =
      let e : peek s ≡ tag i = tag_at P tag fits write begins i s q es f in
      record {
        items = i ∷ h.items;
        is = es ∙ ap (write i) h.is;
        lack = rw (← e, p) h.lack;
        first = λ j k w. e ∙ ap tag (head_of i j h.items k w);
      }

  abbrev Or : Miss → List Member → List ℕ → ℕ → List ℕ → Type 0
  Or x ms s t r = Q s t r ⊎ Rest x ms s t r

  module _ (read : List ℕ → Out I) (below : (s r : List ℕ) (i : I) → read s ≡ done i r → (s ≡ write i r) × (fits i ≡ true))
      (far : (s : List ℕ) → Far P.book (Q s) s (read s)) (all : List Member) (stay : ℕ → Bool) where
    close_far : (seen : List ℕ) (x : Miss) (s : List ℕ) → Far P.book (Or x [] s) s (close P {I = I} all stay seen x s)
    unfolding close left_out put_all
    close_far seen none s = go (stay (peek s))
      where
        go : (b : Bool) → Far {X = List I} P.book (Or none [] s) s (cond b (done [] s) (refuse P all seen s))
        go true = past_none P.book s
        go false = refuse_far (List I) P (Or none [] s) all seen s
    close_far seen (lacks t) s = go (stay (peek s))
      where
        go : (b : Bool) → Far {X = List I} P.book (Or (lacks t) [] s) s (cond b (bad 14 t s) (refuse P all seen s))
        go true = record {
          reach = reach_here P.book s;
          low = omega arith;
          high = omega arith;
          plain = λ h. absurd (h refl);
          missing = λ e. inr (record { items = []; is = refl; lack = refl; first = λ i l e. let z : ◌≡◌ {A = ℕ} 0 1 = cc in absurd (omega arith) });
        }
        go false = refuse_far (List I) P (Or (lacks t) [] s) all seen s

    -- the item at the head, then the rest of the list
    here_far : (x : Miss) (m : Member) (ms : List Member) (s : List ℕ) (f : List ℕ → Out (List I)) → eqb (peek s) m.tag ≡ true
        → ((q : List ℕ) → Far P.book (Or x ms q) q (f q)) → Far P.book (Or x (m ∷ ms) s) s (and_then (read s) (λ i r. onto i (f r)))
    unfolding and_then
    here_far x m ms s f p on = go (read s) refl (far s)
      where
        go : (o : Out I) → read s ≡ o → Far P.book (Q s) s o → Far P.book (Or x (m ∷ ms) s) s (and_then o (λ i r. onto i (f r)))
        go (bad n t r) e h = far_shift P.book {X = List I} (Q s) (Or x (m ∷ ms) s) s s (bad n t r) (past_none P.book s) (λ t r w. inl w) h
        go (late there r) e h = far_shift P.book {X = List I} (Q s) (Or x (m ∷ ms) s) s s (late there r) (past_none P.book s) (λ t r w. inl w) h
        go (done i q) e h =
            let w = below s q i e in
            far_shift P.book (Or x ms q) (Or x (m ∷ ms) s) s q (onto i (f q)) h
            (λ t r a. ⊎_elim (λ a. inl (further s q r t h a)) (λ a. inr (taken x m ms i s q t r p w.0 w.1 a)) a)
            (far_onto P.book (Or x ms q) q i (f q) (on q))

    members_far : (seen : List ℕ) (x : Miss) (ms : List Member) (s : List ℕ) → Far P.book (Or x ms s) s (members P read all stay seen x ms s)
    unfolding members
    members_far seen x [] s = close_far seen x s
    members_far seen x (m ∷ ms) s = go (eqb (peek s) m.tag) refl (members_far (m.tag ∷ seen) x ms) (members_far seen (note P.book x m) ms s)
      where
        go : (b : Bool) → eqb (peek s) m.tag ≡ b
            → ((q : List ℕ) → Far P.book (Or x ms q) q (members P read all stay (m.tag ∷ seen) x ms q))
            → Far P.book (Or (note P.book x m) ms s) s (members P read all stay seen (note P.book x m) ms s)
            → Far P.book (Or x (m ∷ ms) s) s
            (cond b (and_then (read s) (λ i r. onto i (members P read all stay (m.tag ∷ seen) x ms r))) (members P read all stay seen (note P.book x m) ms s))
        go true p on off = here_far x m ms s (members P read all stay (m.tag ∷ seen) x ms) p on
        go false p on off =
            far_shift P.book (Or (note P.book x m) ms s) (Or x (m ∷ ms) s) s s (members P read all stay seen (note P.book x m) ms s) (past_none P.book s)
            (λ t r a. ⊎_elim (λ a. inl a) (λ a. inr (passed x m ms s t r p a)) a) off

    inst_far : (ms : List Member) (s : List ℕ) → Far P.book (Or none ms s) s (inst P read all stay ms s)
    unfolding inst
    inst_far [] s = here P.book (Or none [] s) s 13 (omega arith) (omega arith)
    inst_far (m ∷ ms) s = go (eqb (peek s) m.tag) refl (starts P all (peek s) || stay (peek s))
      where
        go : (b : Bool) → eqb (peek s) m.tag ≡ b → (c : Bool)
            → Far P.book (Or none (m ∷ ms) s) s
            (cond b (and_then (read s) (λ i r. onto i (members P read all stay (m.tag ∷ []) none ms r))) (cond c (bad 13 0 s) (refuse P [] [] s)))
        go true p c = here_far none m ms s (members P read all stay (m.tag ∷ []) none ms) p (members_far (m.tag ∷ []) none ms)
        go false p true = here P.book (Or none (m ∷ ms) s) s 13 (omega arith) (omega arith)
        go false p false = refuse_far (List I) P (Or none (m ∷ ms) s) [] [] s

    -- where an instance of this list that leaves out t says what 14 says
    module _ (own : (s : List ℕ) (t : ℕ) (r : List ℕ) → Rest none all s t r → Q s t r) where
      insts_far : (n : ℕ) (s : List ℕ) → Far P.book (Q s) s (insts P read all stay n all s)
      unfolding insts and_then
      insts_far zero s = past_none P.book s
      insts_far (suc n) s = go (inst P read all stay all s) (inst_far all s) (insts_far n)
        where
          go : (o : Out (List I)) → Far P.book (Or none all s) s o → ((q : List ℕ) → Far P.book (Q q) q (insts P read all stay n all q))
              → Far P.book (Q s) s (and_then o (λ x r. onto x (insts P read all stay n all r)))
          go (bad n t r) h on = far_shift P.book {X = List (List I)} (Or none all s) (Q s) s s (bad n t r) (past_none P.book s) (λ t r a. ⊎_elim (λ a. a) (own s t r) a) h
          go (late there r) h on = far_shift P.book {X = List (List I)} (Or none all s) (Q s) s s (late there r) (past_none P.book s) (λ t r a. ⊎_elim (λ a. a) (own s t r) a) h
          go (done x q) h on =
              far_shift P.book (Q q) (Q s) s q (onto x (insts P read all stay n all q)) h (λ t r a. further s q r t h a)
              (far_onto P.book (Q q) q x (insts P read all stay n all q) (on q))

  closed_far : (ms : List Member) (t : ℕ) (v s : List ℕ) (o : Out (List (List I))) → Far P.book (Q s) s o → Far P.book (Q s) s (closed P ms t v o)
  unfolding closed
  closed_far ms t v s (bad n x r) h = h
  closed_far ms t v s (late there r) h = h
  closed_far ms t v s (done l r) h = go (is_first ms (peek r))
    where
      go : (b : Bool) → Far {X = Node I} P.book (Q s) s (cond b (bad 13 0 r) (done (count t v l) r))
      go true = far_shift P.book {X = Node I} (Q r) (Q s) s r (bad 13 0 r) h (λ t q a. further s r q t h a) (here P.book (Q r) r 13 (omega arith) (omega arith))
      go false = h

  module _ (read : (ℕ → Bool) → List ℕ → Out I) (below : (outer : ℕ → Bool) (s r : List ℕ) (i : I) → read outer s ≡ done i r → (s ≡ write i r) × (fits i ≡ true))
      (far : (outer : ℕ → Bool) (s : List ℕ) → Far P.book (Q s) s (read outer s)) where
    module _ (own : (c : ℕ) (s : List ℕ) (t : ℕ) (r : List ℕ) → is_count P.book c ≡ true → Rest none (group_of P.book c) s t r → Q s t r) where
      group_far : (outer : ℕ → Bool) (t : ℕ) (v s : List ℕ) → is_count P.book t ≡ true → Far P.book (Q s) s (group P read outer t v s)
      unfolding group
      group_far outer t v s k =
          let ms = group_of P.book t in
          let out : ℕ → Bool = λ u. starts P ms u || outer u in
          closed_far ms t v s (insts P (read out) ms (λ u. is_first ms u || outer u) (value v) ms s)
          (insts_far (read out) (below out) (far out) ms (λ u. is_first ms u || outer u) (λ q x r h. own t q x r k h) (value v) s)

      node_far : (outer : ℕ → Bool) (s : List ℕ) (g : Grab) → grab P.book s ≡ g → Faults P.book s g → Far P.book (Q s) s (node_by P read outer g)
      unfolding node_by
      node_far outer s (fault n q) e h = record {
        reach = h.0;
        low = h.1;
        high = omega (arith, h.2);
        plain = λ w. refl;
        missing = λ w. absurd (omega (arith, h.2, w));
      }
      node_far outer s (got (pair l w d v) r) e h = let k = grab_true P.book s r (pair l w d v) e in past_one P.book s r (pair l w d v) k.0 k.1
      node_far outer s (got (single t v) r) e h = go (is_count P.book t) refl
        where
          past : Past P.book s r
          past = let k = grab_true P.book s r (single t v) e in past_one P.book s r (single t v) k.0 k.1

          go : (b : Bool) → is_count P.book t ≡ b → Far P.book (Q s) s (cond b (group P read outer t v r) (done (leaf (single t v)) r))
          go true p = far_shift P.book (Q r) (Q s) s r (group P read outer t v r) past (λ x q a. further s r q x past a) (group_far outer t v r p)
          go false p = past

    -- the message's own list
    record Left (seen s : List ℕ) (t : ℕ) (r : List ℕ) : Type 0 where
      items : List I
      is : s ≡ put_all write items []
      all : r ≡ []
      lack : lacking P.book none P.own (tags_onto tag items seen) ≡ lacks t

    abbrev OrLeft : List ℕ → List ℕ → ℕ → List ℕ → Type 0
    OrLeft seen s t r = Q s t r ⊎ Left seen s t r

    ending_far : (seen : List ℕ) (x : Miss) → lacking P.book none P.own seen ≡ x → Far P.book (OrLeft seen []) [] (ending P {I = I} x)
    unfolding ending tags_onto put_all
    ending_far seen none e = past_none P.book []
    ending_far seen (lacks t) e = record {
      reach = reach_here P.book [];
      low = omega arith;
      high = omega arith;
      plain = λ h. absurd (h refl);
      missing = λ w. inr (record { items = []; is = refl; all = refl; lack = e });
    }

    onto_left : (i : I) (seen s q : List ℕ) (x t : ℕ) (r : List ℕ) → s ≡ write i q → x ≡ tag i → Left (x ∷ seen) q t r → Left seen s t r
    unfolding tags_onto put_all
    onto_left i seen s q x t r es ex h = record { items = i ∷ h.items; is = es ∙ ap (write i) h.is; all = h.all; lack = rw (← ex) h.lack }

    own_far : (f : ℕ) (seen s : List ℕ) → Far P.book (OrLeft seen s) s (own_list P read f seen s)
    unfolding own_list
    own_far zero seen [] = ending_far seen (lacking P.book none P.own seen) refl
    own_far (suc f) seen [] = ending_far seen (lacking P.book none P.own seen) refl
    own_far zero seen (c ∷ s) = here P.book (OrLeft seen (c ∷ s)) (c ∷ s) 8 (omega arith) (omega arith)
    own_far (suc f) seen (c ∷ s) = go (starts P P.own x) (mem x seen) (own_far f (x ∷ seen))
      where
        x : ℕ
        x = peek (c ∷ s)

        out : ℕ → Bool
        out u = eqb u 0 || starts P P.own u

        step : (o : Out I) → read out (c ∷ s) ≡ o → Far P.book (Q (c ∷ s)) (c ∷ s) o
            → ((q : List ℕ) → Far P.book (OrLeft (x ∷ seen) q) q (own_list P read f (x ∷ seen) q))
            → Far P.book (OrLeft seen (c ∷ s)) (c ∷ s) (and_then o (λ i r. onto i (own_list P read f (x ∷ seen) r)))
        step (bad n t r) e h on =
            unfold and_then in far_shift P.book {X = List I} (Q (c ∷ s)) (OrLeft seen (c ∷ s)) (c ∷ s) (c ∷ s) (bad n t r) (past_none P.book (c ∷ s)) (λ t r w. inl w) h
        step (late there r) e h on =
            unfold and_then in far_shift P.book {X = List I} (Q (c ∷ s)) (OrLeft seen (c ∷ s)) (c ∷ s) (c ∷ s) (late there r) (past_none P.book (c ∷ s)) (λ t r w. inl w) h
        step (done i q) e h on =
            let w = below out (c ∷ s) q i e in
            unfold and_then in far_shift P.book (OrLeft (x ∷ seen) q) (OrLeft seen (c ∷ s)) (c ∷ s) q (onto i (own_list P read f (x ∷ seen) q)) h
            (λ t r a. ⊎_elim (λ a. inl (further (c ∷ s) q r t h a)) (λ a. inr (onto_left i seen (c ∷ s) q x t r w.0 (tag_at P tag fits write begins i (c ∷ s) q w.0 w.1) a)) a)
            (far_onto P.book (OrLeft (x ∷ seen) q) q i (own_list P read f (x ∷ seen) q) (on q))

        go : (b d : Bool) → ((q : List ℕ) → Far P.book (OrLeft (x ∷ seen) q) q (own_list P read f (x ∷ seen) q))
            → Far P.book (OrLeft seen (c ∷ s)) (c ∷ s)
            (cond b (cond d (bad 10 0 (c ∷ s)) (and_then (read out (c ∷ s)) (λ i r. onto i (own_list P read f (x ∷ seen) r)))) (refuse P [] [] (c ∷ s)))
        go true false on = step (read out (c ∷ s)) refl (far out (c ∷ s)) on
        go true true on = here P.book (OrLeft seen (c ∷ s)) (c ∷ s) 10 (omega arith) (omega arith)
        go false d on = refuse_far (List I) P (OrLeft seen (c ∷ s)) [] [] (c ∷ s)

-- by depth
module _ (P : Page) where
  lacks_further : (s q r : List ℕ) (t : ℕ) → Past P.book s q → Lacks P q t r → Lacks P s t r
  lacks_further s q r t p h = record { from = h.from; before = past_then P.book s q h.from p h.before; which = h.which }

  group_lacks : (d c : ℕ) (s : List ℕ) (t : ℕ) (r : List ℕ) → is_count P.book c ≡ true
      → Rest P (Lacks P) lacks_further (tag_of d) (fits P.book d) (put_item d) (peek_item P.book d) none (group_of P.book c) s t r → Lacks P s t r
  group_lacks d c s t r k h = record {
    from = s;
    before = past_none P.book s;
    which = inl (record { c = c; kind = k; depth = d; items = h.items; bytes = h.is; lack = h.lack });
  }

  item_far : (d : ℕ) (outer : ℕ → Bool) (s : List ℕ) → Far P.book (Lacks P s) s (read_item P d outer s)
  unfolding read_item
  item_far zero outer s = here P.book (Lacks P s) s 9 (omega arith) (omega arith)
  item_far (suc d) outer s =
      node_far P (Lacks P) lacks_further (tag_of d) (fits P.book d) (put_item d) (peek_item P.book d) (read_item P d) (item_true P d) (item_far d) (group_lacks d)
      outer s (grab P.book s) refl (grab_faults P.book s)

  pub items_far : (s : List ℕ) → Far P.book (Lacks P s) s (read_items P s)
  items_far s =
      rw (reading_is P s)
      (far_shift P.book (OrLeft P (Lacks P) lacks_further (tag_of 5) (fits P.book 5) (put_item 5) (peek_item P.book 5) (read_item P 5) (item_true P 5) (item_far 5) [] s) (Lacks P s) s s
      (own_list P (read_item P 5) (length s) [] s) (past_none P.book s)
      (λ t r a. ⊎_elim (λ a. a) (λ a. record { from = s; before = past_none P.book s; which = inr (record { items = a.items; bytes = a.is; all = a.all; lack = a.lack }) }) a)
      (own_far P (Lacks P) lacks_further (tag_of 5) (fits P.book 5) (put_item 5) (peek_item P.book 5) (read_item P 5) (item_true P 5) (item_far 5) (length s) [] s))
