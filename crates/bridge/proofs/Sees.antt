-- One field or pair: what is taken off the bytes is what was written, and back. Over any datatypes. Assumes nothing.
use mathlib.Core.Path.{◌≡◌, refl, sym, ap, ◌∙◌}
use mathlib.Core.Bool.{Bool, true, false, cond, ◌&&◌, not}
use mathlib.Core.List.{List, [], ◌∷◌, ◌++◌}
use Prim.Native.Nat.{ℕ, suc, ◌+◌, ◌<◌, min}
use native.Mathlib.Omega.{arith}
use lib.Dec.{eqb, ltb}
use lib.ListN.{length, take, drop, length-append, length-drop, take-append-drop}
use lib.Seq.{take_at, drop_at, length-take-le}
use borrow.Author.Tests.{eqb-true, eqb-false, eq-eqb, ne_eqb, ltb-true, lt-ltb, not-true}
use Rattle.numbers.specs.Bytes.{some, free}
use Rattle.numbers.specs.Decimal.{value, tag_form, render}
use Rattle.numbers.proofs.Tests.{clash, and_left, and_right}
use Rattle.forms.specs.Types.{of_type}
use Rattle.book.specs.Records.{Record, type_of, is_length, is_bounded, partner}
use Rattle.message.specs.Arrangement.{Piece, single, pair, piece_tag}
use Rattle.message.specs.Written.{put_field, put}
use Rattle.message.specs.Permitted.{is_tag, good_value, good}
use Rattle.message.specs.Rows.{lead, field_size, piece_size}
use Rattle.reader.specs.Fields.{Cut, uncut, cut_at, grow, cut, tag_in, peek, got, fault, ended, data_of, valued, tagged, grab}
use Rattle.numbers.proofs.Shortest.{value_render, form_render, render_of, form_free, form_pos}

lost : {A : Type 0} (n : ℕ) (s r : List ℕ) (k : Piece) → fault n s ≡ got k r → A
lost n s r k e = let z : ◌≡◌ {A = ℕ} 0 1 = cc in absurd (omega arith)

module _ (c : ℕ) where
  pub cut_true : (s v r : List ℕ) → cut c s ≡ cut_at v r → (s ≡ v ++ (c ∷ r)) × (free c v ≡ true)
  unfolding cut grow free
  cut_true [] v r e = let z : ◌≡◌ {A = ℕ} 0 1 = cc in absurd (omega arith)
  cut_true (b ∷ s) v r e = go (eqb b c) refl (cut c s) refl (λ v r. cut_true s v r)
    where
      go : (t : Bool) → eqb b c ≡ t → (x : Cut) → cut c s ≡ x
          → ((v r : List ℕ) → cut c s ≡ cut_at v r → (s ≡ v ++ (c ∷ r)) × (free c v ≡ true))
          → (b ∷ s ≡ v ++ (c ∷ r)) × (free c v ≡ true)
      go true p x q ih =
          let h : cut_at [] s ≡ cut_at v r = rw p at e in
          let ev : [] ≡ v = cc in
          let er : s ≡ r = cc in
          rw (← ev, ← er, eqb-true b c p) (refl, refl)
      go false p uncut q ih =
          let h : uncut ≡ cut_at v r = rw (p, q) at e in
          let z : ◌≡◌ {A = ℕ} 0 1 = cc in absurd (omega arith)
      go false p (cut_at w x) q ih =
          let h : cut_at (b ∷ w) x ≡ cut_at v r = rw (p, q) at e in
          let ev : b ∷ w ≡ v = cc in
          let er : x ≡ r = cc in
          let i = ih w x q in
          rw (← ev, ← er, p) (ap (λ l. b ∷ l) i.0, i.1)

  pub cut_back : (v r : List ℕ) → free c v ≡ true → cut c (v ++ (c ∷ r)) ≡ cut_at v r
  unfolding cut grow free
  cut_back [] r e = rw (eq-eqb c c refl)
  cut_back (b ∷ v) r e = rw (not-true (eqb b c) (and_left (not (eqb b c)) _ e), cut_back v r (and_right (not (eqb b c)) _ e))

some_eqb : (v : List ℕ) → some v ≡ true → eqb (length v) 0 ≡ false
some_eqb [] e = clash false e refl
some_eqb (b ∷ v) e = ne_eqb (length (b ∷ v)) 0 (omega arith)

some_length : (v : List ℕ) → (length v ≡ 0 → ⊥) → some v ≡ true
some_length [] n = absurd (n refl)
some_length (b ∷ v) n = refl

-- the definitions one step open, so that nothing below them opens
pub field_is : (t : ℕ) (v r : List ℕ) → put_field t v r ≡ render t ++ (61 ∷ (v ++ (1 ∷ r)))
unfolding put_field
field_is t v r = refl

pub single_is : (t : ℕ) (v r : List ℕ) → put (single t v) r ≡ put_field t v r
unfolding put
single_is t v r = refl

pub pair_is : (l : ℕ) (w : List ℕ) (d : ℕ) (v r : List ℕ) → put (pair l w d v) r ≡ put_field l w (put_field d v r)
unfolding put
pair_is l w d v r = refl

pub peek_end : peek [] ≡ 0
unfolding peek
peek_end = refl

peek_some : (s : List ℕ) → some s ≡ true → peek s ≡ tag_in (cut 61 s)
unfolding peek
peek_some [] e = clash false e refl
peek_some (b ∷ s) e = refl

-- tags
some_front : (d x : List ℕ) → tag_form d ≡ true → some (d ++ x) ≡ true
some_front [] x e = clash false e refl
some_front (b ∷ d) x e = refl

module _ (t : ℕ) (ok : is_tag t ≡ true) where
  low : 0 < t
  low = ltb-true 0 t (and_left (ltb 0 t) _ ok)

  high : t < 65536
  high = ltb-true t 65536 (and_right (ltb 0 t) _ ok)

  tag_cut : (v r : List ℕ) → cut 61 (put_field t v r) ≡ cut_at (render t) (v ++ (1 ∷ r))
  tag_cut v r = rw (field_is t v r) (cut_back 61 (render t) (v ++ (1 ∷ r)) (form_free 61 (render t) refl (form_render t low)))

  peek_field : (v r : List ℕ) → peek (put_field t v r) ≡ t
  peek_field v r =
      let h = high in
      let m : min t 65536 ≡ t = omega arith in
      let x : some (put_field t v r) ≡ true = rw (field_is t v r) (some_front (render t) (61 ∷ (v ++ (1 ∷ r))) (form_render t low)) in
      peek_some (put_field t v r) x ∙ rw (tag_cut v r, form_render t low, value_render t, m)

  tag_legal : (tag_form (render t) && ltb (value (render t)) 65536) ≡ true
  tag_legal = rw (form_render t low, value_render t, lt-ltb t 65536 high)

pub legal_tag : (d : List ℕ) → tag_form d ≡ true → ltb (value d) 65536 ≡ true → is_tag (value d) ≡ true
legal_tag d f h = rw (lt-ltb 0 (value d) (form_pos d f), h)

-- a tag's text, and what stands behind it up to byte 1
pub tag_put : (d v q r : List ℕ) → tag_form d ≡ true → q ≡ v ++ (1 ∷ r) → d ++ (61 ∷ q) ≡ put_field (value d) v r
tag_put d v q r f e = rw (field_is (value d) v r, render_of d f, e)

pub field_size_lem : (t : ℕ) (v r : List ℕ) → length (put_field t v r) ≡ field_size t v + length r
unfolding lead
field_size_lem t v r = rw (field_is t v r) (omega (arith, length-append (render t) (61 ∷ (v ++ (1 ∷ r))), length-append v (1 ∷ r)))

pub put_size : (k : Piece) (r : List ℕ) → length (put k r) ≡ piece_size k + length r
put_size (single t v) r = rw (single_is t v r) (field_size_lem t v r)
put_size (pair l w d v) r = rw (pair_is l w d v r) (omega (arith, field_size_lem l w (put_field d v r), field_size_lem d v r))

module _ (B : List Record) where
  -- what a Length is is never bounded by one
  pub length_unbounded : (t : ℕ) → is_length B t ≡ true → is_bounded B t ≡ false
  length_unbounded t e = rw (eqb-true (type_of B t) 5 e)

  -- the parts of a good piece
  pub record Value (t : ℕ) (v : List ℕ) : Type 0 where
    pub tag : is_tag t ≡ true
    pub full : some v ≡ true
    pub clean : free 1 v ≡ true
    pub type : of_type (type_of B t) v ≡ true

  value_parts : (t : ℕ) (v : List ℕ) → good_value B t v ≡ true → Value t v
  value_parts t v g =
      let a = and_left (is_tag t && some v && free 1 v) _ g in
      let b = and_left (is_tag t && some v) _ a in
      record {
        tag = and_left (is_tag t) _ b;
        full = and_right (is_tag t) _ b;
        clean = and_right (is_tag t && some v) _ a;
        type = and_right (is_tag t && some v && free 1 v) _ g;
      }

  pub record Single (t : ℕ) (v : List ℕ) : Type 0 where
    pub text : Value t v
    pub kind : is_length B t ≡ false
    pub bare : is_bounded B t ≡ false

  pub single_parts : (t : ℕ) (v : List ℕ) → good B (single t v) ≡ true → Single t v
  unfolding good
  single_parts t v g =
      let a = and_left (good_value B t v && not (is_length B t)) _ g in
      record {
        text = value_parts t v (and_left (good_value B t v) _ a);
        kind = not-true _ (and_right (good_value B t v) _ a);
        bare = not-true _ (and_right (good_value B t v && not (is_length B t)) _ g);
      }

  pub record Pair (l : ℕ) (w : List ℕ) (d : ℕ) (v : List ℕ) : Type 0 where
    pub text : Value l w
    pub kind : is_length B l ≡ true
    pub tag : is_tag d ≡ true
    pub named : eqb d (partner B l) ≡ true
    pub long : value w ≡ length v
    pub there : some v ≡ true

  pub pair_parts : (l : ℕ) (w : List ℕ) (d : ℕ) (v : List ℕ) → good B (pair l w d v) ≡ true → Pair l w d v
  unfolding good
  pair_parts l w d v g =
      let a = and_left (good_value B l w && is_length B l) _ g in
      let r = and_right (good_value B l w && is_length B l) _ g in
      let x = and_left (is_tag d && eqb d (partner B l) && eqb (value w) (length v)) _ r in
      let y = and_left (is_tag d && eqb d (partner B l)) _ x in
      record {
        text = value_parts l w (and_left (good_value B l w) _ a);
        kind = and_right (good_value B l w) _ a;
        tag = and_left (is_tag d) _ y;
        named = and_right (is_tag d) _ y;
        long = eqb-true (value w) (length v) (and_right (is_tag d && eqb d (partner B l)) _ x);
        there = and_right (is_tag d && eqb d (partner B l) && eqb (value w) (length v)) _ r;
      }

  -- a piece begins with its tag, and that is no data's
  pub peek_put : (k : Piece) (r : List ℕ) → good B k ≡ true → peek (put k r) ≡ piece_tag k
  peek_put (single t v) r g = rw (single_is t v r) (peek_field t (single_parts t v g).text.tag v r)
  peek_put (pair l w d v) r g = rw (pair_is l w d v r) (peek_field l (pair_parts l w d v g).text.tag w (put_field d v r))

  pub good_unbounded : (k : Piece) → good B k ≡ true → is_bounded B (piece_tag k) ≡ false
  good_unbounded (single t v) g = (single_parts t v g).bare
  good_unbounded (pair l w d v) g = length_unbounded l (pair_parts l w d v g).kind

  -- grab, one step open
  pub grab_is : (s : List ℕ) → grab B s ≡ tagged B s (cut 61 s)
  unfolding grab
  grab_is s = refl

  pub tagged_is : (s d r : List ℕ)
      → tagged B s (cut_at d r)
      ≡ cond (tag_form d && ltb (value d) 65536) (cond (is_bounded B (value d)) (fault 12 s) (valued B (value d) s (cut 1 r))) (fault 8 s)
  unfolding tagged
  tagged_is s d r = refl

  pub valued_is : (t : ℕ) (s v r : List ℕ)
      → valued B t s (cut_at v r)
      ≡ cond (some v) (cond (of_type (type_of B t) v) (cond (is_length B t) (data_of B t v r (cut 61 r)) (got (single t v) r)) (fault 11 s)) (fault 8 s)
  unfolding valued
  valued_is t s v r = refl

  pub data_is : (l : ℕ) (w s d r : List ℕ)
      → data_of B l w s (cut_at d r)
      ≡ cond (tag_form d)
      (cond (ltb (value d) 65536 && eqb (value d) (partner B l))
      (cond (eqb (value w) 0) (fault 8 s) (ended B l w (value d) (take (value w) r) s (drop (value w) r))) (fault 12 s))
      (fault 8 s)
  unfolding data_of
  data_is l w s d r = refl

  ended_back : (l : ℕ) (w : List ℕ) (d : ℕ) (v s r : List ℕ) → ended B l w d v s (1 ∷ r) ≡ got (pair l w d v) r
  unfolding ended
  ended_back l w d v s r = refl

  pub grab_back : (k : Piece) (r : List ℕ) → good B k ≡ true → grab B (put k r) ≡ got k r
  grab_back (single t v) r g =
      let h = single_parts t v g in
      let x = h.text in
      rw (
        single_is t v r,
        grab_is (put_field t v r),
        tag_cut t x.tag v r,
        tagged_is (put_field t v r) (render t) (v ++ (1 ∷ r)),
        tag_legal t x.tag,
        value_render t,
        h.bare,
        cut_back 1 v r x.clean,
        valued_is t (put_field t v r) v r,
        x.full,
        x.type,
        h.kind,
      )
  grab_back (pair l w d v) r g =
      let h = pair_parts l w d v g in
      let x = h.text in
      let s = put_field l w (put_field d v r) in
      rw (
        pair_is l w d v r,
        grab_is (put_field l w (put_field d v r)),
        tag_cut l x.tag w (put_field d v r),
        tagged_is (put_field l w (put_field d v r)) (render l) (w ++ (1 ∷ put_field d v r)),
        tag_legal l x.tag,
        value_render l,
        length_unbounded l h.kind,
        cut_back 1 w (put_field d v r) x.clean,
        valued_is l (put_field l w (put_field d v r)) w (put_field d v r),
        x.full,
        x.type,
        h.kind,
        tag_cut d h.tag v r,
        data_is l w (put_field d v r) (render d) (v ++ (1 ∷ r)),
        form_render d (low d h.tag),
        value_render d,
        lt-ltb d 65536 (high d h.tag),
        h.named,
        h.long,
        some_eqb v h.there,
        take_at v (1 ∷ r) (length v) refl,
        drop_at v (1 ∷ r) (length v) refl,
      )
      (ended_back l w d v (put_field d v r) r)

  ended_true : (l : ℕ) (w : List ℕ) (d : ℕ) (v s x r : List ℕ) (k : Piece) → ended B l w d v s x ≡ got k r → (k ≡ pair l w d v) × (x ≡ 1 ∷ r)
  unfolding ended
  ended_true l w d v s [] r k e = lost _ _ _ _ e
  ended_true l w d v s (y ∷ x) r k e = go (eqb y 1) refl
    where
      go : (a : Bool) → eqb y 1 ≡ a → (k ≡ pair l w d v) × (y ∷ x ≡ 1 ∷ r)
      go false p = lost _ _ _ _ (rw p at e)
      go true p =
          let h : got (pair l w d v) x ≡ got k r = rw p at e in
          let y1 = eqb-true y 1 p in
          ((cc), (cc))

  -- the second half of a pair
  record Half (l : ℕ) (w s r : List ℕ) (k : Piece) : Type 0 where
    d : ℕ
    v : List ℕ
    is : k ≡ pair l w d v
    bytes : s ≡ put_field d v r
    rest : (is_tag d && eqb d (partner B l) && eqb (value w) (length v) && some v) ≡ true

  data_true : (l : ℕ) (w s : List ℕ) (c : Cut) (r : List ℕ) (k : Piece) → cut 61 s ≡ c → data_of B l w s c ≡ got k r → Half l w s r k
  data_true l w s uncut r k ec e = lost _ _ _ _ (sym (none s) ∙ e)
    where
      none : (s : List ℕ) → data_of B l w s uncut ≡ fault (cond (some s) 8 12) s
      none s = unfold data_of in refl
  data_true l w s (cut_at d q) r k ec e =
      go (tag_form d) refl (ltb (value d) 65536 && eqb (value d) (partner B l)) refl (eqb (value w) 0) refl (sym (data_is l w s d q) ∙ e)
    where
      go : (a : Bool) → tag_form d ≡ a → (b : Bool) → (ltb (value d) 65536 && eqb (value d) (partner B l)) ≡ b → (c : Bool) → eqb (value w) 0 ≡ c
          → cond (tag_form d)
          (cond (ltb (value d) 65536 && eqb (value d) (partner B l))
          (cond (eqb (value w) 0) (fault 8 s) (ended B l w (value d) (take (value w) q) s (drop (value w) q))) (fault 12 s))
          (fault 8 s) ≡ got k r
          → Half l w s r k
      go false p b p₂ c p₃ e = lost _ _ _ _ (rw p at e)
      go true p false p₂ c p₃ e = lost _ _ _ _ (rw (p, p₂) at e)
      go true p true p₂ true p₃ e = lost _ _ _ _ (rw (p, p₂, p₃) at e)
      go true p true p₂ false p₃ e =
          let h = ended_true l w (value d) (take (value w) q) s (drop (value w) q) r k (rw (p, p₂, p₃) at e) in
          let small = and_left (ltb (value d) 65536) _ p₂ in
          let len : length (drop (value w) q) ≡ suc (length r) = ap length h.1 in
          let tl : length (take (value w) q) ≡ value w = length-take-le (value w) q (omega (arith, length-drop (value w) q)) in
          let whole : q ≡ take (value w) q ++ (1 ∷ r) = sym (rw (← h.1) (take-append-drop (value w) q)) in
          record {
            d = value d;
            v = take (value w) q;
            is = h.0;
            bytes = (cut_true 61 s d q ec).0 ∙ tag_put d (take (value w) q) q r p whole;
            rest =
                rw (legal_tag d p small, and_right (ltb (value d) 65536) _ p₂, tl, eq-eqb (value w) (value w) refl)
                (some_length (take (value w) q) (rw tl (eqb-false (value w) 0 p₃)));
          }

  valued_true : (d s q : List ℕ) (c : Cut) (r : List ℕ) (k : Piece) → tag_form d ≡ true → is_tag (value d) ≡ true → is_bounded B (value d) ≡ false
      → s ≡ d ++ (61 ∷ q) → cut 1 q ≡ c → valued B (value d) s c ≡ got k r → (s ≡ put k r) × (good B k ≡ true)
  valued_true d s q uncut r k f ok n es ec e = lost _ _ _ _ (sym (none (value d) s) ∙ e)
    where
      none : (t : ℕ) (s : List ℕ) → valued B t s uncut ≡ fault 8 s
      none t s = unfold valued in refl
  valued_true d s q (cut_at v x) r k f ok n es ec e = go (some v) refl (of_type (type_of B t) v) refl (is_length B t) refl (sym (valued_is t s v x) ∙ e)
    where
      t : ℕ
      t = value d

      w : (q ≡ v ++ (1 ∷ x)) × (free 1 v ≡ true)
      w = cut_true 1 q v x ec

      paired : Half (value d) v x r k → some v ≡ true → of_type (type_of B (value d)) v ≡ true → is_length B (value d) ≡ true → (s ≡ put k r) × (good B k ≡ true)
      paired h p p₂ p₃ =
          rw (h.is, pair_is (value d) v h.d h.v r, ← h.bytes)
          (es ∙ tag_put d v q x f w.0, unfold good in rw (ok, p, w.1, p₂, p₃, h.rest))

      go : (a : Bool) → some v ≡ a → (b : Bool) → of_type (type_of B (value d)) v ≡ b → (c : Bool) → is_length B (value d) ≡ c
          → cond (some v) (cond (of_type (type_of B (value d)) v) (cond (is_length B (value d)) (data_of B (value d) v x (cut 61 x)) (got (single (value d) v) x)) (fault 11 s)) (fault 8 s) ≡ got k r
          → (s ≡ put k r) × (good B k ≡ true)
      go false p b p₂ c p₃ e = lost _ _ _ _ (rw p at e)
      go true p false p₂ c p₃ e = lost _ _ _ _ (rw (p, p₂) at e)
      go true p true p₂ true p₃ e = paired (data_true (value d) v x (cut 61 x) r k refl (rw (p, p₂, p₃) at e)) p p₂ p₃
      go true p true p₂ false p₃ e =
          let h : got (single (value d) v) x ≡ got k r = rw (p, p₂, p₃) at e in
          let ek : k ≡ single (value d) v = cc in
          let er : x ≡ r = cc in
          rw (ek, ← er, single_is (value d) v x) (es ∙ tag_put d v q x f w.0, unfold good in rw (ok, p, w.1, p₂, p₃, n))

  tagged_true : (s : List ℕ) (c : Cut) (r : List ℕ) (k : Piece) → cut 61 s ≡ c → tagged B s c ≡ got k r → (s ≡ put k r) × (good B k ≡ true)
  tagged_true s uncut r k ec e = lost _ _ _ _ (sym (none s) ∙ e)
    where
      none : (s : List ℕ) → tagged B s uncut ≡ fault 8 s
      none s = unfold tagged in refl
  tagged_true s (cut_at d q) r k ec e = go (tag_form d && ltb (value d) 65536) refl (is_bounded B (value d)) refl (sym (tagged_is s d q) ∙ e)
    where
      go : (a : Bool) → (tag_form d && ltb (value d) 65536) ≡ a → (b : Bool) → is_bounded B (value d) ≡ b
          → cond (tag_form d && ltb (value d) 65536) (cond (is_bounded B (value d)) (fault 12 s) (valued B (value d) s (cut 1 q))) (fault 8 s) ≡ got k r
          → (s ≡ put k r) × (good B k ≡ true)
      go false p b p₂ e = lost _ _ _ _ (rw p at e)
      go true p true p₂ e = lost _ _ _ _ (rw (p, p₂) at e)
      go true p false p₂ e =
          let f = and_left (tag_form d) _ p in
          valued_true d s q (cut 1 q) r k f (legal_tag d f (and_right (tag_form d) _ p)) p₂ (cut_true 61 s d q ec).0 refl (rw (p, p₂) at e)

  pub grab_true : (s r : List ℕ) (k : Piece) → grab B s ≡ got k r → (s ≡ put k r) × (good B k ≡ true)
  grab_true s r k e = tagged_true s (cut 61 s) r k refl (sym (grab_is s) ∙ e)
