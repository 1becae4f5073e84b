-- A field taken off: each way of the code is the definition's. Assumes nothing.
use mathlib.Core.Path.{◌≡◌, refl, sym, ap, ◌∙◌}
use mathlib.Core.Bool.{Bool, true, false, cond, ◌&&◌}
use mathlib.Core.List.{List, [], ◌∷◌, ◌++◌}
use Prim.Native.Nat.{ℕ, suc, ◌+◌, ◌-◌, ◌≤◌, ◌<◌, min}
use native.Mathlib.Omega.{arith}
use native.Mathlib.Numerals.{add-one}
use lib.Dec.{eqb, ltb}
use lib.ListN.{length, take, drop, get_or, length-drop, length-append, drop_of_length-le, get_or-eq_default}
use lib.Seq.{drop-drop, drop-cons, take_at}
use borrow.Author.Tests.{ltb-true, ltb-false, lt-ltb, eqb-true, eq-eqb, ne_eqb}
use Rattle.std.specs.Prelude.{Result, Ok, Err}
use Rattle.std.proofs.lemmas.List.{drop_at}
use Rattle.numbers.specs.Bytes.{some}
use Rattle.numbers.specs.Decimal.{value, tag_form}
use Rattle.numbers.specs.Scan.{leading_digits}
use Rattle.numbers.proofs.Tests.{to_false, and_left, and_right}
use Rattle.forms.specs.Types.{of_type}
use Rattle.book.specs.Records.{Record, type_of, partner, is_length, is_bounded}
use Rattle.message.specs.Arrangement.{single, pair}
use Rattle.message.specs.Rows.{lead}
use Rattle.reader.specs.declared.Field.{Field}
use Rattle.reader.specs.declared.Grabbed.{Grabbed}
use Rattle.forms.specs.Numbered.{number_of}
use Rattle.forms.specs.declared.Datatype.{Datatype}
use Rattle.reader.specs.declared.Grabbed.TheVariants.{Single, Pair}
use Rattle.reader.specs.declared.refusal.Refusal.{Refusal}
use Rattle.reader.specs.declared.refusal.Refusal.TheVariants as Case
use Rattle.reader.specs.declared.refusal.Refused.{Refused}
use Rattle.reader.specs.Fields.{Cut, uncut, cut_at, cut, torn, tag_in, got, fault, ended, data_of, valued, tagged, grab}
use Rattle.reader.specs.Taken.{between, Stands, Placed, Takes, Known, filled}
use Rattle.reader.proofs.Heads.{Head, head_of, head_tag, head_lead}
use Rattle.reader.proofs.Cuts.{cut_parts}
use Rattle.reader.proofs.Framing.{kept, kept_some, kept_none}
use Rattle.reader.proofs.Fielding.{Tagged}

-- the definitions one step open
ended_is : (B : List Record) (l : ℕ) (w : List ℕ) (d : ℕ) (v s : List ℕ) (x : ℕ) (r : List ℕ) → ended B l w d v s (x ∷ r) ≡ cond (eqb x 1) (got (pair l w d v) r) (fault 12 s)
unfolding ended
ended_is B l w d v s x r = refl

ended_none : (B : List Record) (l : ℕ) (w : List ℕ) (d : ℕ) (v s : List ℕ) → ended B l w d v s [] ≡ fault 12 s
unfolding ended
ended_none B l w d v s = refl

data_is : (B : List Record) (l : ℕ) (w s d r : List ℕ)
    → data_of B l w s (cut_at d r) ≡ cond (tag_form d) (cond (ltb (value d) 65536 && eqb (value d) (partner B l)) (filled B l w s (value d) r) (fault 12 s)) (fault 8 s)
unfolding data_of
data_is B l w s d r = refl

data_none : (B : List Record) (l : ℕ) (w s : List ℕ) → data_of B l w s uncut ≡ fault (cond (some s) 8 12) s
unfolding data_of
data_none B l w s = refl

valued_is : (B : List Record) (t : ℕ) (s v r : List ℕ)
    → valued B t s (cut_at v r)
    ≡ cond (some v) (cond (of_type (type_of B t) v) (cond (is_length B t) (data_of B t v r (cut 61 r)) (got (single t v) r)) (fault 11 s)) (fault 8 s)
unfolding valued
valued_is B t s v r = refl

valued_none : (B : List Record) (t : ℕ) (s : List ℕ) → valued B t s uncut ≡ fault 8 s
unfolding valued
valued_none B t s = refl

grab_is : (B : List Record) (s : List ℕ) → grab B s ≡ tagged B s (cut 61 s)
unfolding grab
grab_is B s = refl

tagged_is : (B : List Record) (s d r : List ℕ)
    → tagged B s (cut_at d r) ≡ cond (tag_form d && ltb (value d) 65536) (cond (is_bounded B (value d)) (fault 12 s) (valued B (value d) s (cut 1 r))) (fault 8 s)
unfolding tagged
tagged_is B s d r = refl

tagged_none : (B : List Record) (s : List ℕ) → tagged B s uncut ≡ fault 8 s
unfolding tagged
tagged_none B s = refl

lead_some : (t : ℕ) → 0 < lead t
unfolding lead
lead_some t = omega arith

-- a refusal
abbrev pub refusal : Refusal → ℕ → Result Grabbed Refused
refusal w p = Err (record { why = w; at = p })

inside_by : (m : List ℕ) (i : ℕ) → get_or m i 0 ≡ 1 → i < length m
inside_by m i x = go (ltb i (length m)) refl
  where
    go : (t : Bool) → ltb i (length m) ≡ t → i < length m
    go true h = ltb-true i (length m) h
    go false h = let z : get_or m i 0 ≡ 0 = get_or-eq_default m 0 (ltb-false i (length m) h) in absurd (omega arith)

-- the data behind the Length f, of n bytes
module _ (B : List Record) (m : List ℕ) (at : ℕ) (f : Field) (d from n : ℕ) (st : Stands m at f.tag f.start f.end) (ef : from ≡ f.end + 1 + lead d)
    (en : n ≡ min (value (between m f.start f.end)) (length m))
  where
    abbrev Data : Result Grabbed Refused → Type 0
    Data r = Takes B m at (filled B f.tag (between m f.start f.end) (drop (f.end + 1) m) d (drop from m)) r

    pub data_zero : n ≡ 0 → Data (refusal Case.Form (f.end + 1))
    data_zero z =
        let v : value (between m f.start f.end) ≡ 0 = omega (arith, en, z, st.inside) in
        (rw (eq-eqb (value (between m f.start f.end)) 0 v), (omega (arith, st.past, st.some), λ h. omega (arith, st.inside), refl))

    module _ (nz : n ≡ 0 → ⊥) where
      v_some : eqb (value (between m f.start f.end)) 0 ≡ false
      v_some = ne_eqb (value (between m f.start f.end)) 0 (λ v. nz (omega (arith, en, v)))

      placed : Placed B m at (refusal Case.Pair (f.end + 1))
      placed = (omega (arith, st.past, st.some), λ h. omega (arith, st.inside), refl)

      data_short : length m - from ≤ n → Data (refusal Case.Pair (f.end + 1))
      data_short h =
          let k : length (drop from m) ≤ value (between m f.start f.end) = rw (length-drop from m) (omega (arith, en, h)) in (
            rw (v_some, drop_of_length-le (drop from m) k)
                (sym (ended_none B f.tag (between m f.start f.end) d (take (value (between m f.start f.end)) (drop from m)) (drop (f.end + 1) m))),
            placed,
          )

      module _ (h : n < length m - from) where
        v_is : value (between m f.start f.end) ≡ n
        v_is = omega (arith, en, h)

        behind : drop (value (between m f.start f.end)) (drop from m) ≡ get_or m (from + n) 0 ∷ drop (from + n + 1) m
        behind = rw (v_is, drop-drop n from m, add-one (from + n)) (drop-cons m (from + n) 0 (omega (arith, h)))

        opened : filled B f.tag (between m f.start f.end) (drop (f.end + 1) m) d (drop from m)
            ≡ cond (eqb (get_or m (from + n) 0) 1)
            (got (pair f.tag (between m f.start f.end) d (take n (drop from m))) (drop (from + n + 1) m))
            (fault 12 (drop (f.end + 1) m))
        opened =
            rw (v_some, behind, v_is)
            (ended_is B f.tag (between m f.start f.end) d (take n (drop from m)) (drop (f.end + 1) m) (get_or m (from + n) 0) (drop (from + n + 1) m))

        data_open : (get_or m (from + n) 0 ≡ 1 → ⊥) → Data (refusal Case.Pair (f.end + 1))
        data_open x = (sym (opened ∙ rw (ne_eqb (get_or m (from + n) 0) 1 x)), placed)

      pub data_bad : (get_or m (from + n) 0 ≡ 1 → ⊥) → Data (refusal Case.Pair (f.end + 1))
      data_bad x = go (ltb n (length m - from)) refl
        where
          go : (t : Bool) → ltb n (length m - from) ≡ t → Data (refusal Case.Pair (f.end + 1))
          go true h = data_open (ltb-true n (length m - from) h) x
          go false h = data_short (ltb-false n (length m - from) h)

      pub data_good : get_or m (from + n) 0 ≡ 1 → d < 65536 → Data (Ok (Pair f (record { tag = d; start = from; end = from + n })))
      data_good x low =
          let h : n < length m - from = omega (arith, inside_by m (from + n) x) in
          let k : from + n - from ≡ n = omega arith in (
            sym (opened h ∙ rw (eq-eqb (get_or m (from + n) 0) 1 x, k)),
            (
              st,
              record {
                tag = low;
                past = omega (arith, ef, lead_some d);
                start = ef;
                some = omega (arith, nz);
                inside = omega (arith, h);
              },
            ),
          )

-- the head at a place of m is a tag: its number, and the place behind its `=`
module _ (m : List ℕ) (at v e : ℕ) (T : Tagged m at v e) where
  untorn : v ≡ 65537 → ⊥
  untorn z = omega (arith, T.2)

  pub head_at : Head (drop at m)
  head_at = head_of (drop at m) v T.0 untorn

  pub head_inside : e < length m
  head_inside = omega (arith, T.1, head_at.inside, length-drop at m)

  head_value : v ≡ min (value (leading_digits (drop at m))) 65536
  head_value = T.0 ∙ head_tag (drop at m) head_at

  head_is : v < 65536 → value (leading_digits (drop at m)) ≡ v
  head_is h = omega (arith, head_value, h)

  head_cut : cut 61 (drop at m) ≡ cut_at (leading_digits (drop at m)) (drop (e + 1) m)
  head_cut =
      let k : at + suc (length (leading_digits (drop at m))) ≡ e + 1 = omega (arith, T.1) in
      head_at.cuts ∙ rw (drop-drop (suc (length (leading_digits (drop at m)))) at m, k)

  pub head_start : v < 65536 → e + 1 ≡ at + lead v
  head_start h =
      let k : lead v ≡ length (leading_digits (drop at m)) + 1 = ap lead (sym (head_is h)) ∙ head_lead (drop at m) head_at in
      omega (arith, T.1, k)

-- the data's tag
some_at : (m : List ℕ) (at : ℕ) → at < length m → some (drop at m) ≡ true
some_at m at h = rw (drop-cons m at 0 h)

data_torn : (B : List Record) (l : ℕ) (w s : List ℕ) (c : Cut) → some s ≡ true → torn ≡ tag_in c → data_of B l w s c ≡ fault 8 s
data_torn B l w s uncut f e = data_none B l w s ∙ rw f
data_torn B l w s (cut_at d r) f e = go (tag_form d) refl
  where
    go : (t : Bool) → tag_form d ≡ t → data_of B l w s (cut_at d r) ≡ fault 8 s
    go true g = let z : 65537 ≡ min (value d) 65536 = rw g at e in absurd (omega arith)
    go false g = data_is B l w s d r ∙ rw g

module _ (B : List Record) (m : List ℕ) (at : ℕ) (f : Field) (d : ℕ) (ed : d ≡ partner B f.tag) (st : Stands m at f.tag f.start f.end) where
  abbrev Behind : Result Grabbed Refused → Type 0
  Behind r = Takes B m at (data_of B f.tag (between m f.start f.end) (drop (f.end + 1) m) (cut 61 (drop (f.end + 1) m))) r

  pub behind_none : length m ≤ f.end + 1 → Behind (refusal Case.Pair (f.end + 1))
  unfolding cut
  behind_none h = (
    rw (drop_of_length-le m h) (sym (data_none B f.tag (between m f.start f.end) [])),
    (omega (arith, st.past, st.some), λ h. omega (arith, st.inside), refl),
  )

  pub behind_torn : f.end + 1 < length m → torn ≡ tag_in (cut 61 (drop (f.end + 1) m)) → Behind (refusal Case.Form (f.end + 1))
  behind_torn h z = (
    sym (data_torn B f.tag (between m f.start f.end) (drop (f.end + 1) m) (cut 61 (drop (f.end + 1) m)) (some_at m (f.end + 1) h) z),
    (omega (arith, st.past, st.some), λ h. omega (arith, st.inside), refl),
  )

  module _ (v e : ℕ) (T : Tagged m (f.end + 1) v e) where
    behind_is : data_of B f.tag (between m f.start f.end) (drop (f.end + 1) m) (cut 61 (drop (f.end + 1) m))
        ≡ cond (ltb (value (leading_digits (drop (f.end + 1) m))) 65536 && eqb (value (leading_digits (drop (f.end + 1) m))) d)
        (filled B f.tag (between m f.start f.end) (drop (f.end + 1) m) (value (leading_digits (drop (f.end + 1) m))) (drop (e + 1) m))
        (fault 12 (drop (f.end + 1) m))
    behind_is =
        ap (data_of B f.tag (between m f.start f.end) (drop (f.end + 1) m)) (head_cut m (f.end + 1) v e T)
        ∙ data_is B f.tag (between m f.start f.end) (drop (f.end + 1) m) (leading_digits (drop (f.end + 1) m)) (drop (e + 1) m)
        ∙ rw ((head_at m (f.end + 1) v e T).form, ed)

    pub behind_other : (v ≡ d → ⊥) → Behind (refusal Case.Pair (f.end + 1))
    behind_other x = (
      sym (behind_is ∙ rw (to_false (ltb D 65536 && eqb D d) differs)),
      (omega (arith, st.past, st.some), λ h. omega (arith, st.inside), refl),
    )
      where
        D : ℕ
        D = value (leading_digits (drop (f.end + 1) m))

        differs : (ltb D 65536 && eqb D d) ≡ true → ⊥
        differs t = x (omega (arith, head_value m (f.end + 1) v e T, ltb-true D 65536 (and_left (ltb D 65536) (eqb D d) t), eqb-true D d (and_right (ltb D 65536) (eqb D d) t)))

    pub behind_found : v ≡ d → d < 65536 → (r : Result Grabbed Refused)
        → ((B : List Record) (at : ℕ) → Stands m at f.tag f.start f.end → e + 1 ≡ f.end + 1 + lead d
        → Takes B m at (filled B f.tag (between m f.start f.end) (drop (f.end + 1) m) d (drop (e + 1) m)) r)
        → Behind r
    behind_found x low r g =
        let t = g B at st (head_start m (f.end + 1) v e T (omega (arith, x, low)) ∙ ap (λ d. f.end + 1 + lead d) x) in
        let k : value (leading_digits (drop (f.end + 1) m)) ≡ d = head_is m (f.end + 1) v e T (omega (arith, x, low)) ∙ x in
        (t.0 ∙ sym (behind_is ∙ rw (k, lt-ltb d 65536 low, eq-eqb d d refl)), t.1)

some_between : (m : List ℕ) (a b : ℕ) → a < b → b < length m → some (between m a b) ≡ true
some_between m a b h i = let k : b - a ≡ suc (b - a - 1) = omega (arith, h) in rw (k, drop-cons m a 0 (omega (arith, h, i)))

-- a value of good form
module _ (B : List Record) (m : List ℕ) (at : ℕ) (f : Field) (y q : ℕ) (known : Known B f.tag y q) (st : Stands m at f.tag f.start f.end) where
  abbrev Valued : Result Grabbed Refused → Type 0
  Valued r = Takes B m at (valued B f.tag (drop at m) (cut_at (between m f.start f.end) (drop (f.end + 1) m))) r

  value_is : valued B f.tag (drop at m) (cut_at (between m f.start f.end) (drop (f.end + 1) m))
      ≡ cond (of_type y (between m f.start f.end))
      (cond (eqb y 5) (data_of B f.tag (between m f.start f.end) (drop (f.end + 1) m) (cut 61 (drop (f.end + 1) m)))
      (got (single f.tag (between m f.start f.end)) (drop (f.end + 1) m)))
      (fault 11 (drop at m))
  value_is = valued_is B f.tag (drop at m) (between m f.start f.end) (drop (f.end + 1) m) ∙ rw (some_between m f.start f.end st.some st.inside, ← known.0)

  module _ (t : Bool) (g : t ≡ of_type y (between m f.start f.end)) where
    pub value_bad : t ≡ false → Valued (refusal Case.Datatype at)
    value_bad z = (sym (value_is ∙ rw (sym g ∙ z)), (omega arith, λ i. i, refl))

    module _ (z : t ≡ true) where
      pub value_single : eqb y 5 ≡ false → (k : Datatype) → number_of k ≡ y → Valued (Ok (Single f k))
      value_single x k n = (sym (value_is ∙ rw (sym g ∙ z, x)), (n ∙ known.0, st))

      pub value_pair : eqb y 5 ≡ true → (r : Result Grabbed Refused)
          → ((B : List Record) (at : ℕ) → q ≡ partner B f.tag → Stands m at f.tag f.start f.end
          → Takes B m at (data_of B f.tag (between m f.start f.end) (drop (f.end + 1) m) (cut 61 (drop (f.end + 1) m))) r)
          → Valued r
      value_pair x r d = let p = d B at known.1 st in (p.0 ∙ sym (value_is ∙ rw (sym g ∙ z, x)), p.1)

-- the tag at the head
tag_high : (B : List Record) (s : List ℕ) (c : Cut) → 65535 < tag_in c → tagged B s c ≡ fault 8 s
tag_high B s uncut h = tagged_none B s
tag_high B s (cut_at d r) h = tagged_is B s d r ∙ rw (to_false (tag_form d && ltb (value d) 65536) low)
  where
    low : (tag_form d && ltb (value d) 65536) ≡ true → ⊥
    low t =
        let f = and_left (tag_form d) (ltb (value d) 65536) t in
        let l = ltb-true (value d) 65536 (and_right (tag_form d) (ltb (value d) 65536) t) in
        let k : 65535 < min (value d) 65536 = rw f at h in
        omega arith

module _ (B : List Record) (m : List ℕ) (at : ℕ) where
  abbrev Grabs : Result Grabbed Refused → Type 0
  Grabs r = Takes B m at (grab B (drop at m)) r

  pub grab_high : 65535 < tag_in (cut 61 (drop at m)) → Grabs (refusal Case.Form at)
  grab_high h = (sym (grab_is B (drop at m) ∙ tag_high B (drop at m) (cut 61 (drop at m)) h), (omega arith, λ i. i, refl))

  pub grab_torn : torn ≡ tag_in (cut 61 (drop at m)) → Grabs (refusal Case.Form at)
  grab_torn z = grab_high (omega (arith, z))

  module _ (v e : ℕ) (T : Tagged m at v e) (low : v < 65536) where
    grab_opened : grab B (drop at m) ≡ cond (is_bounded B v) (fault 12 (drop at m)) (valued B v (drop at m) (cut 1 (drop (e + 1) m)))
    grab_opened =
        let k : value (leading_digits (drop at m)) ≡ v = head_is m at v e T low in
        let l : ltb v 65536 ≡ true = lt-ltb v 65536 low in
        grab_is B (drop at m)
        ∙ ap (tagged B (drop at m)) (head_cut m at v e T)
        ∙ tagged_is B (drop at m) (leading_digits (drop at m)) (drop (e + 1) m)
        ∙ rw ((head_at m at v e T).form, k, l)

    module _ (y q : ℕ) (known : Known B v y q) where
      pub grab_bounded : eqb y 10 ≡ true → Grabs (refusal Case.Pair at)
      grab_bounded x = (sym (grab_opened ∙ rw (← known.0, x)), (omega arith, λ i. i, refl))

      module _ (x : eqb y 10 ≡ false) where
        grab_valued : grab B (drop at m) ≡ valued B v (drop at m) (cut 1 (drop (e + 1) m))
        grab_valued = grab_opened ∙ rw (← known.0, x)

        valued_empty : (c : Cut) → kept (λ v r. some v) c ≡ uncut → valued B v (drop at m) c ≡ fault 8 (drop at m)
        valued_empty uncut h = valued_none B v (drop at m)
        valued_empty (cut_at w r) h = valued_is B v (drop at m) w r ∙ rw (kept_none (λ v r. some v) w r h)

        pub grab_empty : kept (λ v r. some v) (cut 1 (drop (e + 1) m)) ≡ uncut → Grabs (refusal Case.Form at)
        grab_empty h = (sym (grab_valued ∙ valued_empty (cut 1 (drop (e + 1) m)) h), (omega arith, λ i. i, refl))

        module _ (w r : List ℕ) (h : kept (λ v r. some v) (cut 1 (drop (e + 1) m)) ≡ cut_at w r) where
          cut_value : (cut 1 (drop (e + 1) m) ≡ cut_at w r) × (some w ≡ true)
          cut_value = kept_some (λ v r. some v) (cut 1 (drop (e + 1) m)) w r h

          parts : w ++ (1 ∷ r) ≡ drop (e + 1) m
          parts = cut_parts (drop (e + 1) m) w r cut_value.0

          pub grab_inside : e + 1 + length w < length m
          grab_inside =
              let l : length w + suc (length r) ≡ length (drop (e + 1) m) = sym (length-append w (1 ∷ r)) ∙ ap length parts in
              omega (arith, l, length-drop (e + 1) m)

          pub grab_some : 0 < length w
          grab_some = go w cut_value.1
            where
              go : (w : List ℕ) → some w ≡ true → 0 < length w
              go [] q = cc
              go (b ∷ w) q = omega arith

          text_is : between m (e + 1) (e + 1 + length w) ≡ w
          text_is = let k : e + 1 + length w - (e + 1) ≡ length w = omega arith in rw (k, ← parts) (take_at w (1 ∷ r) (length w) refl)

          rest_is : drop (e + 1 + length w + 1) m ≡ r
          rest_is =
              let k : e + 1 + (length w + 1) ≡ e + 1 + length w + 1 = omega arith in
              rw (← k) (sym (drop-drop (length w + 1) (e + 1) m) ∙ ap (drop (length w + 1)) (sym parts) ∙ sym (drop-drop 1 (length w) (w ++ (1 ∷ r))) ∙ ap (drop 1) (drop_at w (1 ∷ r) (length w) refl))

          pub grab_stands : Stands m at v (e + 1) (e + 1 + length w)
          grab_stands = record {
            tag = low;
            past = omega (arith, head_start m at v e T low, lead_some v);
            start = head_start m at v e T low;
            some = omega (arith, grab_some);
            inside = grab_inside;
          }

          pub grab_value : (a : Result Grabbed Refused)
              → ((B : List Record) → Known B v y q → Stands m at v (e + 1) (e + 1 + length w)
              → Takes B m at (valued B v (drop at m) (cut_at (between m (e + 1) (e + 1 + length w)) (drop (e + 1 + length w + 1) m))) a)
              → Grabs a
          grab_value a g =
              let p = g B known grab_stands in
              (p.0 ∙ sym (grab_valued ∙ ap (valued B v (drop at m)) (cut_value.0 ∙ rw (text_is, rest_is))), p.1)
