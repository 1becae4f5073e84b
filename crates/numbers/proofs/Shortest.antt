-- Decimal text without zeros in front, and its number: each gives the other back. Assumes nothing.
use mathlib.Core.Path.{◌≡◌, refl, ap, ◌∙◌}
use mathlib.Core.Bool.{Bool, true, false, ◌&&◌, not}
use mathlib.Core.List.{List, [], ◌∷◌}
use Prim.Native.Nat.{ℕ, zero, suc, ◌+◌, ◌-◌, ◌*◌, ◌/◌, ◌%◌, ◌≤◌, ◌<◌}
use native.Mathlib.Omega.{arith}
use lib.Dec.{eqb, leb}
use lib.ListN.{length}
use borrow.Author.Tests.{eqb-true, eqb-false, eq-eqb, ne_eqb, le-leb, leb-true, not-true}
use Rattle.numbers.specs.Bytes.{free}
use Rattle.numbers.specs.Decimal.{digit, digits, value_from, value, tag_form, render_onto, render}
use Rattle.numbers.proofs.Tests.{clash, to_false, and_left, and_right}

digit_low : (b : ℕ) → digit b ≡ true → 48 ≤ b
digit_low b e = leb-true 48 b (and_left (leb 48 b) _ e)

digit_high : (b : ℕ) → digit b ≡ true → b ≤ 57
digit_high b e = leb-true b 57 (and_right (leb 48 b) _ e)

-- the number of what is rendered
render_value : (f n : ℕ) (s : List ℕ) → n ≤ f → value_from 0 (render_onto f n s) ≡ value_from n s
unfolding value_from render_onto
render_value zero n s h = ap (λ k. value_from k s) (omega arith)
render_value (suc f) n s h = go (eqb (n / 10) 0) refl (render_value f (n / 10) ((48 + n % 10) ∷ s))
  where
    go : (t : Bool) → eqb (n / 10) 0 ≡ t → (n / 10 ≤ f → value_from 0 (render_onto f (n / 10) ((48 + n % 10) ∷ s)) ≡ value_from (n / 10) ((48 + n % 10) ∷ s))
        → value_from 0 (render_onto (suc f) n s) ≡ value_from n s
    go true e ih =
        let z : n / 10 ≡ 0 = eqb-true _ _ e in
        let k : 0 * 10 + (48 + n % 10 - 48) ≡ n = omega arith in
        rw (e, render_onto) (ap (λ m. value_from m s) k)
    go false e ih =
        let k : n / 10 * 10 + (48 + n % 10 - 48) ≡ n = omega arith in
        rw (e, render_onto) (ih (omega arith) ∙ ap (λ m. value_from m s) k)

pub value_render : (n : ℕ) → value (render n) ≡ n
unfolding value_from render
value_render n = render_value (suc n) n [] (omega arith)

-- what is rendered has no zero in front
render_form : (f n : ℕ) (s : List ℕ) → n ≤ f → 0 < n → digits s ≡ true → tag_form (render_onto f n s) ≡ true
unfolding render_onto digits
render_form zero n s h p d = absurd (omega arith)
render_form (suc f) n s h p d = go (eqb (n / 10) 0) refl (render_form f (n / 10) ((48 + n % 10) ∷ s))
  where
    lo : leb 48 (48 + n % 10) ≡ true
    lo = le-leb 48 (48 + n % 10) (omega arith)

    hi : leb (48 + n % 10) 57 ≡ true
    hi = le-leb (48 + n % 10) 57 (omega arith)

    go : (t : Bool) → eqb (n / 10) 0 ≡ t → (n / 10 ≤ f → 0 < n / 10 → digits ((48 + n % 10) ∷ s) ≡ true → tag_form (render_onto f (n / 10) ((48 + n % 10) ∷ s)) ≡ true)
        → tag_form (render_onto (suc f) n s) ≡ true
    go true e ih =
        let z : n / 10 ≡ 0 = eqb-true _ _ e in
        let k : eqb (48 + n % 10) 48 ≡ false = ne_eqb (48 + n % 10) 48 (omega arith) in
        rw (e, render_onto, lo, hi, k, d)
    go false e ih =
        let z : n / 10 ≡ 0 → ⊥ = eqb-false _ _ e in
        rw (e, render_onto) (ih (omega arith) (omega arith) (rw (lo, hi, d)))

pub form_render : (n : ℕ) → 0 < n → tag_form (render n) ≡ true
unfolding digits render
form_render n p = render_form (suc n) n [] (omega arith) p refl

-- digits with the last one first
val_r : List ℕ → ℕ
val_r [] = 0
val_r (b ∷ t) = val_r t * 10 + (b - 48)

rev_onto : List ℕ → List ℕ → List ℕ
rev_onto [] t = t
rev_onto (b ∷ s) t = rev_onto s (b ∷ t)

ok_r : List ℕ → Bool
ok_r [] = false
ok_r (b ∷ []) = digit b && not (eqb b 48)
ok_r (b ∷ c ∷ t) = digit b && ok_r (c ∷ t)

ok_r_long : (t : List ℕ) → ok_r t ≡ true → (length t ≤ val_r t) × (0 < val_r t)
unfolding ok_r val_r
ok_r_long [] e = clash false e refl
ok_r_long (b ∷ []) e =
    let lo = digit_low b (and_left (digit b) _ e) in
    let n = eqb-false b 48 (not-true _ (and_right (digit b) _ e)) in
    (omega arith, omega arith)
ok_r_long (b ∷ c ∷ t) e = let h = ok_r_long (c ∷ t) (and_right (digit b) _ e) in (omega (arith, h.0, h.1), omega (arith, h.1))

one_more : (f n b : ℕ) (acc : List ℕ) → 0 < n → 48 ≤ b → b ≤ 57 → render_onto (suc f) (n * 10 + (b - 48)) acc ≡ render_onto f n (b ∷ acc)
unfolding render_onto
one_more f n b acc p lo hi =
    let z : eqb ((n * 10 + (b - 48)) / 10) 0 ≡ false = ne_eqb ((n * 10 + (b - 48)) / 10) 0 (omega arith) in
    let q : (n * 10 + (b - 48)) / 10 ≡ n = omega arith in
    let k : 48 + (n * 10 + (b - 48)) % 10 ≡ b = omega arith in
    rw (z, render_onto, q, k)

render_r : (f : ℕ) (t acc : List ℕ) → ok_r t ≡ true → length t ≤ f → render_onto f (val_r t) acc ≡ rev_onto t acc
unfolding ok_r val_r rev_onto render_onto
render_r f [] acc e h = clash false e refl
render_r zero (b ∷ []) acc e h = absurd (omega arith)
render_r zero (b ∷ c ∷ t) acc e h = absurd (omega arith)
render_r (suc f) (b ∷ []) acc e h =
    let lo = digit_low b (and_left (digit b) _ e) in
    let hi = digit_high b (and_left (digit b) _ e) in
    let z : eqb ((0 * 10 + (b - 48)) / 10) 0 ≡ true = eq-eqb ((0 * 10 + (b - 48)) / 10) 0 (omega arith) in
    let k : 48 + (0 * 10 + (b - 48)) % 10 ≡ b = omega arith in
    rw (z, render_onto, k)
render_r (suc f) (b ∷ c ∷ t) acc e h =
    let lo = digit_low b (and_left (digit b) _ e) in
    let hi = digit_high b (and_left (digit b) _ e) in
    let p = ok_r_long (c ∷ t) (and_right (digit b) _ e) in
    one_more f (val_r (c ∷ t)) b acc p.1 lo hi ∙ render_r f (c ∷ t) (b ∷ acc) (and_right (digit b) _ e) (omega arith)

value_rev : (s t : List ℕ) → value_from (val_r t) s ≡ val_r (rev_onto s t)
unfolding value_from val_r rev_onto
value_rev [] t = refl
value_rev (b ∷ s) t = value_rev s (b ∷ t)

rev_rev : (s t : List ℕ) → rev_onto (rev_onto s t) [] ≡ rev_onto t s
unfolding rev_onto
rev_rev [] t = refl
rev_rev (b ∷ s) t = rev_rev s (b ∷ t)

ok_r_rev : (s : List ℕ) (b : ℕ) (t : List ℕ) → digits s ≡ true → ok_r (b ∷ t) ≡ true → ok_r (rev_onto s (b ∷ t)) ≡ true
unfolding digits ok_r rev_onto
ok_r_rev [] b t d e = e
ok_r_rev (c ∷ s) b t d e = ok_r_rev s c (b ∷ t) (and_right (digit c) _ d) (rw (and_left (digit c) _ d) e)

-- a tag's text is the only one of its number
module _ (b : ℕ) (s : List ℕ) (e : tag_form (b ∷ s) ≡ true) where
  ok : ok_r (rev_onto s (b ∷ [])) ≡ true
  unfolding ok_r
  ok = ok_r_rev s b [] (and_right (digit b && not (eqb b 48)) _ e) (and_left (digit b && not (eqb b 48)) _ e)

  rev_value : value (b ∷ s) ≡ val_r (rev_onto s (b ∷ []))
  unfolding value_from val_r rev_onto
  rev_value = value_rev (b ∷ s) []

pub render_of : (d : List ℕ) → tag_form d ≡ true → render (value d) ≡ d
unfolding rev_onto render
render_of [] e = clash false e refl
render_of (b ∷ s) e =
    let h = ok_r_long (rev_onto s (b ∷ [])) (ok b s e) in
    rw (rev_value b s e) (render_r (suc (val_r (rev_onto s (b ∷ [])))) (rev_onto s (b ∷ [])) [] (ok b s e) (omega (arith, h.0)) ∙ rev_rev s (b ∷ []))

pub form_pos : (d : List ℕ) → tag_form d ≡ true → 0 < value d
form_pos [] e = clash false e refl
form_pos (b ∷ s) e = rw (rev_value b s e) (ok_r_long (rev_onto s (b ∷ [])) (ok b s e)).1

-- a byte that is no digit stands in no digits
pub digits_free : (c : ℕ) (s : List ℕ) → digit c ≡ false → digits s ≡ true → free c s ≡ true
unfolding digits free
digits_free c [] n d = refl
digits_free c (b ∷ s) n d = rw (differs, digits_free c s n (and_right (digit b) _ d))
  where
    differs : eqb b c ≡ false
    differs = to_false (eqb b c) (λ q. clash (digit c) (rw (← eqb-true b c q) (and_left (digit b) _ d)) n)

pub form_free : (c : ℕ) (s : List ℕ) → digit c ≡ false → tag_form s ≡ true → free c s ≡ true
unfolding digits
form_free c [] n e = clash false e refl
form_free c (b ∷ s) n e =
    digits_free c (b ∷ s) n (rw (and_left (digit b) _ (and_left (digit b && not (eqb b 48)) _ e)) (and_right (digit b && not (eqb b 48)) _ e))

pub render_some : (n : ℕ) → 0 < length (render n)
unfolding render
render_some n = from (suc n) n [] (omega arith)
  where
    from : (f k : ℕ) (s : List ℕ) → 0 < f + length s → 0 < length (render_onto f k s)
    from zero k s h = omega arith
    from (suc f) k s h = go (eqb (k / 10) 0) refl (from f (k / 10) ((48 + k % 10) ∷ s) (omega arith))
      where
        go : (t : Bool) → eqb (k / 10) 0 ≡ t → 0 < length (render_onto f (k / 10) ((48 + k % 10) ∷ s)) → 0 < length (render_onto (suc f) k s)
        go true e ih = rw (e, render_onto) (omega arith)
        go false e ih = rw (e, render_onto) ih
