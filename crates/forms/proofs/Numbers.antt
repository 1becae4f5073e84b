-- Types 6 to 8: the form is what Words says. Assumes nothing.
use mathlib.Core.Path.{◌≡◌, refl, sym, ap, ◌∙◌}
use Prim.Native.Nat.{ℕ, zero, suc, ◌+◌, ◌-◌, ◌*◌, ◌<◌, ◌≤◌}
use native.Mathlib.Nat.{not-suc-le-zero}
use native.Mathlib.Omega.{arith}
use mathlib.Core.Bool.{Bool, true, false, ◌&&◌, true≢false}
use mathlib.Core.List.{List, [], ◌∷◌}
use lib.Dec.{leb, ltb}
use borrow.Author.Tests.{leb-true, leb-false, le-leb, lt-leb, lt-ltb}
use Rattle.forms.specs.Form.{Form, none, nil, one, ◌▷◌, ◌∣◌, many, seq, alt_r, alt, null, after, accepts}
use Rattle.forms.specs.Meaning.{none_law}
use Rattle.forms.specs.Types.{byte, digit as digit_form, positive, day_of_month}
use Rattle.forms.specs.Words.{is_positive, is_day}
use Rattle.numbers.specs.Decimal.{digit, digits, value_from}
use Rattle.numbers.proofs.Tests.{and_left, and_right}

-- a form that begins with a digit only, and speaks of digits only
unfoldable pub digital : Form → Bool
digital none = true
digital nil = true
digital (one lo hi) = leb 48 lo && leb hi 57
digital (f ▷ g) = digital f && digital g
digital (f ∣ g) = digital f && digital g
digital (many f) = digital f

pub others : (b : ℕ) → digit b ≡ false → (f : Form) → digital f ≡ true → after b f ≡ none
unfolding digital after alt seq
others b n none e = refl
others b n nil e = refl
others b n (one lo hi) e = go (leb lo b) refl (leb b hi) refl
  where
    go : (t : Bool) → leb lo b ≡ t → (u : Bool) → leb b hi ≡ u → elim (t && u) [ true ↦ nil | false ↦ none ] ≡ none
    go false p u q = refl
    go true p false q = refl
    go true p true q =
        let x : 48 ≤ lo = leb-true 48 lo (and_left (leb 48 lo) (leb hi 57) e) in
        let y : hi ≤ 57 = leb-true hi 57 (and_right (leb 48 lo) (leb hi 57) e) in
        let l = leb-true lo b p in
        let m = leb-true b hi q in
        absurd (true≢false (sym (rw (le-leb 48 b (omega arith), le-leb b 57 (omega arith))) ∙ n))
others b n (f ▷ g) e =
    go (null f) (others b n f (and_left (digital f) (digital g) e)) (others b n g (and_right (digital f) (digital g) e))
  where
    go : (t : Bool) → after b f ≡ none → after b g ≡ none
        → elim t [ true ↦ alt (seq (after b f) g) (after b g) | false ↦ seq (after b f) g ] ≡ none
    go true p q = rw (p, q)
    go false p q = rw p
others b n (f ∣ g) e = rw (others b n f (and_left (digital f) (digital g) e), others b n g (and_right (digital f) (digital g) e))
others b n (many f) e = rw (others b n f e)

ten : (P : ℕ → Type 0) → P 0 → P 1 → P 2 → P 3 → P 4 → P 5 → P 6 → P 7 → P 8 → P 9 → (d : ℕ) → d < 10 → P d
ten P a b c d e f g h i j zero l = a
ten P a b c d e f g h i j (suc zero) l = b
ten P a b c d e f g h i j (suc (suc zero)) l = c
ten P a b c d e f g h i j (suc (suc (suc zero))) l = d
ten P a b c d e f g h i j (suc (suc (suc (suc zero)))) l = e
ten P a b c d e f g h i j (suc (suc (suc (suc (suc zero))))) l = f
ten P a b c d e f g h i j (suc (suc (suc (suc (suc (suc zero)))))) l = g
ten P a b c d e f g h i j (suc (suc (suc (suc (suc (suc (suc zero))))))) l = h
ten P a b c d e f g h i j (suc (suc (suc (suc (suc (suc (suc (suc zero)))))))) l = i
ten P a b c d e f g h i j (suc (suc (suc (suc (suc (suc (suc (suc (suc zero))))))))) l = j
ten P a b c d e f g h i j (suc (suc (suc (suc (suc (suc (suc (suc (suc (suc k)))))))))) l = absurd (omega arith)

-- a form that is a rule p on the value: F a is what may follow digits of value a
module _ (F : ℕ → Form) (p : ℕ → Bool) (ends : (a : ℕ) → null (F a) ≡ p a) (inner : (a : ℕ) → digital (F a) ≡ true)
    (steps : (a d : ℕ) → d < 10 → after (48 + d) (F a) ≡ F (a * 10 + d)) where
  numbers : (s : List ℕ) (a : ℕ) → accepts (F a) s ≡ (digits s && p (value_from a s))
  unfolding accepts digits value_from
  numbers [] a = ends a
  numbers (b ∷ s) a = go (leb 48 b) refl (leb b 57) refl (numbers s (a * 10 + (b - 48)))
    where
      go : (t : Bool) → leb 48 b ≡ t → (u : Bool) → leb b 57 ≡ u
          → accepts (F (a * 10 + (b - 48))) s ≡ (digits s && p (value_from (a * 10 + (b - 48)) s))
          → accepts (after b (F a)) s ≡ (t && u && digits s && p (value_from (a * 10 + (b - 48)) s))
      go true x true y ih =
          let l = leb-true 48 b x in
          let m = leb-true b 57 y in
          let k : 48 + (b - 48) ≡ b = omega arith in
          ap (λ n. accepts (after n (F a)) s) (sym k) ∙ ap (λ g. accepts g s) (steps a (b - 48) (omega arith)) ∙ ih
      go true x false y ih = ap (λ g. accepts g s) (others b (rw (x, y)) (F a) (inner a)) ∙ none_law s
      go false x u y ih = ap (λ g. accepts g s) (others b (rw x) (F a) (inner a)) ∙ none_law s

-- type 6 and 7
pos_at : ℕ → Form
pos_at zero = positive
pos_at (suc a) = many digit_form

pub positive_is : (s : List ℕ) → accepts positive s ≡ is_positive s
unfolding pos_at is_positive null positive digital byte digit_form after seq alt alt_r
positive_is s = numbers pos_at (ltb 0) ends inner steps s 0
  where
    ends : (a : ℕ) → null (pos_at a) ≡ ltb 0 a
    ends zero = refl
    ends (suc a) = sym (lt-ltb 0 (suc a) (omega arith))

    inner : (a : ℕ) → digital (pos_at a) ≡ true
    inner zero = refl
    inner (suc a) = refl

    same : (n : ℕ) → 0 < n → many digit_form ≡ pos_at n
    same zero h = absurd (not-suc-le-zero h)
    same (suc n) h = refl

    steps : (a d : ℕ) → d < 10 → after (48 + d) (pos_at a) ≡ pos_at (a * 10 + d)
    steps zero d h = ten (λ d. after (48 + d) (pos_at 0) ≡ pos_at (0 * 10 + d)) refl refl refl refl refl refl refl refl refl refl d h
    steps (suc a) d h = ten (λ d. after (48 + d) (many digit_form) ≡ many digit_form) refl refl refl refl refl refl refl refl refl refl d h ∙ same (suc a * 10 + d) (omega arith)

-- type 8
day_at : ℕ → Form
day_at zero = day_of_month
day_at (suc zero) = nil ∣ digit_form
day_at (suc (suc zero)) = nil ∣ digit_form
day_at (suc (suc (suc zero))) = nil ∣ one 48 49
day_at (suc (suc (suc (suc a)))) = elim (leb a 27) [ true ↦ nil | false ↦ none ]

pub day_is : (s : List ℕ) → accepts day_of_month s ≡ is_day s
unfolding day_at is_day null day_of_month digital byte digit_form after seq alt alt_r
day_is s = numbers day_at (λ a. leb 1 a && leb a 31) ends inner steps s 0
  where
    late : (a : ℕ) (t : Bool) → leb a 27 ≡ t → null (elim t [ true ↦ nil | false ↦ none ]) ≡ (leb 1 (suc (suc (suc (suc a)))) && leb (suc (suc (suc (suc a)))) 31)
    late a true e = let h = leb-true a 27 e in sym (rw (le-leb 1 (suc (suc (suc (suc a)))) (omega arith), le-leb (suc (suc (suc (suc a)))) 31 (omega arith)))
    late a false e = let h = leb-false a 27 e in sym (rw (le-leb 1 (suc (suc (suc (suc a)))) (omega arith), lt-leb (suc (suc (suc (suc a)))) 31 (omega arith)))

    ends : (a : ℕ) → null (day_at a) ≡ (leb 1 a && leb a 31)
    ends zero = refl
    ends (suc zero) = refl
    ends (suc (suc zero)) = refl
    ends (suc (suc (suc zero))) = refl
    ends (suc (suc (suc (suc a)))) = late a (leb a 27) refl

    plain : (t : Bool) → digital (elim t [ true ↦ nil | false ↦ none ]) ≡ true
    plain true = refl
    plain false = refl

    inner : (a : ℕ) → digital (day_at a) ≡ true
    inner zero = refl
    inner (suc zero) = refl
    inner (suc (suc zero)) = refl
    inner (suc (suc (suc zero))) = refl
    inner (suc (suc (suc (suc a)))) = plain (leb a 27)

    gone : (b : ℕ) (t : Bool) → after b (elim t [ true ↦ nil | false ↦ none ]) ≡ none
    gone b true = refl
    gone b false = refl

    beyond : (n : ℕ) → 31 < n → none ≡ day_at n
    beyond zero h = absurd (omega arith)
    beyond (suc zero) h = absurd (omega arith)
    beyond (suc (suc zero)) h = absurd (omega arith)
    beyond (suc (suc (suc zero))) h = absurd (omega arith)
    beyond (suc (suc (suc (suc a)))) h = let g : 27 < a = omega arith in rw (lt-leb a 27 g, day_at)

    steps : (a d : ℕ) → d < 10 → after (48 + d) (day_at a) ≡ day_at (a * 10 + d)
    steps zero d h = ten (λ d. after (48 + d) (day_at 0) ≡ day_at (0 * 10 + d)) refl refl refl refl refl refl refl refl refl refl d h
    steps (suc zero) d h = ten (λ d. after (48 + d) (day_at 1) ≡ day_at (1 * 10 + d)) refl refl refl refl refl refl refl refl refl refl d h
    steps (suc (suc zero)) d h = ten (λ d. after (48 + d) (day_at 2) ≡ day_at (2 * 10 + d)) refl refl refl refl refl refl refl refl refl refl d h
    steps (suc (suc (suc zero))) d h = ten (λ d. after (48 + d) (day_at 3) ≡ day_at (3 * 10 + d)) refl refl refl refl refl refl refl refl refl refl d h
    steps (suc (suc (suc (suc a)))) d h =
        gone (48 + d) (leb a 27) ∙ beyond (suc (suc (suc (suc a))) * 10 + d) (omega arith)
