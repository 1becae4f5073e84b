-- Types 5 to 8 by what stands in front: digits, zeros. Assumes nothing.
use mathlib.Core.Path.{◌≡◌, refl, sym, ap, ◌∙◌}
use Prim.Native.Nat.{ℕ, suc, ◌+◌, ◌-◌, ◌*◌, ◌<◌, ◌≤◌}
use native.Mathlib.Omega.{arith}
use mathlib.Core.Bool.{Bool, true, false, ◌&&◌, and-false, cond}
use mathlib.Core.List.{List, [], ◌∷◌}
use lib.Dec.{leb, ltb, eqb, leb-suc-suc, eqb-suc-suc, eqb-zero-suc}
use lib.ListN.{length, take, drop, get_or}
use borrow.Author.Tests.{leb-true, leb-false, le-leb, lt-leb, lt-ltb, eqb-true, eqb-false, eq-eqb}
use Rattle.std.specs.List.{prefix_len, take_while}
use Rattle.std.proofs.lemmas.List.Folds.{length-prefix_len}
use Rattle.numbers.specs.Decimal.{digit, digits, value_from}
use Rattle.numbers.proofs.Tests.{and_left, and_right, only_one, clash}
use Rattle.forms.specs.Form.{seq, alt_r, alt, null, after, accepts}
use Rattle.forms.specs.Types.{byte, digit as digit_form, len, positive, day_of_month}
use Rattle.forms.specs.Words.{is_positive, is_day, is_two}
use Rattle.forms.specs.Walks.{leading}
use Rattle.forms.proofs.Positions.{rest}
use Rattle.forms.proofs.Numbers.{positive_is, day_is}
use Rattle.forms.proofs.Texts.{more_is, some_is}

pub leading_le : (lo hi : ℕ) (s : List ℕ) → leading lo hi s ≤ length s
unfolding leading
leading_le lo hi [] = omega arith
leading_le lo hi (b ∷ s) = go (leb lo b && leb b hi) (leading_le lo hi s)
  where
    go : (t : Bool) → leading lo hi s ≤ length s → cond t (suc (leading lo hi s)) 0 ≤ suc (length s)
    go true h = omega arith
    go false h = omega arith

-- as an iterator has it
in_front : (lo hi : ℕ) (s : List ℕ) → leading lo hi s ≡ prefix_len (λ b. leb lo b && leb b hi) s
unfolding leading
in_front lo hi [] = refl
in_front lo hi (b ∷ s) = rw (in_front lo hi s) (go (leb lo b && leb b hi) (prefix_len (λ b. leb lo b && leb b hi) s))
  where
    go : (t : Bool) (n : ℕ) → cond t (suc n) 0 ≡ cond t (1 + n) 0
    go true n = omega arith
    go false n = refl

pub leading_is : (lo hi : ℕ) (s : List ℕ) → leading lo hi s ≡ length (take_while (λ b. leb lo b && leb b hi) s)
leading_is lo hi s = in_front lo hi s ∙ sym (length-prefix_len (λ b. leb lo b && leb b hi) s)

-- all bytes are digits if as many lead
digits_is : (s : List ℕ) → eqb (leading 48 57 s) (length s) ≡ digits s
unfolding leading digits
digits_is [] = refl
digits_is (b ∷ s) = go (leb 48 b && leb b 57) (digits_is s)
  where
    go : (t : Bool) → eqb (leading 48 57 s) (length s) ≡ digits s → eqb (cond t (suc (leading 48 57 s)) 0) (suc (length s)) ≡ (t && digits s)
    go true ih = eqb-suc-suc (leading 48 57 s) (length s) ∙ ih
    go false ih = eqb-zero-suc (length s)

pub len_is : (s : List ℕ) → accepts len s ≡ (ltb 0 (length s) && digits s)
unfolding len digit_form null digits after
len_is s = rw (some_is s) (more_is digit_form digit digits refl (λ b s. refl) refl s (λ i. refl))

-- a number only grows by what follows
grows : (s : List ℕ) (a : ℕ) → a ≤ value_from a s
unfolding value_from
grows [] a = omega arith
grows (b ∷ s) a = let h = grows s (a * 10 + (b - 48)) in omega arith

-- above zero if not all bytes are zeros
above : (s : List ℕ) → digits s ≡ true → ltb 0 (value_from 0 s) ≡ ltb (leading 48 48 s) (length s)
unfolding leading digits value_from
above [] d = refl
above (b ∷ s) d = rw (only_one 48 b) (go (eqb b 48) refl (above s (and_right (digit b) (digits s) d)))
  where
    go : (t : Bool) → eqb b 48 ≡ t → ltb 0 (value_from 0 s) ≡ ltb (leading 48 48 s) (length s)
        → ltb 0 (value_from (0 * 10 + (b - 48)) s) ≡ ltb (cond t (suc (leading 48 48 s)) 0) (suc (length s))
    go true e ih =
        let z : 0 * 10 + (b - 48) ≡ 0 = omega (arith, eqb-true b 48 e) in
        rw z (ih ∙ sym (leb-suc-suc (suc (leading 48 48 s)) (length s)))
    go false e ih =
        let l = leb-true 48 b (and_left (leb 48 b) (leb b 57) (and_left (digit b) (digits s) d)) in
        let g = grows s (0 * 10 + (b - 48)) in
        lt-ltb 0 (value_from (0 * 10 + (b - 48)) s) (omega (arith, eqb-false b 48 e)) ∙ sym (lt-ltb 0 (suc (length s)) (omega arith))

pub positive_at : (s : List ℕ) → accepts positive s ≡ (digits s && ltb (leading 48 48 s) (length s))
unfolding is_positive
positive_at s = positive_is s ∙ go (digits s) refl
  where
    go : (t : Bool) → digits s ≡ t → (t && ltb 0 (value_from 0 s)) ≡ (t && ltb (leading 48 48 s) (length s))
    go true d = above s d
    go false d = refl

-- zeros in front count for nothing
day_strip : (s : List ℕ) → accepts day_of_month s ≡ accepts day_of_month (drop (leading 48 48 s) s)
unfolding leading day_of_month byte digit_form accepts null after alt alt_r seq
day_strip [] = refl
day_strip (b ∷ s) = go (leb 48 b && leb b 48) refl (day_strip s)
  where
    go : (t : Bool) → (leb 48 b && leb b 48) ≡ t → accepts day_of_month s ≡ accepts day_of_month (drop (leading 48 48 s) s)
        → accepts (after b day_of_month) s ≡ accepts day_of_month (drop (cond t (suc (leading 48 48 s)) 0) (b ∷ s))
    go true e ih = ap (λ n. accepts (after n day_of_month) s) (eqb-true b 48 (sym (only_one 48 b) ∙ e)) ∙ ih
    go false e ih = refl

-- and no zero stands behind them
front : (s : List ℕ) → get_or (drop (leading 48 48 s) s) 0 0 ≡ 48 → ⊥
unfolding leading
front [] = λ h. omega arith
front (b ∷ s) = go (leb 48 b && leb b 48) refl (front s)
  where
    go : (t : Bool) → (leb 48 b && leb b 48) ≡ t → (get_or (drop (leading 48 48 s) s) 0 0 ≡ 48 → ⊥) → get_or (drop (cond t (suc (leading 48 48 s)) 0) (b ∷ s)) 0 0 ≡ 48 → ⊥
    go true e ih = ih
    go false e ih = λ h. clash (leb 48 b && leb b 48) (only_one 48 b ∙ eq-eqb b 48 h) e

-- behind the zeros: a digit, or two digits from 10 to 31
day_one : (t : List ℕ) → (get_or t 0 0 ≡ 48 → ⊥) → length t ≡ 1 → (leb 49 (get_or t 0 0) && leb (get_or t 0 0) 57) ≡ is_day t
unfolding is_day digits value_from
day_one [] n l = absurd (omega arith)
day_one (b ∷ []) n l = go (leb 49 b) refl (leb b 57) refl
  where
    go : (t : Bool) → leb 49 b ≡ t → (u : Bool) → leb b 57 ≡ u
        → (t && u) ≡ (leb 48 b && u && true && (leb 1 (0 * 10 + (b - 48)) && leb (0 * 10 + (b - 48)) 31))
    go true x true y =
        let h = leb-true 49 b x in
        let k = leb-true b 57 y in
        rw (le-leb 48 b (omega arith), le-leb 1 (0 * 10 + (b - 48)) (omega arith), le-leb (0 * 10 + (b - 48)) 31 (omega arith))
    go true x false y = let h = leb-true 49 b x in rw (le-leb 48 b (omega arith))
    go false x u y = let h = leb-false 49 b x in rw (lt-leb 48 b (omega (arith, n)))
day_one (b ∷ c ∷ t) n l = absurd (omega arith)

-- the first of some digits is not zero, so it counts
lead_digit : (a : ℕ) (s : List ℕ) → (a ≡ 48 → ⊥) → digits (a ∷ s) ≡ true → 48 < a
unfolding digits
lead_digit a s n d =
    let h = leb-true 48 a (and_left (leb 48 a) (leb a 57) (and_left (digit a) (digits s) d)) in
    omega (arith, n)

day_two : (t : List ℕ) → (get_or t 0 0 ≡ 48 → ⊥) → length t ≡ 2 → is_two 10 31 t ≡ is_day t
unfolding is_day is_two value_from
day_two [] n l = absurd (omega arith)
day_two (a ∷ []) n l = absurd (omega arith)
day_two (a ∷ b ∷ []) n l = go (digits (a ∷ b ∷ [])) refl
  where
    go : (t : Bool) → digits (a ∷ b ∷ []) ≡ t
        → (t && (leb 10 ((0 * 10 + (a - 48)) * 10 + (b - 48)) && leb ((0 * 10 + (a - 48)) * 10 + (b - 48)) 31))
        ≡ (t && (leb 1 ((0 * 10 + (a - 48)) * 10 + (b - 48)) && leb ((0 * 10 + (a - 48)) * 10 + (b - 48)) 31))
    go true d =
        let h = lead_digit a (b ∷ []) n d in
        rw (le-leb 10 ((0 * 10 + (a - 48)) * 10 + (b - 48)) (omega arith), le-leb 1 ((0 * 10 + (a - 48)) * 10 + (b - 48)) (omega arith))
    go false d = refl
day_two (a ∷ b ∷ c ∷ t) n l = absurd (omega arith)

-- two bytes
two_of : (t : List ℕ) → length t ≡ 2 → get_or t 0 0 ∷ get_or t 1 0 ∷ [] ≡ t
two_of [] l = absurd (omega arith)
two_of (a ∷ []) l = absurd (omega arith)
two_of (a ∷ b ∷ []) l = refl
two_of (a ∷ b ∷ c ∷ t) l = absurd (omega arith)

day_other : (t : List ℕ) → (get_or t 0 0 ≡ 48 → ⊥) → (length t ≡ 1 → ⊥) → (length t ≡ 2 → ⊥) → false ≡ is_day t
unfolding is_day value_from digits
day_other [] n p q = refl
day_other (a ∷ []) n p q = absurd (p refl)
day_other (a ∷ b ∷ []) n p q = absurd (q refl)
day_other (a ∷ b ∷ c ∷ t) n p q = go (digits (a ∷ b ∷ c ∷ t)) refl
  where
    v : ℕ
    v = ((0 * 10 + (a - 48)) * 10 + (b - 48)) * 10 + (c - 48)

    go : (d : Bool) → digits (a ∷ b ∷ c ∷ t) ≡ d → false ≡ (d && (leb 1 (value_from v t) && leb (value_from v t) 31))
    go true d =
        let h = lead_digit a (b ∷ c ∷ t) n d in
        let g = grows t v in
        rw (lt-leb (value_from v t) 31 (omega arith), and-false)
    go false d = refl

-- as the code has it, what stands behind the zeros
module _ (s : List ℕ) (z : ℕ) (e : z ≡ leading 48 48 s) where
  abbrev pub behind : List ℕ
  behind = take (length s - z) (drop z s)

  behind_is : behind ≡ drop (leading 48 48 s) s
  behind_is = rest s z ∙ rw e

  first : get_or behind 0 0 ≡ 48 → ⊥
  first = rw behind_is (front s)

  stripped : is_day behind ≡ accepts day_of_month s
  stripped = rw behind_is (sym (day_strip s ∙ day_is (drop (leading 48 48 s) s)))

  pub day_1 : 1 ≤ length behind → length behind < 2 → (r : Bool) → r ≡ (leb 49 (get_or behind 0 0) && leb (get_or behind 0 0) 57) → r ≡ accepts day_of_month s
  day_1 l m r x = x ∙ day_one behind first (omega arith) ∙ stripped

  pub day_2 : 2 ≤ length behind → length behind < 3 → (r : Bool) → r ≡ is_two 10 31 (get_or behind 0 0 ∷ get_or behind 1 0 ∷ []) → r ≡ accepts day_of_month s
  day_2 l m r x = x ∙ ap (is_two 10 31) (two_of behind (omega arith)) ∙ day_two behind first (omega arith) ∙ stripped

  pub day_3 : (length behind ≡ 1 → ⊥) → (length behind ≡ 2 → ⊥) → false ≡ accepts day_of_month s
  day_3 p q = day_other behind first p q ∙ stripped
