-- Types 4 and 9: a sign, and digits around a point. Assumes nothing.
use mathlib.Core.Path.{◌≡◌, refl, sym, ap, ◌∙◌}
use Prim.Native.Nat.{ℕ, suc, ◌+◌, ◌-◌, ◌<◌, ◌≤◌}
use native.Mathlib.Nat.{add-zero}
use native.Mathlib.Numerals.{add-one}
use native.Mathlib.Omega.{arith}
use mathlib.Core.Bool.{Bool, true, false, ◌&&◌, ◌||◌, not, cond, and-true, or-false, false≢true}
use mathlib.Core.List.{List, [], ◌∷◌}
use lib.Dec.{leb, ltb, eqb, leb-suc-suc, eqb-suc-suc, eqb-zero-suc}
use lib.ListN.{length, take, drop, get_or, length-drop, length-take}
use lib.Seq.{drop-drop, get_or-drop}
use borrow.Author.Tests.{leb-true, lt-ltb, eqb-true, eqb-false, eq-eqb, ne_eqb}
use denote.Ref.{Bor}
use Rattle.std.specs.declared.option.Option.{Option}
use Rattle.std.specs.declared.option.Option.TheVariants.{None, Some}
use Rattle.std.specs.Option.{MatchOption, unwrap_or}
use Rattle.std.specs.Cmp.Lexicographic.{pointwise}
use Rattle.numbers.specs.Decimal.{digit, digits}
use Rattle.numbers.proofs.Tests.{and_left, only_one, clash}
use Rattle.forms.specs.Form.{Form, none, nil, ◌▷◌, ◌∣◌, many, seq, alt_r, alt, null, after, accepts}
use Rattle.forms.specs.Meaning.{none_law}
use Rattle.forms.specs.Types.{byte, digit as digit_form, more, maybe, len, int, float}
use Rattle.forms.specs.Walks.{leading, unsigned}
use Rattle.forms.proofs.Positions.{rest}
use Rattle.forms.proofs.Stamps.{maybe_then}
use Rattle.forms.proofs.Texts.{many_is}
use Rattle.forms.proofs.Leading.{leading_le, len_is}

-- a form that no `-` begins, behind an optional one
module _ (h : Form) (z : after 45 h ≡ none) where
  refuse : (b : ℕ) (s : List ℕ) → eqb b 45 ≡ true → accepts h (b ∷ s) ≡ false
  unfolding accepts
  refuse b s e = ap (λ n. accepts (after n h) s) (eqb-true b 45 e) ∙ ap (λ g. accepts g s) z ∙ none_law s

  pub minus_is : (s : List ℕ) → accepts (maybe (byte 45) ▷ h) s ≡ accepts h (unsigned s)
  unfolding unsigned maybe byte accepts null after seq
  minus_is [] = refl
  minus_is (b ∷ s) = maybe_then (byte 45) h (b ∷ s) ∙ rw (only_one 45 b) (go (eqb b 45) refl)
    where
      go : (t : Bool) → eqb b 45 ≡ t
          → (accepts h (b ∷ s) || accepts (seq (elim t [ true ↦ nil | false ↦ none ]) h) s) ≡ accepts h (cond t s (b ∷ s))
      go true e = rw (refuse b s e)
      go false e = rw (none_law s) (or-false (accepts h (b ∷ s)))

-- how many digits lead
abbrev lead : List ℕ → ℕ
lead s = leading 48 57 s

-- digits, then nothing or a point and digits
tail : Form
tail = maybe (byte 46 ▷ many digit_form)

-- digits with at most one point, at least one digit
abbrev pub Decimal : Form
Decimal = more digit_form ▷ maybe (byte 46 ▷ many digit_form) ∣ byte 46 ▷ more digit_form

pub int_is : (s : List ℕ) → accepts int s ≡ accepts len (unsigned s)
unfolding int len digit_form more after seq null
int_is s = minus_is len refl s

pub float_is : (s : List ℕ) → accepts float s ≡ accepts Decimal (unsigned s)
unfolding float digit_form byte maybe more after seq alt alt_r null
float_is s = minus_is Decimal refl s

digits_many : (s : List ℕ) → accepts (many digit_form) s ≡ digits s
unfolding digit_form digits after
digits_many s = many_is digit_form digit digits refl (λ b s. refl) s (λ i. refl)

-- no digit is a point
apart : (b : ℕ) → (leb 48 b && leb b 57) ≡ true → (leb 46 b && leb b 46) ≡ false
apart b e = let l = leb-true 48 b (and_left (leb 48 b) (leb b 57) e) in rw (only_one 46 b) (ne_eqb b 46 (λ q. omega arith))

behind_is : (s : List ℕ)
    → accepts (many digit_form ▷ tail) s
    ≡ cond (eqb (lead s) (length s)) true (eqb (get_or s (lead s) 0) 46 && digits (drop (suc (lead s)) s))
unfolding tail maybe leading byte digit_form accepts null after seq alt alt_r
behind_is [] = refl
behind_is (b ∷ s) = go (leb 48 b && leb b 57) refl (leb 46 b && leb b 46) refl (behind_is s)
  where
    go : (d : Bool) → (leb 48 b && leb b 57) ≡ d → (p : Bool) → (leb 46 b && leb b 46) ≡ p
        → accepts (many digit_form ▷ tail) s ≡ cond (eqb (lead s) (length s)) true (eqb (get_or s (lead s) 0) 46 && digits (drop (suc (lead s)) s))
        → accepts (alt (seq (seq (elim d [ true ↦ nil | false ↦ none ]) (many digit_form)) tail) (seq (elim p [ true ↦ nil | false ↦ none ]) (many digit_form))) s
        ≡ cond (eqb (cond d (suc (lead s)) 0) (suc (length s))) true (eqb (get_or (b ∷ s) (cond d (suc (lead s)) 0) 0) 46 && digits (drop (suc (cond d (suc (lead s)) 0)) (b ∷ s)))
    go true d true p ih = clash (leb 46 b && leb b 46) p (apart b d)
    go true d false p ih = rw (eqb-suc-suc (lead s) (length s)) ih
    go false d true p ih = rw (eqb-zero-suc (length s), ← only_one 46 b, p) (digits_many s)
    go false d false p ih = rw (eqb-zero-suc (length s), ← only_one 46 b, p) (none_law s)

decimal_is : (s : List ℕ)
    → accepts Decimal s
    ≡ cond (eqb (lead s) (length s)) (ltb 0 (lead s)) (eqb (get_or s (lead s) 0) 46 && ltb 1 (length s) && digits (drop (suc (lead s)) s))
unfolding tail more maybe len leading byte digit_form accepts null after seq alt alt_r
decimal_is [] = refl
decimal_is (b ∷ s) = go (leb 48 b && leb b 57) refl (leb 46 b && leb b 46) refl
  where
    long : (t : Bool) → eqb (lead s) (length s) ≡ t → (u v : Bool)
        → cond t true (u && v) ≡ cond t (ltb 0 (suc (lead s))) (u && ltb 1 (suc (length s)) && v)
    long true e u v = sym (lt-ltb 0 (suc (lead s)) (omega arith))
    long false e u v =
        let h = leading_le 48 57 s in
        rw (lt-ltb 1 (suc (length s)) (omega (arith, eqb-false (lead s) (length s) e)), and-true u)

    go : (d : Bool) → (leb 48 b && leb b 57) ≡ d → (p : Bool) → (leb 46 b && leb b 46) ≡ p
        → accepts (alt (seq (seq (elim d [ true ↦ nil | false ↦ none ]) (many digit_form)) tail) (seq (elim p [ true ↦ nil | false ↦ none ]) (more digit_form))) s
        ≡ cond (eqb (cond d (suc (lead s)) 0) (suc (length s))) (ltb 0 (cond d (suc (lead s)) 0)) (eqb (get_or (b ∷ s) (cond d (suc (lead s)) 0) 0) 46 && ltb 1 (suc (length s)) && digits (drop (suc (cond d (suc (lead s)) 0)) (b ∷ s)))
    go true d true p = clash (leb 46 b && leb b 46) p (apart b d)
    go true d false p = behind_is s ∙ rw (eqb-suc-suc (lead s) (length s)) (long (eqb (lead s) (length s)) refl (eqb (get_or s (lead s) 0) 46) (digits (drop (suc (lead s)) s)))
    go false d true p = rw (eqb-zero-suc (length s), ← only_one 46 b, p, leb-suc-suc 1 (length s)) (len_is s)
    go false d false p = rw (eqb-zero-suc (length s), ← only_one 46 b, p) (none_law s)

above_zero : (k : ℕ) → ltb 0 k ≡ not (eqb k 0)
above_zero k = go (eqb k 0) refl
  where
    go : (t : Bool) → eqb k 0 ≡ t → ltb 0 k ≡ not t
    go true e = rw (eqb-true k 0 e)
    go false e = lt-ltb 0 k (omega (arith, eqb-false k 0 e))

-- as the code has it, r behind the k digits in front
module _ (s : List ℕ) (k : ℕ) (e : k ≡ lead s) (r : List ℕ) (f : r ≡ drop k s) where
  long : length r + k ≡ length s
  long = let h : k ≤ length s = rw e (leading_le 48 57 s) in rw f (omega (arith, length-drop k s))

  here : get_or r 0 0 ≡ get_or s k 0
  here = rw f (get_or-drop k s 0 0 ∙ rw add-zero)

  later : take (length r - 1) (drop 1 r) ≡ drop (suc k) s
  later = rest r 1 ∙ rw f (drop-drop 1 k s ∙ rw add-one)

  pub decimal_whole : length r < 1 → (p : Bool) → p ≡ eqb (length (take k s)) 0 → not p ≡ accepts Decimal s
  decimal_whole l p q =
      let n : k ≡ length s = omega (arith, long) in
      let t : length (take k s) ≡ k = omega (arith, length-take k s) in
      ap not (q ∙ rw t) ∙ sym (above_zero k) ∙ sym (decimal_is s ∙ rw (← e, eq-eqb k (length s) n))

  pub decimal_point : 1 ≤ length r → get_or r 0 0 ≡ 46 → accepts Decimal s ≡ (ltb 1 (length s) && digits (take (length r - 1) (drop 1 r)))
  decimal_point l q =
      let n : k ≡ length s → ⊥ = λ m. omega (arith, long) in
      decimal_is s ∙ rw (← e, ne_eqb k (length s) n, ← here, eq-eqb (get_or r 0 0) 46 q, ← later)

  pub decimal_other : 1 ≤ length r → (get_or r 0 0 ≡ 46 → ⊥) → false ≡ accepts Decimal s
  decimal_other l m =
      let n : k ≡ length s → ⊥ = λ m. omega (arith, long) in
      sym (decimal_is s ∙ rw (← e, ne_eqb k (length s) n, ← here, ne_eqb (get_or r 0 0) 46 m))

-- as the code has it
at_sign : (l : List ℕ) → pointwise eqb (take 1 l) (45 ∷ []) ≡ true → drop 1 l ≡ unsigned l
unfolding unsigned
at_sign [] e = absurd (false≢true e)
at_sign (b ∷ l) e = rw (and_left (eqb b 45) true e)

no_sign : (l : List ℕ) → pointwise eqb (take 1 l) (45 ∷ []) ≡ false → l ≡ unsigned l
unfolding unsigned
no_sign [] e = refl
no_sign (b ∷ l) e = rw (sym (and-true (eqb b 45)) ∙ e)

pub unsigned_is : (s : Bor (List ℕ)) (r : Option (Bor (List ℕ)))
    → MatchOption r (pointwise eqb (take 1 s.now) (45 ∷ []) ≡ false) (λ x. (pointwise eqb (take 1 s.now) (45 ∷ []) ≡ true) × (x.now ≡ drop 1 s.now) × (length x.now + 1 ≡ length s.now))
    → (unwrap_or r s).now ≡ unsigned s.now
unsigned_is s None m = no_sign s.now m
unsigned_is s (Some x) m = m.1 ∙ at_sign s.now m.0
