-- Fixed layouts: a form of one width, then another, is read at fixed positions. Assumes nothing.
use mathlib.Core.Path.{◌≡◌, refl, sym, ◌∙◌}
use Prim.Native.Nat.{ℕ, zero, suc, ◌+◌, ◌-◌, ◌≤◌, min, zero-le}
use native.Mathlib.Nat.{le_of_eq}
use native.Mathlib.Omega.{arith}
use mathlib.Core.Bool.{Bool, true, false, ◌&&◌, ◌||◌, or-false, true≢false, false≢true}
use mathlib.Core.List.{List, [], ◌∷◌}
use lib.Dec.{eqb}
use lib.ListN.{length, take, drop, length-drop}
use lib.Seq.{take_all}
use borrow.Author.Tests.{eqb-true, eqb-false}
use Rattle.numbers.proofs.Tests.{and_left, and_right, to_false}
use Rattle.forms.specs.Form.{Form, none, nil, one, ◌▷◌, ◌∣◌, many, null, accepts}
use Rattle.forms.specs.Meaning.{cuts, nil_law, one_two, or_law, then_law}

-- a part `&s[a..]` is what is left
pub rest : (s : List ℕ) (a : ℕ) → take (length s - a) (drop a s) ≡ drop a s
rest s a = take_all (length s - a) (drop a s) (le_of_eq (length-drop a s))

-- the width of a form all of whose texts are equally long
unfoldable pub width : Form → ℕ
width none = 0
width nil = 0
width (one a b) = 1
width (f ▷ g) = width f + width g
width (f ∣ g) = width f
width (many f) = 0

unfoldable pub fixed : Form → Bool
fixed none = false
fixed nil = true
fixed (one a b) = true
fixed (f ▷ g) = fixed f && fixed g
fixed (f ∣ g) = fixed f && fixed g && eqb (width g) (width f)
fixed (many f) = false

never : (p q : List ℕ → Bool) (s : List ℕ) → ((t : List ℕ) → p t ≡ false) → cuts p q s ≡ false
unfolding cuts
never p q [] h = rw (h [])
never p q (b ∷ s) h = rw (never (λ t. p (b ∷ t)) q s (λ t. h (b ∷ t)), h [])

at_width : (n : ℕ) (s : List ℕ) (p q : List ℕ → Bool) → ((t : List ℕ) → p t ≡ true → length t ≡ n)
    → cuts p q s ≡ (p (take n s) && q (drop n s))
unfolding cuts
at_width zero [] p q h = refl
at_width zero (b ∷ s) p q h =
    let no_more : (t : List ℕ) → p (b ∷ t) ≡ false = λ t. to_false (p (b ∷ t)) (λ e. let z : suc (length t) ≡ 0 = h (b ∷ t) e in omega arith) in
    rw (never (λ t. p (b ∷ t)) q s no_more)
at_width (suc n) [] p q h = refl
at_width (suc n) (b ∷ s) p q h =
    let z : p [] ≡ false = to_false (p []) (λ e. let z : 0 ≡ suc n = h [] e in omega arith) in
    let fewer : (t : List ℕ) → p (b ∷ t) ≡ true → length t ≡ n = λ t e. let z : suc (length t) ≡ suc n = h (b ∷ t) e in omega arith in
    rw (z, or-false) (at_width n s (λ t. p (b ∷ t)) q fewer)

-- the length of a text that is cut in two
sum_width : (m n : ℕ) (p q : List ℕ → Bool) → ((t : List ℕ) → p t ≡ true → length t ≡ m) → ((t : List ℕ) → q t ≡ true → length t ≡ n)
    → (s : List ℕ) → cuts p q s ≡ true → length s ≡ m + n
unfolding cuts
sum_width m n p q h k [] e =
    let x : 0 ≡ m = h [] (and_left (p []) (q []) e) in
    let y : 0 ≡ n = k [] (and_right (p []) (q []) e) in
    omega arith
sum_width zero n p q h k (b ∷ s) e =
    let no_more : (t : List ℕ) → p (b ∷ t) ≡ false = λ t. to_false (p (b ∷ t)) (λ e. let z : suc (length t) ≡ 0 = h (b ∷ t) e in omega arith) in
    let y : suc (length s) ≡ n = k (b ∷ s) (and_right (p []) (q (b ∷ s)) (rw (never (λ t. p (b ∷ t)) q s no_more) at e)) in
    omega arith
sum_width (suc m) n p q h k (b ∷ s) e =
    let z : p [] ≡ false = to_false (p []) (λ e. let z : 0 ≡ suc m = h [] e in omega arith) in
    let y : length s ≡ m + n =
    sum_width m n (λ t. p (b ∷ t)) q (λ t e. let z : suc (length t) ≡ suc m = h (b ∷ t) e in omega arith) k s (rw (z, or-false) at e) in
    omega arith

pub all_wide : (f : Form) → fixed f ≡ true → (s : List ℕ) → accepts f s ≡ true → length s ≡ width f
unfolding fixed width accepts null
all_wide none e s a = absurd (false≢true e)
all_wide nil e [] a = refl
all_wide nil e (b ∷ s) a = absurd (true≢false (sym a ∙ nil_law b s))
all_wide (one lo hi) e [] a = absurd (false≢true a)
all_wide (one lo hi) e (b ∷ []) a = refl
all_wide (one lo hi) e (b ∷ c ∷ s) a = absurd (true≢false (sym a ∙ one_two lo hi b c s))
all_wide (f ▷ g) e s a =
    sum_width (width f) (width g) (accepts f) (accepts g) (all_wide f (and_left (fixed f) (fixed g) e)) (all_wide g (and_right (fixed f) (fixed g) e)) s
    (sym (then_law s f g) ∙ a)
all_wide (f ∣ g) e s a = go (accepts f s) refl (sym (or_law s f g) ∙ a) (all_wide f (and_left (fixed f) (fixed g) l) s) (all_wide g (and_right (fixed f) (fixed g) l) s)
  where
    l : (fixed f && fixed g) ≡ true
    l = and_left (fixed f && fixed g) (eqb (width g) (width f)) e

    go : (t : Bool) → accepts f s ≡ t → (t || accepts g s) ≡ true → (accepts f s ≡ true → length s ≡ width f) → (accepts g s ≡ true → length s ≡ width g)
        → length s ≡ width f
    go true d o p q = p d
    go false d o p q = q o ∙ eqb-true (width g) (width f) (and_right (fixed f && fixed g) (eqb (width g) (width f)) e)
all_wide (many f) e s a = absurd (false≢true e)

pub wrong_width : (f : Form) → fixed f ≡ true → (s : List ℕ) → (length s ≡ width f → ⊥) → accepts f s ≡ false
wrong_width f e s n = to_false (accepts f s) (λ a. n (all_wide f e s a))

-- f at the front, g behind it
pub layout : (f g : Form) → fixed f ≡ true → (s : List ℕ) → accepts (f ▷ g) s ≡ (accepts f (take (width f) s) && accepts g (drop (width f) s))
layout f g e s = then_law s f g ∙ at_width (width f) s (accepts f) (accepts g) (all_wide f e)

-- all of s, if s is as wide as f
pub exact : (f : Form) → fixed f ≡ true → (s : List ℕ) → accepts f s ≡ (eqb (length s) (width f) && accepts f (take (width f) s))
exact f e s = go (eqb (length s) (width f)) refl
  where
    go : (t : Bool) → eqb (length s) (width f) ≡ t → accepts f s ≡ (t && accepts f (take (width f) s))
    go true q = rw (take_all (width f) s (le_of_eq (eqb-true (length s) (width f) q)))
    go false q = wrong_width f e s (eqb-false (length s) (width f) q)

-- the least length of a text
unfoldable pub least : Form → ℕ
least none = 0
least nil = 0
least (one a b) = 1
least (f ▷ g) = least f + least g
least (f ∣ g) = min (least f) (least g)
least (many f) = 0

sum_least : (s : List ℕ) (m n : ℕ) (p q : List ℕ → Bool) → ((t : List ℕ) → p t ≡ true → m ≤ length t) → ((t : List ℕ) → q t ≡ true → n ≤ length t)
    → cuts p q s ≡ true → m + n ≤ length s
unfolding cuts
sum_least [] m n p q h k e =
    let x : m ≤ 0 = h [] (and_left (p []) (q []) e) in
    let y : n ≤ 0 = k [] (and_right (p []) (q []) e) in
    omega arith
sum_least (b ∷ s) m n p q h k e =
    go (cuts (λ t. p (b ∷ t)) q s) refl e (sum_least s (m - 1) n (λ t. p (b ∷ t)) q (λ t a. let y : m ≤ suc (length t) = h (b ∷ t) a in omega arith) k)
  where
    go : (t : Bool) → cuts (λ t. p (b ∷ t)) q s ≡ t → (t || (p [] && q (b ∷ s))) ≡ true → (cuts (λ t. p (b ∷ t)) q s ≡ true → m - 1 + n ≤ length s)
        → m + n ≤ suc (length s)
    go true c o ih = let z = ih c in omega arith
    go false c o ih =
        let x : m ≤ 0 = h [] (and_left (p []) (q (b ∷ s)) o) in
        let y : n ≤ suc (length s) = k (b ∷ s) (and_right (p []) (q (b ∷ s)) o) in
        omega arith

pub at_least : (f : Form) (s : List ℕ) → accepts f s ≡ true → least f ≤ length s
unfolding least accepts null
at_least none s a = zero-le
at_least nil s a = zero-le
at_least (one lo hi) [] a = absurd (false≢true a)
at_least (one lo hi) (b ∷ s) a = omega arith
at_least (f ▷ g) s a = sum_least s (least f) (least g) (accepts f) (accepts g) (at_least f) (at_least g) (sym (then_law s f g) ∙ a)
at_least (f ∣ g) s a = go (accepts f s) refl (sym (or_law s f g) ∙ a) (at_least f s) (at_least g s)
  where
    go : (t : Bool) → accepts f s ≡ t → (t || accepts g s) ≡ true → (accepts f s ≡ true → least f ≤ length s) → (accepts g s ≡ true → least g ≤ length s)
        → min (least f) (least g) ≤ length s
    go true d o p q = let h = p d in omega arith
    go false d o p q = let h = q o in omega arith
at_least (many f) s a = zero-le
