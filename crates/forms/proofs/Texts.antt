-- Types 1, 2, 3, 10 and 16: the form is a walk over bytes. Assumes nothing.
use mathlib.Core.Path.{◌≡◌, refl, sym, ◌∙◌}
use Prim.Native.Nat.{ℕ, zero, suc, ◌+◌, ◌<◌, ◌≤◌}
use native.Mathlib.Numerals.{add-one}
use native.Mathlib.Omega.{arith}
use mathlib.Core.Bool.{Bool, true, false, ◌&&◌, ◌||◌, not, and-true}
use mathlib.Core.List.{List, [], ◌∷◌}
use lib.Dec.{leb, ltb, eqb, leb-zero}
use lib.ListN.{length, drop, get_or, drop_of_length-le}
use lib.Seq.{drop-cons}
use borrow.Author.Tests.{leb-true, leb-false, le-leb, lt-leb, eqb-true, eqb-false, ne_eqb, lt-ltb}
use Rattle.std.specs.List.{list_any}
use Rattle.numbers.specs.Bytes.{some, free}
use Rattle.numbers.proofs.Tests.{only_one}
use Rattle.forms.specs.Form.{Form, none, nil, one, ◌▷◌, many, seq, alt_r, alt, null, after, accepts}
use Rattle.forms.specs.Meaning.{none_law, one_law, or_law}
use Rattle.forms.proofs.Positions.{width, fixed, wrong_width}
use Rattle.forms.specs.Types.{byte, more, any, letter, string, char, boolean, blob, words}

-- every number is a byte
abbrev pub Bytes : List ℕ → Type 0
Bytes s = (i : ℕ) → get_or s i 0 < 256

pub some_is : (s : List ℕ) → ltb 0 (length s) ≡ some s
some_is [] = refl
some_is (b ∷ s) = lt-ltb 0 (suc (length s)) (omega arith)

some_at : (s : List ℕ) → some s ≡ not (eqb (length s) 0)
some_at [] = refl
some_at (b ∷ s) = rw (ne_eqb (suc (length s)) 0 (λ e. omega arith))

free_is : (s : List ℕ) → free 1 s ≡ not (list_any (λ b. eqb b 1) s)
unfolding free
free_is [] = refl
free_is (b ∷ s) = rw (free_is s) (go (eqb b 1))
  where
    go : (t : Bool) → (not t && not (list_any (λ b. eqb b 1) s)) ≡ not (t || list_any (λ b. eqb b 1) s)
    go true = refl
    go false = refl

-- at b, f is the one byte of which p holds
abbrev pub Class : Form → (ℕ → Bool) → ℕ → Type 0
Class f p b = after b f ≡ elim (p b) [ true ↦ nil | false ↦ none ]

module _ (f : Form) (p : ℕ → Bool) (q : List ℕ → Bool) (ends : q [] ≡ true) (steps : (b : ℕ) (s : List ℕ) → q (b ∷ s) ≡ (p b && q s)) where
  step : (t : Bool) (s : List ℕ) → accepts (many f) s ≡ q s → accepts (seq (elim t [ true ↦ nil | false ↦ none ]) (many f)) s ≡ (t && q s)
  unfolding seq
  step true s ih = ih
  step false s ih = none_law s

  pub many_is : (s : List ℕ) → ((i : ℕ) → Class f p (get_or s i 0)) → accepts (many f) s ≡ q s
  unfolding accepts null after
  many_is [] h = sym ends
  many_is (b ∷ s) h = rw (h 0, steps b s) (step (p b) s (many_is s (λ i. h (suc i))))

  pub more_is : null f ≡ false → (s : List ℕ) → ((i : ℕ) → Class f p (get_or s i 0)) → accepts (more f) s ≡ (some s && q s)
  unfolding more accepts null after
  more_is z [] h = rw z
  more_is z (b ∷ s) h = rw (z, after, h 0, steps b s) (step (p b) s (many_is s (λ i. h (suc i))))

any_null : null any ≡ false
unfolding any null
any_null = refl

any_wide : (b c : ℕ) (s : List ℕ) → accepts any (b ∷ c ∷ s) ≡ false
unfolding any width fixed
any_wide b c s = wrong_width any refl (b ∷ c ∷ s) (λ e. omega arith)

-- any byte but 1
any_class : (b : ℕ) → b < 256 → Class any (λ b. not (eqb b 1)) b
unfolding any after alt alt_r
any_class zero h = refl
any_class (suc zero) h = refl
any_class (suc (suc b)) h =
    rw (leb-zero (suc (suc b)), lt-leb (suc (suc b)) 0 (omega arith), le-leb 2 (suc (suc b)) (omega arith), le-leb (suc (suc b)) 255 (omega arith), ne_eqb (suc (suc b)) 1 (λ e. omega arith))

module _ (s : List ℕ) (h : Bytes s) where
  string_is : accepts string s ≡ (some s && free 1 s)
  unfolding string free any null
  string_is = more_is any (λ b. not (eqb b 1)) (free 1) refl (λ b s. refl) refl s (λ i. any_class (get_or s i 0) (h i))

  -- as the code has it
  pub string_at : accepts string s ≡ (not (eqb (length s) 0) && not (list_any (λ b. eqb b 1) s))
  string_at = string_is ∙ rw (free_is s, some_at s)

  pub blob_is : accepts blob s ≡ not (eqb (length s) 0)
  unfolding blob null after
  blob_is = rw (← some_at s) (more_is (one 0 255) (λ b. true) (λ s. true) refl (λ b s. refl) refl s full ∙ and-true (some s))
    where
      full : (i : ℕ) → Class (one 0 255) (λ b. true) (get_or s i 0)
      full i = let g = h i in rw (leb-zero (get_or s i 0), le-leb (get_or s i 0) 255 (omega arith), after)

-- any byte but 1 and the space
letter_class : (b : ℕ) → b < 256 → Class letter (λ b. not (eqb b 1) && not (eqb b 32)) b
unfolding letter after alt alt_r
letter_class zero h = refl
letter_class (suc zero) h = refl
letter_class (suc (suc b)) h =
    rw (leb-zero (suc (suc b)), lt-leb (suc (suc b)) 0 (omega arith), le-leb 2 (suc (suc b)) (omega arith), le-leb (suc (suc b)) 255 (omega arith), ne_eqb (suc (suc b)) 1 (λ e. omega arith))
    (go (suc (suc b)) (leb (suc (suc b)) 31) refl (eqb (suc (suc b)) 32) refl)
  where
    go : (n : ℕ) (t : Bool) → leb n 31 ≡ t → (u : Bool) → eqb n 32 ≡ u
        → alt (elim t [ true ↦ nil | false ↦ none ]) (elim (leb 33 n && true) [ true ↦ nil | false ↦ none ]) ≡ elim (not u) [ true ↦ nil | false ↦ none ]
    go n true x true y = let l = leb-true n 31 x in let e = eqb-true n 32 y in absurd (omega arith)
    go n true x false y = let l = leb-true n 31 x in rw (lt-leb 33 n (omega arith))
    go n false x true y = let e = eqb-true n 32 y in rw (lt-leb 33 n (omega arith))
    go n false x false y = let l = leb-false n 31 x in rw (le-leb 33 n (omega (arith, eqb-false n 32 y)))

letter_null : null letter ≡ false
unfolding letter null
letter_null = refl

-- after a letter
in_word : Form
in_word = many letter ▷ many (byte 32 ▷ more letter)

word_at : Bool → Form
word_at true = words
word_at false = in_word

-- words parted by single spaces, at a place where a word has to begin (gap) or not
unfoldable pub words_from : Bool → List ℕ → Bool
words_from gap [] = not gap
words_from gap (b ∷ s) = not (eqb b 1 || (gap && eqb b 32)) && words_from (eqb b 32) s

from_is : (s : List ℕ) (gap : Bool) → Bytes s → accepts (word_at gap) s ≡ words_from gap s
unfolding word_at in_word words more byte words_from accepts null after seq alt alt_r
from_is [] true h = rw letter_null
from_is [] false h = refl
from_is (b ∷ s) true h =
    rw (letter_null, after, letter_null, after, letter_class b (h 0)) (go (eqb b 1) (eqb b 32) (from_is s false (λ i. h (suc i))))
  where
    go : (x y : Bool) → accepts in_word s ≡ words_from false s
        → accepts (seq (seq (elim (not x && not y) [ true ↦ nil | false ↦ none ]) (many letter)) (many (byte 32 ▷ more letter))) s
        ≡ (not (x || y) && words_from y s)
    go true y ih = none_law s
    go false true ih = none_law s
    go false false ih = ih
from_is (b ∷ s) false h =
    rw (letter_class b (h 0), only_one 32 b) (go (eqb b 1) refl (eqb b 32) refl (from_is s false (λ i. h (suc i))) (from_is s true (λ i. h (suc i))))
  where
    go : (x : Bool) → eqb b 1 ≡ x → (y : Bool) → eqb b 32 ≡ y → accepts in_word s ≡ words_from false s → accepts words s ≡ words_from true s
        → accepts (alt (seq (seq (elim (not x && not y) [ true ↦ nil | false ↦ none ]) (many letter)) (many (byte 32 ▷ more letter))) (seq (seq (elim y [ true ↦ nil | false ↦ none ]) (more letter)) (many (byte 32 ▷ more letter)))) s
        ≡ (not (x || false) && words_from y s)
    go true p true q ih jh = let e = eqb-true b 1 p in let f = eqb-true b 32 q in absurd (omega arith)
    go true p false q ih jh = none_law s
    go false p true q ih jh = jh
    go false p false q ih jh = ih

pub words_is : (s : List ℕ) → Bytes s → accepts words s ≡ words_from true s
unfolding word_at
words_is s h = from_is s true h

-- the loop over the bytes of words
module _ (s : List ℕ) (gap : Bool) (i : ℕ) (inv : accepts words s ≡ words_from gap (drop i s)) where
  pub words_stop : i < length s → (eqb (get_or s i 0) 1 || (gap && eqb (get_or s i 0) 32)) ≡ true → false ≡ accepts words s
  unfolding words_from
  words_stop h e = rw (inv, drop-cons s i 0, e)

  pub words_next : i < length s → (eqb (get_or s i 0) 1 || (gap && eqb (get_or s i 0) 32)) ≡ false → accepts words s ≡ words_from (eqb (get_or s i 0) 32) (drop (i + 1) s)
  unfolding words_from
  words_next h e = inv ∙ rw (add-one, drop-cons s i 0, e)

  pub words_end : length s ≤ i → not gap ≡ accepts words s
  unfolding words_from
  words_end h = rw (inv, drop_of_length-le s)

-- one byte
longer : (s : List ℕ) → eqb (suc (suc (length s))) 1 ≡ false
longer s = ne_eqb (suc (suc (length s))) 1 (λ e. omega arith)

pub char_is : (s : List ℕ) → Bytes s → accepts char s ≡ (eqb (length s) 1 && not (eqb (get_or s 0 0) 1))
unfolding char accepts null
char_is [] h = any_null
char_is (b ∷ []) h = rw (any_class b (h 0)) (go (not (eqb b 1)))
  where
    go : (t : Bool) → null (elim t [ true ↦ nil | false ↦ none ]) ≡ t
    go true = refl
    go false = refl
char_is (b ∷ c ∷ s) h = rw (longer s) (any_wide b c s)

pub boolean_is : (s : List ℕ) → accepts boolean s ≡ (eqb (length s) 1 && (eqb (get_or s 0 0) 89 || eqb (get_or s 0 0) 78))
unfolding boolean byte accepts null width fixed
boolean_is [] = refl
boolean_is (b ∷ []) = or_law (b ∷ []) (byte 89) (byte 78) ∙ rw (one_law 89 89 b, one_law 78 78 b, only_one 89 b, only_one 78 b)
boolean_is (b ∷ c ∷ s) = rw (longer s) (wrong_width boolean refl (b ∷ c ∷ s) (λ e. omega arith))
