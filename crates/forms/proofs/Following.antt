-- What follows a text of one width: how such forms are read one behind the other. Assumes nothing.
use mathlib.Core.Path.{◌≡◌, refl, sym, ap, ◌∙◌}
use Prim.Native.Nat.{ℕ, suc, ◌+◌, ◌-◌, ◌<◌, ◌≤◌}
use native.Mathlib.Omega.{arith}
use mathlib.Core.Bool.{Bool, true, false, ◌&&◌, and_assoc, and-true, and-false, false≢true}
use mathlib.Core.List.{List, [], ◌∷◌}
use lib.Dec.{leb, eqb}
use lib.ListN.{length, take, drop, get_or, length-drop, length-take}
use lib.Seq.{drop-drop}
use borrow.Author.Tests.{le-leb, lt-leb, eq-eqb, ne_eqb, eqb-true, eqb-false}
use denote.Ref.{Bor}
use mathlib.Core.Logic.{◌⊎◌, inl, inr}
use Rattle.std.proofs.lemmas.List.{take-take, drop-take}
use Rattle.std.specs.declared.option.Option.{Option}
use Rattle.std.specs.declared.option.Option.TheVariants.{None, Some}
use Rattle.std.specs.Cmp.Lexicographic.{pointwise}
use Rattle.std.specs.Option.{MatchOption}
use Rattle.numbers.proofs.Tests.{and_left, only_one}
use Rattle.forms.specs.Form.{Form, none, nil, ◌▷◌, seq, null, after, accepts}
use Rattle.forms.specs.Meaning.{none_law}
use Rattle.forms.specs.Types.{byte}
use Rattle.forms.specs.Words.{is_two}
use Rattle.forms.specs.Walks.{LeavesBehind, Leaves, takes}
use Rattle.forms.proofs.Positions.{width, fixed, layout, exact, all_wide}
use Rattle.forms.proofs.Stamps.{empty_is}

pub under : (f k l : Form) → fixed f ≡ true → ((t : List ℕ) → accepts k t ≡ accepts l t) → (s : List ℕ) → accepts (f ▷ k) s ≡ accepts (f ▷ l) s
under f k l x h s = layout f k x s ∙ ap (λ b. accepts f (take (width f) s) && b) (h (drop (width f) s)) ∙ sym (layout f l x s)

pub assoc : (f h g : Form) → fixed f ≡ true → fixed h ≡ true → (s : List ℕ) → accepts ((f ▷ h) ▷ g) s ≡ accepts (f ▷ h ▷ g) s
unfolding fixed width
assoc f h g x y s =
    layout (f ▷ h) g (rw (x, y)) s
    ∙ rw (
      layout f h x (take (width f + width h) s),
      take-take (width f) (width f + width h) s (omega arith),
      drop-take (width f) (width h) s,
      layout f (h ▷ g) x s,
      layout h g y (drop (width f) s),
      drop-drop (width h) (width f) s,
    )
    (and_assoc (accepts f (take (width f) s)) (accepts h (take (width h) (drop (width f) s))) (accepts g (drop (width f + width h) s)))

-- four forms in a row
pub assoc_3 : (f h k g : Form) → fixed f ≡ true → fixed h ≡ true → fixed k ≡ true → (s : List ℕ) → accepts ((f ▷ h ▷ k) ▷ g) s ≡ accepts (f ▷ h ▷ k ▷ g) s
unfolding fixed
assoc_3 f h k g x y z s = assoc f (h ▷ k) g x (rw (y, z)) s ∙ under f ((h ▷ k) ▷ g) (h ▷ k ▷ g) x (assoc h k g y z) s

less : (n w : ℕ) → w ≤ n → eqb n w ≡ eqb (n - w) 0
less n w l = go (eqb n w) refl
  where
    go : (t : Bool) → eqb n w ≡ t → t ≡ eqb (n - w) 0
    go true e = sym (eq-eqb (n - w) 0 (omega (arith, eqb-true n w e)))
    go false e = let d = eqb-false n w e in sym (ne_eqb (n - w) 0 (λ z. d (omega arith)))

module _ (f : Form) (x : fixed f ≡ true) (s : List ℕ) (r : Option (Bor (List ℕ))) where
  pub same_leaves : (h : Form) → fixed h ≡ true → width h ≡ width f → ((t : List ℕ) → accepts h t ≡ accepts f t) → Leaves f s r → Leaves h s r
  same_leaves h y w e p g = layout h g y s ∙ rw (w, e (take (width f) s)) (sym (layout f g x s) ∙ p g)

  -- all of s
  pub whole : Leaves f s r → accepts f s ≡ takes nil r
  whole p = exact f x s ∙ go (accepts f (take (width f) s)) refl ∙ sym (layout f nil x s) ∙ p nil
    where
      go : (t : Bool) → accepts f (take (width f) s) ≡ t → (eqb (length s) (width f) && accepts f (take (width f) s)) ≡ (accepts f (take (width f) s) && accepts nil (drop (width f) s))
      go true e =
          let l = all_wide f x (take (width f) s) e in
          rw (e, empty_is (drop (width f) s), length-drop (width f) s) (and-true (eqb (length s) (width f)) ∙ less (length s) (width f) (omega (arith, length-take (width f) s)))
      go false e = rw (e, and-false (eqb (length s) (width f)))

module _ (lo hi : ℕ) (s : List ℕ) (f : Form) (x : fixed f ≡ true) (w : width f ≡ 2) (e : (t : List ℕ) → accepts f t ≡ is_two lo hi t) where
  pub pair_leaves : (r : Option (Bor (List ℕ))) → LeavesBehind (is_two lo hi) 2 s r → Leaves f s r
  pair_leaves None m g = layout f g x s ∙ rw (w, e (take 2 s), m)
  pair_leaves (Some y) m g = layout f g x s ∙ rw (w, e (take 2 s), m.0, m.1)

-- one behind the other
module _ (f h : Form) (x : fixed f ≡ true) (y : fixed h ≡ true) (s : List ℕ) where
  pub stop : Leaves f s None → (r : Option (Bor (List ℕ))) → r ≡ None → Leaves (f ▷ h) s r
  stop p r e g = assoc f h g x y s ∙ p (h ▷ g) ∙ rw e

  pub go_on : (z : Bor (List ℕ)) → Leaves f s (Some z) → (r : Option (Bor (List ℕ))) → Leaves h z.now r → Leaves (f ▷ h) s r
  go_on z p r q g = assoc f h g x y s ∙ p (h ▷ g) ∙ q g

-- one byte in front
pub byte_then : (b : ℕ) (g : Form) (s : List ℕ) → accepts (byte b ▷ g) s ≡ (leb 1 (length s) && eqb (get_or s 0 0) b && accepts g (drop 1 s))
unfolding byte accepts null after seq
byte_then b g [] = refl
byte_then b g (c ∷ s) = rw (only_one b c, le-leb 1 (suc (length s)) (omega arith)) (go (eqb c b))
  where
    go : (t : Bool) → accepts (seq (elim t [ true ↦ nil | false ↦ none ]) g) s ≡ (t && accepts g s)
    go true = refl
    go false = none_law s

pub byte_leaves : (b : ℕ) (s : List ℕ) (r : Option (Bor (List ℕ)))
    → MatchOption r (pointwise eqb (take 1 s) (b ∷ []) ≡ false) (λ x. (pointwise eqb (take 1 s) (b ∷ []) ≡ true) × (x.now ≡ drop 1 s) × (length x.now + 1 ≡ length s))
    → Leaves (byte b) s r
byte_leaves b [] None m g = byte_then b g []
byte_leaves b [] (Some x) m g = absurd (false≢true m.0)
byte_leaves b (c ∷ s) None m g = byte_then b g (c ∷ s) ∙ rw (sym (and-true (eqb c b)) ∙ m, le-leb 1 (suc (length s)) (omega arith))
byte_leaves b (c ∷ s) (Some x) m g = byte_then b g (c ∷ s) ∙ rw (and_left (eqb c b) true m.0, le-leb 1 (suc (length s)) (omega arith), m.1)

-- some form takes s, so a text that is left is one
text : List ℕ → Form
text [] = nil
text (b ∷ s) = byte b ▷ text s

text_is : (s : List ℕ) → accepts (text s) s ≡ true
unfolding text accepts null
text_is [] = refl
text_is (b ∷ s) = byte_then b (text s) (b ∷ s) ∙ rw (le-leb 1 (suc (length s)) (omega arith), eq-eqb b b refl) (text_is s)

pub stands : (f : Form) (s : List ℕ) (z : Bor (List ℕ)) → Leaves f s (Some z) → ((g : Form) → accepts (f ▷ g) s ≡ false) → ⊥
stands f s z p n = false≢true (sym (n (text z.now)) ∙ p (text z.now) ∙ text_is z.now)

-- what a test of the rest answers
pub asked : (g : Form) (r : Option (Bor (List ℕ))) (b : Bool) → MatchOption r (b ≡ false) (λ x. b ≡ accepts g x.now) → b ≡ takes g r
asked g None b m = m
asked g (Some x) b m = m

pub ended : (r : Option (Bor (List ℕ))) (b : Bool) → MatchOption r (b ≡ false) (λ x. b ≡ eqb (length x.now) 0) → b ≡ takes nil r
ended None b m = m
ended (Some x) b m = m ∙ sym (empty_is x.now)

-- a byte in front of g is there, or not
module _ (b : ℕ) (g : Form) (s : List ℕ) where
  pub byte_on : 1 ≤ length s → get_or s 0 0 ≡ b → accepts (byte b ▷ g) s ≡ accepts g (drop 1 s)
  byte_on l e = byte_then b g s ∙ rw (le-leb 1 (length s) l, eq-eqb (get_or s 0 0) b e)

  pub byte_off : (length s < 1) ⊎ (get_or s 0 0 ≡ b → ⊥) → accepts (byte b ▷ g) s ≡ false
  byte_off (inl l) = byte_then b g s ∙ rw (lt-leb 1 (length s) l)
  byte_off (inr n) = byte_then b g s ∙ rw (ne_eqb (get_or s 0 0) b n, and-false (leb 1 (length s)))
