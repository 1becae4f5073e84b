-- What each kind of form takes: the laws that say that `accepts` means what the comments in Form say. Assumes nothing.
use Rattle.std.specs.Prelude.{◌≡◌, refl, ℕ, Bool, true, false, ◌&&◌, ◌||◌, List, [], ◌∷◌, leb}
use Rattle.std.proofs.Common.{sym, ap, ◌∙◌}
use Rattle.std.proofs.Math.Bool.{or-false}
use Rattle.forms.specs.Form.{Form, none, nil, one, ◌▷◌, ◌∣◌, many, seq, alt_r, alt, null, after, accepts}

-- some way to cut s in two has p of the front and q of the rest
unfoldable pub cuts : (List ℕ → Bool) → (List ℕ → Bool) → List ℕ → Bool
cuts p q [] = p [] && q []
cuts p q (b ∷ s) = cuts (λ t. p (b ∷ t)) q s || (p [] && q (b ∷ s))

pub none_law : (s : List ℕ) → accepts none s ≡ false
unfolding accepts null after
none_law [] = refl
none_law (b ∷ s) = none_law s

pub nil_law : (b : ℕ) (s : List ℕ) → accepts nil (b ∷ s) ≡ false
unfolding accepts after
nil_law b s = none_law s

pub one_law : (lo hi b : ℕ) → accepts (one lo hi) (b ∷ []) ≡ (leb lo b && leb b hi)
unfolding accepts after null
one_law lo hi b = go (leb lo b && leb b hi)
  where
    go : (t : Bool) → null (elim t [ true ↦ nil | false ↦ none ]) ≡ t
    go true = refl
    go false = refl

pub one_two : (lo hi b c : ℕ) (s : List ℕ) → accepts (one lo hi) (b ∷ c ∷ s) ≡ false
unfolding accepts after null
one_two lo hi b c s = go (leb lo b && leb b hi)
  where
    go : (t : Bool) → accepts (after c (elim t [ true ↦ nil | false ↦ none ])) s ≡ false
    go true = none_law s
    go false = none_law s

alt_r_of : (s : List ℕ) → ((f g : Form) → accepts (f ∣ g) s ≡ (accepts f s || accepts g s))
    → (f g : Form) → accepts (alt_r f g) s ≡ (accepts f s || accepts g s)
unfolding alt_r
alt_r_of s h f none = sym (ap (λ t. accepts f s || t) (none_law s) ∙ or-false (accepts f s))
alt_r_of s h f nil = h f nil
alt_r_of s h f (one a b) = h f (one a b)
alt_r_of s h f (g ▷ k) = h f (g ▷ k)
alt_r_of s h f (g ∣ k) = h f (g ∣ k)
alt_r_of s h f (many g) = h f (many g)

alt_of : (s : List ℕ) → ((f g : Form) → accepts (f ∣ g) s ≡ (accepts f s || accepts g s))
    → (f g : Form) → accepts (alt f g) s ≡ (accepts f s || accepts g s)
unfolding alt
alt_of s h none g = sym (ap (λ t. t || accepts g s) (none_law s))
alt_of s h nil g = alt_r_of s h nil g
alt_of s h (one a b) g = alt_r_of s h (one a b) g
alt_of s h (f ▷ k) g = alt_r_of s h (f ▷ k) g
alt_of s h (f ∣ k) g = alt_r_of s h (f ∣ k) g
alt_of s h (many f) g = alt_r_of s h (many f) g

pub or_law : (s : List ℕ) (f g : Form) → accepts (f ∣ g) s ≡ (accepts f s || accepts g s)
unfolding accepts null after
or_law [] f g = refl
or_law (b ∷ s) f g = alt_of s (or_law s) (after b f) (after b g)

pub alt_law : (s : List ℕ) (f g : Form) → accepts (alt f g) s ≡ (accepts f s || accepts g s)
alt_law s = alt_of s (or_law s)

pub seq_law : (s : List ℕ) (f g : Form) → accepts (seq f g) s ≡ accepts (f ▷ g) s
unfolding accepts null after seq alt
seq_law [] none g = refl
seq_law [] nil g = refl
seq_law [] (one a b) g = refl
seq_law [] (f ▷ h) g = refl
seq_law [] (f ∣ h) g = refl
seq_law [] (many f) g = refl
seq_law (c ∷ s) none g = refl
seq_law (c ∷ s) nil g = refl
seq_law (c ∷ s) (one a b) g = refl
seq_law (c ∷ s) (f ▷ h) g = refl
seq_law (c ∷ s) (f ∣ h) g = refl
seq_law (c ∷ s) (many f) g = refl

pub then_law : (s : List ℕ) (f g : Form) → accepts (f ▷ g) s ≡ cuts (accepts f) (accepts g) s
unfolding accepts null after cuts
then_law [] f g = refl
then_law (b ∷ s) f g = go (null f) (then_law s (after b f) g)
  where
    go : (t : Bool) → accepts (after b f ▷ g) s ≡ cuts (accepts (after b f)) (accepts g) s
        → accepts (elim t [ true ↦ alt (seq (after b f) g) (after b g) | false ↦ seq (after b f) g ]) s
        ≡ (cuts (accepts (after b f)) (accepts g) s || (t && accepts (after b g) s))
    go true ih = alt_law s (seq (after b f) g) (after b g) ∙ ap (λ t. t || accepts (after b g) s) (seq_law s (after b f) g ∙ ih)
    go false ih = seq_law s (after b f) g ∙ ih ∙ sym (or-false (cuts (accepts (after b f)) (accepts g) s))

pub many_law : (b : ℕ) (s : List ℕ) (f : Form)
    → accepts (many f) (b ∷ s) ≡ cuts (λ t. accepts f (b ∷ t)) (accepts (many f)) s
unfolding accepts after
many_law b s f = seq_law s (after b f) (many f) ∙ then_law s (after b f) (many f)
