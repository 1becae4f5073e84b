-- A form of text as data, and the texts that it takes. Assumes nothing.
use Rattle.std.specs.Prelude.{ℕ, Bool, true, false, ◌&&◌, ◌||◌, List, [], ◌∷◌, leb}

infixr 60 ◌▷◌
infixr 50 ◌∣◌
pub data Form : Type 0 where
  none : Form  -- no text at all
  nil : Form  -- the empty text
  one : ℕ → ℕ → Form  -- one byte, from the first number to the second
  ◌▷◌ : Form → Form → Form  -- the first, then the second
  ◌∣◌ : Form → Form → Form  -- the first or the second
  many : Form → Form  -- any number of it, none too

-- joins that leave out what is plainly superfluous
unfoldable pub seq : Form → Form → Form
seq none g = none
seq nil g = g
seq (one a b) g = one a b ▷ g
seq (f ▷ h) g = (f ▷ h) ▷ g
seq (f ∣ h) g = (f ∣ h) ▷ g
seq (many f) g = many f ▷ g

unfoldable pub alt_r : Form → Form → Form
alt_r f none = f
alt_r f nil = f ∣ nil
alt_r f (one a b) = f ∣ one a b
alt_r f (g ▷ h) = f ∣ g ▷ h
alt_r f (g ∣ h) = f ∣ g ∣ h
alt_r f (many g) = f ∣ many g

unfoldable pub alt : Form → Form → Form
alt none g = g
alt nil g = alt_r nil g
alt (one a b) g = alt_r (one a b) g
alt (f ▷ h) g = alt_r (f ▷ h) g
alt (f ∣ h) g = alt_r (f ∣ h) g
alt (many f) g = alt_r (many f) g

-- the empty text is taken
unfoldable pub null : Form → Bool
null none = false
null nil = true
null (one a b) = false
null (f ▷ g) = null f && null g
null (f ∣ g) = null f || null g
null (many f) = true

-- what may follow after the byte b
unfoldable pub after : ℕ → Form → Form
after b none = none
after b nil = none
after b (one lo hi) = elim (leb lo b && leb b hi) [ true ↦ nil | false ↦ none ]
after b (f ▷ g) = elim (null f) [ true ↦ alt (seq (after b f) g) (after b g) | false ↦ seq (after b f) g ]
after b (f ∣ g) = alt (after b f) (after b g)
after b (many f) = seq (after b f) (many f)

unfoldable pub accepts : Form → List ℕ → Bool
accepts f [] = null f
accepts f (b ∷ s) = accepts (after b f) s
