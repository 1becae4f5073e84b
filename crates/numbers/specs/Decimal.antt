-- Decimal text of any length, and its value. Assumes nothing.
use Rattle.std.specs.Prelude.{ℕ, zero, suc, ◌+◌, ◌-◌, ◌*◌, ◌/◌, ◌%◌, Bool, true, false, ◌&&◌, not, List, [], ◌∷◌, leb, eqb}

-- digits are 0x30 to 0x39
abbrev pub digit : ℕ → Bool
digit b = leb 48 b && leb b 57

unfoldable pub digits : List ℕ → Bool
digits [] = true
digits (b ∷ s) = digit b && digits s

-- the value of digits that follow digits of value a
unfoldable pub value_from : ℕ → List ℕ → ℕ
value_from a [] = a
value_from a (b ∷ s) = value_from (a * 10 + (b - 48)) s

abbrev pub value : List ℕ → ℕ
value s = value_from 0 s

-- one or more digits, the first not 0
abbrev pub tag_form : List ℕ → Bool
tag_form [] = false
tag_form (b ∷ s) = digit b && not (eqb b 48) && digits s

-- the digits of n in front of s; the first number bounds their count
unfoldable pub render_onto : ℕ → ℕ → List ℕ → List ℕ
render_onto zero n s = s
render_onto (suc f) n s = elim (eqb (n / 10) 0) [ true ↦ (48 + n % 10) ∷ s | false ↦ render_onto f (n / 10) ((48 + n % 10) ∷ s) ]

-- the shortest text of n
unfoldable pub render : ℕ → List ℕ
unfolding render_onto
render n = render_onto (suc n) n []
