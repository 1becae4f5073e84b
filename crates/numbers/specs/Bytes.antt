-- Bytes, their sum, and numbers of two bytes. Assumes nothing.
use Rattle.std.specs.Prelude.{ℕ, ◌+◌, ◌*◌, ◌/◌, ◌%◌, Bool, true, false, cond, ◌&&◌, ◌||◌, not, List, [], ◌∷◌, eqb, get_or}
use Prim.Native.String.{String}
use Prim.Native.Char.{code}

-- quoted text; `|` stands for byte 1
unfoldable pub bytes : String → List ℕ
bytes String.[] = []
bytes (String.◌∷◌ c s) = cond (eqb (code c) 124) 1 (code c) ∷ bytes s

-- the sum of all bytes
unfoldable pub total : List ℕ → ℕ
total [] = 0
total (b ∷ s) = b + total s

-- the number of the first two bytes, little-endian
abbrev pub le16 : List ℕ → ℕ
le16 s = get_or s 0 0 + get_or s 1 0 * 256

-- little-endian bytes as numbers, a last odd byte left out; and numbers as bytes
unfoldable pub numbers : List ℕ → List ℕ
numbers [] = []
numbers (x ∷ []) = []
numbers (x ∷ y ∷ s) = (x + y * 256) ∷ numbers s

unfoldable pub little_endian : List ℕ → List ℕ
little_endian [] = []
little_endian (n ∷ l) = n % 256 ∷ n / 256 ∷ little_endian l

-- the same bytes, one for one
unfoldable pub same : List ℕ → List ℕ → Bool
same [] [] = true
same [] (b ∷ t) = false
same (a ∷ s) [] = false
same (a ∷ s) (b ∷ t) = eqb a b && same s t

-- there is at least one
abbrev pub some : List ℕ → Bool
some [] = false
some (b ∷ s) = true

-- no byte c in it
unfoldable pub free : ℕ → List ℕ → Bool
free c [] = true
free c (b ∷ s) = not (eqb b c) && free c s

unfoldable pub mem : ℕ → List ℕ → Bool
mem t [] = false
mem t (x ∷ l) = eqb t x || mem t l
