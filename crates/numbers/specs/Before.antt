-- The first place of a byte. Assumes nothing.
use Rattle.std.specs.Prelude.{ℕ, suc, cond, List, [], ◌∷◌, eqb}

-- the count of the bytes before the first c; of all where there is none
unfoldable pub before : ℕ → List ℕ → ℕ
before c [] = 0
before c (b ∷ s) = let later = suc (before c s) in cond (eqb b c) 0 later
