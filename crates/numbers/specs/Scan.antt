-- What a scan of bytes finds. Assumes nothing.
use Rattle.std.specs.Prelude.{ℕ, suc, cond, List, [], ◌∷◌, eqb}
use Rattle.numbers.specs.Decimal.{digit}

-- how many bytes stand before the first c; all of them where there is none
unfoldable pub upto : ℕ → List ℕ → ℕ
upto c [] = 0
upto c (b ∷ s) = let more = suc (upto c s) in cond (eqb b c) 0 more

-- the digits in front
unfoldable pub leading_digits : List ℕ → List ℕ
leading_digits [] = []
leading_digits (b ∷ s) = let more = b ∷ leading_digits s in cond (digit b) more []
