-- What the checks find on their way. Assumes nothing.
use Rattle.std.specs.Prelude.{◌≡◌, ℕ, suc, Bool, true, false, cond, ◌&&◌, List, [], ◌∷◌, eqb, leb, take, drop, Option, None, Some, MatchOption}
use Rattle.std.specs.Borrow.{Bor}
use Rattle.forms.specs.Form.{Form, ◌▷◌, accepts}

-- how many bytes in front are from lo to hi
unfoldable pub leading : ℕ → ℕ → List ℕ → ℕ
leading lo hi [] = 0
leading lo hi (b ∷ s) = cond (leb lo b && leb b hi) (suc (leading lo hi s)) 0

-- what follows an optional `-`
unfoldable pub unsigned : List ℕ → List ℕ
unsigned [] = []
unsigned (b ∷ s) = cond (eqb b 45) s (b ∷ s)

-- r is what follows the first n bytes, if p holds of them
abbrev pub LeavesBehind : (List ℕ → Bool) → ℕ → List ℕ → Option (Bor (List ℕ)) → Type 0
LeavesBehind p n s r = MatchOption r (p (take n s) ≡ false) (λ x. (p (take n s) ≡ true) × (x.now ≡ drop n s))

-- the text that is left, if there is one, is of g
abbrev pub takes : Form → Option (Bor (List ℕ)) → Bool
takes g None = false
takes g (Some x) = accepts g x.now

-- r is what follows a text of f in front of s, if one stands there: whatever g is to follow it
abbrev pub Leaves : Form → List ℕ → Option (Bor (List ℕ)) → Type 0
Leaves f s r = (g : Form) → accepts (f ▷ g) s ≡ takes g r
