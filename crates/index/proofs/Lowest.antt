-- Laws of the lowest row: of one row more, and of the row found. Assumes nothing.
use mathlib.Core.Path.{◌≡◌, refl, sym, ◌∙◌}
use mathlib.Core.Bool.{Bool, true, false}
use Prim.Native.Nat.{ℕ, zero, suc, ◌+◌, ◌<◌}
use native.Mathlib.Omega.{arith}
use Rattle.index.specs.Questions.{row, lowest}

module _ (is : ℕ → Bool) where
  -- one row more
  pub lowest_here : (n k : ℕ) → is k ≡ true → lowest is (suc n) k ≡ row k
  unfolding lowest
  lowest_here n k e = rw (e, lowest)

  pub lowest_next : (n k : ℕ) → is k ≡ false → lowest is (suc n) k ≡ lowest is n (suc k)
  unfolding lowest
  lowest_next n k e = rw (e, lowest)

-- a row that is found is one of those asked, and the test holds of it
pub lowest_found : (is : ℕ → Bool) (n k m : ℕ) → lowest is n k ≡ row m → (m < k + n) × (is m ≡ true)
unfolding lowest
lowest_found is zero k m e = let z : ◌≡◌ {A = ℕ} 0 1 = cc in absurd (omega arith)
lowest_found is (suc n) k m e = by_test (is k) refl (lowest_found is n (suc k) m)
  where
    by_test : (b : Bool) → is k ≡ b → (lowest is n (suc k) ≡ row m → (m < suc k + n) × (is m ≡ true)) → (m < k + suc n) × (is m ≡ true)
    by_test true f ih = let g : k ≡ m = cc (lowest_here is n k f) in (omega arith, rw (← g) f)
    by_test false f ih = let h = ih (sym (lowest_next is n k f) ∙ e) in (omega (arith, h.0), h.1)
