-- What the functions on fields meet on their ways. Assumes nothing.
use mathlib.Core.Path.{◌≡◌, refl, sym, ◌∙◌}
use mathlib.Core.Bool.{Bool, true, false, ◌&&◌, not, and-false}
use mathlib.Core.List.{List}
use Prim.Native.Nat.{ℕ, ◌+◌, ◌≤◌, ◌<◌, min}
use native.Mathlib.Omega.{arith}
use native.Mathlib.Nat.{add-zero}
use lib.Dec.{eqb, ltb}
use lib.ListN.{length, drop, get_or, drop_of_length-le}
use lib.Seq.{get_or-drop, drop-cons}
use borrow.Author.Tests.{ltb-true, ltb-false, lt-ltb, le-ltb, eq-eqb, ne_eqb}
use Rattle.numbers.specs.Decimal.{value}
use Rattle.numbers.specs.Scan.{leading_digits}
use Rattle.reader.specs.Fields.{cut, torn, tag_in, peek}
use Rattle.reader.proofs.Heads.{has_tag_head, tag_good, tag_torn}

-- what tag_at found
abbrev pub Tagged : List ℕ → ℕ → ℕ → ℕ → Type 0
Tagged m at v e = (v ≡ tag_in (cut 61 (drop at m))) × (e ≡ at + length (leading_digits (drop at m))) × (v ≤ 65536)

-- by its tests: the first byte, the digits, and the byte behind them
module _ (m : List ℕ) (at v e : ℕ) (ev : v ≡ min (value (leading_digits (drop at m))) 65536) (ee : e ≡ at + length (leading_digits (drop at m))) where
  above : ltb 0 (length (leading_digits (drop at m))) ≡ ltb at e
  above = go (ltb 0 (length (leading_digits (drop at m)))) refl
    where
      go : (t : Bool) → ltb 0 (length (leading_digits (drop at m))) ≡ t → t ≡ ltb at e
      go true h = sym (lt-ltb at e (omega (arith, ee, ltb-true 0 (length (leading_digits (drop at m))) h)))
      go false h = sym (le-ltb at e (omega (arith, ee, ltb-false 0 (length (leading_digits (drop at m))) h)))

  tests : has_tag_head (drop at m) ≡ (not (eqb (get_or m at 0) 48) && ltb at e && eqb (get_or m e 0) 61)
  tests = rw (get_or-drop at m 0 0, add-zero at, above, get_or-drop at m (length (leading_digits (drop at m))) 0, ← ee)

  pub tagged_good : (get_or m at 0 ≡ 48 → ⊥) → at < e → get_or m e 0 ≡ 61 → Tagged m at v e
  tagged_good a b c = (tag_good (drop at m) v (tests ∙ rw (ne_eqb (get_or m at 0) 48 a, lt-ltb at e b, eq-eqb (get_or m e 0) 61 c)) ev, ee, omega (arith, ev))

  pub torn_zero : get_or m at 0 ≡ 48 → torn ≡ tag_in (cut 61 (drop at m))
  torn_zero a = tag_torn (drop at m) (tests ∙ rw (eq-eqb (get_or m at 0) 48 a))

  pub torn_empty : e ≤ at → torn ≡ tag_in (cut 61 (drop at m))
  torn_empty b = tag_torn (drop at m) (tests ∙ rw (le-ltb at e b, and-false (not (eqb (get_or m at 0) 48))))

  pub torn_other : (get_or m e 0 ≡ 61 → ⊥) → torn ≡ tag_in (cut 61 (drop at m))
  torn_other c = tag_torn (drop at m) (tests ∙ rw (ne_eqb (get_or m e 0) 61 c, and-false (not (eqb (get_or m at 0) 48) && ltb at e)))

pub peek_over : (m : List ℕ) (at : ℕ) → length m ≤ at → 0 ≡ peek (drop at m)
unfolding peek
peek_over m at h = rw (drop_of_length-le m h)

pub peek_tag : (m : List ℕ) (at v : ℕ) → at < length m → v ≡ tag_in (cut 61 (drop at m)) → v ≡ peek (drop at m)
unfolding peek
peek_tag m at v h e = e ∙ rw (drop-cons m at 0 h)
