-- What the check answers: sound, or the lowest rule broken and the offset of the first record that breaks it. Assumes nothing.
use Rattle.std.specs.Prelude.{ℕ, zero, suc, ◌-◌, Bool, true, false, cond, List, [], ◌∷◌, ltb, length, get_or}
use Rattle.book.specs.Records.{stop, Record, records}
use Rattle.book.specs.Rules.{rule1, rule2, rule3, rule4, rule5, rule6, rule7, rule8, rule9}

pub data Verdict : Type 0 where
  sound : Verdict
  broken : (rule offset : ℕ) → Verdict

-- the first record that breaks rule n
unfoldable pub first : ℕ → (Record → Bool) → List Record → Verdict
first n breaks [] = sound
first n breaks (r ∷ rs) = elim (breaks r) [ true ↦ broken n r.offset | false ↦ first n breaks rs ]

-- a rule is asked only where all lower ones hold
unfoldable pub and_then : Verdict → Verdict → Verdict
and_then sound v = v
and_then (broken n at) v = broken n at

-- rule 1: a book over its size breaks it at 0, else the record that cannot be taken
unfoldable pub filled : List ℕ → Verdict
filled s = cond (rule1 s) (broken 1 (cond (ltb 16384 (length s)) 0 (stop s))) sound

-- the other rules by their numbers
unfoldable pub rule_of : ℕ → List Record → Record → Bool
rule_of n = get_or ((λ B. rule2) ∷ rule3 ∷ rule4 ∷ rule5 ∷ rule6 ∷ (λ B. rule7) ∷ rule8 ∷ rule9 ∷ []) (n - 2) (λ B r. false)

-- so many rules from number n on
unfoldable pub rules_from : ℕ → ℕ → List Record → Verdict
rules_from zero n B = sound
rules_from (suc k) n B = and_then (first n (rule_of n B) B) (rules_from k (suc n) B)

unfoldable pub check : List ℕ → Verdict
unfolding filled rule1 rules_from rule_of first and_then stop records rule2 rule3 rule4 rule5 rule6 rule7 rule8 rule9
check s = and_then (filled s) (rules_from 8 2 (records s))

unfoldable pub is_sound : Verdict → Bool
is_sound sound = true
is_sound (broken n at) = false
