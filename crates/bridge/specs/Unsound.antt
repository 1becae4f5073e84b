-- What the check's answer may be for a book that is not sound. Assumes nothing.
use Rattle.std.specs.Prelude.{◌≡◌, true, false, List, [], ◌∷◌, ◌++◌, ℕ, ◌+◌, ◌≤◌, ◌<◌, length, drop}
use Rattle.book.specs.Records.{Record, record_at, records, stop}
use Rattle.book.specs.Check.{rule_of}

-- each record of a list passes
abbrev pub Every : (Record → Type 0) → List Record → Type 0
Every p [] = Unit {0}
Every p (r ∷ rs) = p r × Every p rs

-- no record breaks rule n of the book with the records B
abbrev pub Keeps : List Record → ℕ → List Record → Type 0
Keeps B n rs = Every (λ r. rule_of n B r ≡ false) rs

-- the record is the one that stands at its offset in the bytes, whole
pub record StandsIn (book : List ℕ) (r : Record) : Type 0 where
  pub is : r ≡ record_at r.offset (drop r.offset book)
  pub fits : r.offset + 4 ≤ length book

-- rule n is broken, at that offset. One line for each way
pub data Unsound (book : List ℕ) (n at : ℕ) : Type 0 where
  -- 1: too long, at 0
  over : n ≡ 1 → 16384 < length book → at ≡ 0 → Unsound book n at
  -- 1: where the walk over the records stops before the end
  torn : n ≡ 1 → length book ≤ 16384 → at ≡ stop book → at < length book → Unsound book n at
  -- 2 to 9: the first record that breaks the rule, where all lower rules hold
  rule : 2 ≤ n → n ≤ 9 → (stop book ≡ length book) → ((m : ℕ) → 2 ≤ m → m < n → Keeps (records book) m (records book))
      → (before after : List Record) (r : Record) → records book ≡ before ++ (r ∷ after)
      → Keeps (records book) n before → rule_of n (records book) r ≡ true → StandsIn book r → at ≡ r.offset → Unsound book n at
