-- Member lists of a book, and neighbours in them. Assumes nothing.
use Rattle.std.specs.Prelude.{◌≡◌, true, List, [], ◌∷◌, ◌++◌, ◌⊎◌, ℕ}
use Rattle.book.specs.Records.{Member, Record, found, partner, group_of, message_of, is_length}

-- a message's list, or a group's
abbrev pub ListOf : List Record → List Member → Type 0
ListOf B ms = ((T : List ℕ) × (r : Record) × (message_of B T ≡ found r) × (ms ≡ r.members)) ⊎ ((c : ℕ) × (ms ≡ group_of B c))

-- directly behind m stands its data, under the same flag
pub record DataNext (B : List Record) (m : Member) (behind : List Member) : Type 0 where
  pub next : Member
  pub rest : List Member
  pub is : behind ≡ next ∷ rest
  pub tag : next.tag ≡ partner B m.tag
  pub flag : next.flag ≡ m.flag

-- directly before n stands its Length, under the same flag
pub record LengthBefore (B : List Record) (before : List Member) (n : Member) : Type 0 where
  pub front : List Member
  pub last : Member
  pub is : before ≡ front ++ (last ∷ [])
  pub kind : is_length B last.tag ≡ true
  pub tag : partner B last.tag ≡ n.tag
  pub flag : last.flag ≡ n.flag
