-- What the code's answers and maps say, in the definitions' words. Assumes nothing.
use Rattle.std.specs.Prelude.{◌≡◌, Bool, true, false, ◌&&◌, not, ℕ, ◌+◌, ◌<◌, List, eqb, length, drop, get_or, Option, Some, None, Result, Ok, Err}
use Rattle.std.specs.List.{list_any}
use Rattle.numbers.specs.Bytes.{le16, mem}
use Rattle.numbers.specs.Bits.{bit_at}
use Rattle.book.specs.declared.Declared.{Declared}
use Rattle.book.specs.declared.records.Record as Code
use Rattle.book.specs.declared.checking.Rule.{Rule}
use Rattle.book.specs.declared.checking.Rule.TheVariants.{R1, R2, R3, R4, R5, R6, R7, R8, R9}
use Rattle.book.specs.declared.checking.Broken.{Broken}
use Rattle.book.specs.Records.{Record, record_at, records, is_field, is_group, LookUp, nothing, found, look_up, is_found, is_length, is_count, is_bounded}
use Rattle.book.specs.Rules.{Opened, once, conflict}
use Rattle.book.specs.Check.{Verdict, sound, broken}
use Rattle.book.specs.Walked.{record_in}

-- what a look-up finds
abbrev pub look_of : Option Code.Record → LookUp
look_of None = nothing
look_of (Some r) = found (record_in r)

-- the record at that offset of the book
abbrev pub found_in : List ℕ → Option Code.Record → LookUp
found_in book None = nothing
found_in book (Some r) = found (record_at r.offset (drop r.offset book))

-- what a tag is declared as: datatype, 0 for none, and partner
abbrev pub type_told : Option Declared → ℕ
type_told None = 0
type_told (Some d) = d.datatype

abbrev pub partner_told : Option Declared → ℕ
partner_told None = 0
partner_told (Some d) = d.partner

abbrev pub is_told : Option Declared → Bool
is_told None = false
is_told (Some d) = true

abbrev pub rule_number : Rule → ℕ
rule_number R1 = 1
rule_number R2 = 2
rule_number R3 = 3
rule_number R4 = 4
rule_number R5 = 5
rule_number R6 = 6
rule_number R7 = 7
rule_number R8 = 8
rule_number R9 = 9

-- document 01's rule and offset of each case
abbrev pub told : Result (Unit {0}) Broken → Verdict
told (Ok u) = sound
told (Err e) = broken (rule_number e.rule) e.offset

-- a map that holds the declared tags
abbrev pub Declares : List ℕ → List Record → Type 0
Declares map B = (t : ℕ) → t < 65536 → bit_at map t ≡ is_found (look_up (is_field t) B)

-- a map outside which no tag is a Length or a data
abbrev pub Pairs : List ℕ → List Record → Type 0
Pairs map B = (t : ℕ) → t < 65536 → bit_at map t ≡ false → (is_length B t ≡ false) × (is_bounded B t ≡ false)

-- the tag of the record at an offset
abbrev pub tag_at : List ℕ → ℕ → ℕ
tag_at book at = le16 (drop (at + 4) book)

-- what was found stands at that offset
abbrev pub stands_at : LookUp → ℕ → Bool
stands_at nothing at = false
stands_at (found r) at = eqb r.offset at

-- a group, and the first of its tag
abbrev pub is_first_group : List Record → Record → Bool
is_first_group B r = eqb r.kind 3 && stands_at (look_up (is_group r.tag) B) r.offset

-- at each of the offsets stands the first group of a tag
abbrev pub AreGroups : List ℕ → List ℕ → Type 0
AreGroups book os = list_any (λ at. not (stands_at (look_up (is_group (tag_at book at)) (records book)) at)) os ≡ false

-- each group's tag is that of a record at one of the offsets
abbrev pub AreAllGroups : List ℕ → List ℕ → Type 0
AreAllGroups book os = (t : ℕ) → is_found (look_up (is_group t) (records book)) ≡ true → list_any (λ at. eqb (tag_at book at) t) os ≡ true

-- the counts are the tags that have a group, as rule 5 wants it
abbrev pub Grouped : List Record → Type 0
Grouped B = (t : ℕ) → is_count B t ≡ is_found (look_up (is_group t) B)

-- a field record of that tag, of a datatype that is picked
abbrev pub is_marked : (ℕ → Bool) → ℕ → Record → Bool
is_marked picks t r = eqb r.kind 1 && picks r.type && eqb r.tag t

-- a map of 8,192 bytes that holds just these tags
pub record Seen (map seen : List ℕ) : Type 0 where
  pub long : length map ≡ 8192
  pub bytes : (i : ℕ) → get_or map i 0 < 256
  pub holds : (t : ℕ) → t < 65536 → bit_at map t ≡ mem t seen

-- a list was opened: the map afterwards holds its tags too; or there was a conflict
abbrev pub Opens : Opened → Bool → List ℕ → Type 0
Opens (once seen) r map = (r ≡ false) × Seen map seen
Opens conflict r map = r ≡ true
