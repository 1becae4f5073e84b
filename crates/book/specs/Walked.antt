-- The code's records, as the definitions' words. Assumes nothing.
use Rattle.std.specs.Prelude.{ℕ, List, [], ◌∷◌, Option, Some, None}
use Rattle.book.specs.Records.{Record, record_at, walk}
use Rattle.book.specs.declared.records.Kind.{Kind}
use Rattle.book.specs.declared.records.Kind.TheVariants.{Field, Message, Group}
use Rattle.book.specs.declared.records.Record as Code
use Rattle.book.specs.declared.scan.Records.{Records}

abbrev pub kind_number : Kind → ℕ
kind_number Field = 1
kind_number Message = 2
kind_number Group = 3

-- a record of no kind is of kind 0
abbrev pub kind_in : Option Kind → ℕ
kind_in None = 0
kind_in (Some k) = kind_number k

abbrev pub record_in : Code.Record → Record
record_in r = record_at r.offset r.bytes.now

-- the records from an offset on, of the bytes from there on
abbrev pub records_at : ℕ → List ℕ → List Record
records_at at s = walk (λ at. []) (λ at r rs. record_at at r ∷ rs) at s

-- the records that are still to come
abbrev pub records_left : Records → List Record
records_left s = walk (λ at. []) (λ at r rs. record_at at r ∷ rs) s.at s.rest.now
