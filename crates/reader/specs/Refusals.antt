-- Document 01's number and tag of each refusal of a message. Assumes nothing.
use Rattle.std.specs.Prelude.{ℕ}
use Rattle.reader.specs.declared.refusal.Refusal.{Refusal}
use Rattle.reader.specs.declared.refusal.Refusal.TheVariants as Case

abbrev pub number : Refusal → ℕ
number Case.Book = 1
number Case.Size = 2
number Case.Version = 3
number Case.Length = 4
number Case.Closing = 5
number Case.Sum = 6
number Case.Type = 7
number Case.Form = 8
number Case.Place = 9
number Case.Twice = 10
number Case.Datatype = 11
number Case.Pair = 12
number Case.Instances = 13
number (Case.Missing t) = 14
number Case.Room = 15

-- 14 names the missing member, any other 0
abbrev pub tag_of : Refusal → ℕ
tag_of (Case.Missing t) = t
tag_of Case.Book = 0
tag_of Case.Size = 0
tag_of Case.Version = 0
tag_of Case.Length = 0
tag_of Case.Closing = 0
tag_of Case.Sum = 0
tag_of Case.Type = 0
tag_of Case.Form = 0
tag_of Case.Place = 0
tag_of Case.Twice = 0
tag_of Case.Datatype = 0
tag_of Case.Pair = 0
tag_of Case.Instances = 0
tag_of Case.Room = 0
