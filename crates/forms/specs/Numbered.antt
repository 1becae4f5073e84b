-- The number of each datatype in document 01's table. Assumes nothing.
use Rattle.std.specs.Prelude.{◌≡◌, ℕ, ◌<◌, ◌⊎◌, Result, MatchResult}
use Rattle.forms.specs.declared.Datatype.{Datatype}
use Rattle.forms.specs.declared.Datatype.TheVariants.{String, Char, Boolean, Int, Length, SeqNum, NumInGroup, DayOfMonth, Float, Data, UtcTimestamp, UtcTimeOnly, UtcDateOnly, MonthYear, TzTimeOnly, MultipleStringValue}
use Rattle.forms.specs.declared.UnknownDatatype.{UnknownDatatype}

abbrev pub number_of : Datatype → ℕ
number_of String = 1
number_of Char = 2
number_of Boolean = 3
number_of Int = 4
number_of Length = 5
number_of SeqNum = 6
number_of NumInGroup = 7
number_of DayOfMonth = 8
number_of Float = 9
number_of Data = 10
number_of UtcTimestamp = 11
number_of UtcTimeOnly = 12
number_of UtcDateOnly = 13
number_of MonthYear = 14
number_of TzTimeOnly = 15
number_of MultipleStringValue = 16

-- the result is the datatype with this number, or an error with a number that is none of 1 to 16
abbrev pub Numbers : ℕ → Result Datatype UnknownDatatype → Type 0
Numbers n r = MatchResult r (λ t. number_of t ≡ n) (λ e. (e.0 ≡ n) × ((n ≡ 0) ⊎ (16 < n)))
