-- The datatypes of document 01, each as its row of the table says. Assumes nothing.
use Rattle.std.specs.Prelude.{ℕ, zero, suc, ◌+◌, ◌-◌, ◌*◌, min, Bool, true, false, ◌||◌, List, [], ◌∷◌, ltb, get_or}
use Rattle.forms.specs.Form.{Form, none, nil, one, ◌▷◌, ◌∣◌, many, seq, alt_r, alt, null, after, accepts}

unfoldable pub byte : ℕ → Form
byte b = one b b

unfoldable pub digit : Form
digit = one 48 57

unfoldable pub colon : Form
colon = byte 58

-- one or more
unfoldable pub more : Form → Form
more f = f ▷ many f

-- nothing or it
unfoldable pub maybe : Form → Form
maybe f = nil ∣ f

unfoldable pub times : ℕ → Form → Form
times zero f = nil
times (suc n) f = seq f (times n f)

-- the two digits of a number from lo to hi whose first is below t
unfoldable pub two_below : ℕ → ℕ → ℕ → Form
unfolding alt alt_r
two_below zero lo hi = none
two_below (suc t) lo hi =
    elim (ltb hi (10 * t) || ltb (10 * t + 9) lo) [
      | true ↦ two_below t lo hi
      | false ↦ alt (two_below t lo hi) (byte (48 + t) ▷ one (48 + (lo - 10 * t)) (48 + min 9 (hi - 10 * t)))
    ]

-- two digits, their number from lo to hi
unfoldable pub two : ℕ → ℕ → Form
two lo hi = two_below 10 lo hi

-- digits, as many as one of the counts says
unfoldable pub counted : List ℕ → Form
counted [] = none
counted (n ∷ ns) = alt (times n digit) (counted ns)

-- any byte but `|`; and but the space
unfoldable pub any : Form
any = one 0 0 ∣ one 2 255

unfoldable pub letter : Form
letter = one 0 0 ∣ one 2 31 ∣ one 33 255

-- 1 String
unfoldable pub string : Form
string = more any

-- 2 char
unfoldable pub char : Form
char = any

-- 3 Boolean
unfoldable pub boolean : Form
boolean = byte 89 ∣ byte 78

-- 4 int
unfoldable pub int : Form
int = maybe (byte 45) ▷ more digit

-- 5 Length
unfoldable pub len : Form
len = more digit

-- 6 SeqNum, 7 NumInGroup: a digit above zero behind zeros
unfoldable pub positive : Form
positive = many (byte 48) ▷ one 49 57 ▷ many digit

-- 8 DayOfMonth
unfoldable pub day_of_month : Form
day_of_month = many (byte 48) ▷ (one 49 57 ∣ one 49 50 ▷ digit ∣ byte 51 ▷ one 48 49)

-- 9 float
unfoldable pub float : Form
float = maybe (byte 45) ▷ (more digit ▷ maybe (byte 46 ▷ many digit) ∣ byte 46 ▷ more digit)

-- 10 data
unfoldable pub blob : Form
blob = more (one 0 255)

-- YYYYMMDD; DD 01 to 31 in every month
unfoldable pub date : Form
date = times 4 digit ▷ two 1 12 ▷ two 1 31

-- HH:MM:SS, SS 00 to 60
unfoldable pub time : Form
time = two 0 23 ▷ colon ▷ two 0 59 ▷ colon ▷ two 0 60

-- nothing, or a point and as many digits as one of the counts says
unfoldable pub fraction : List ℕ → Form
fraction counts = maybe (byte 46 ▷ counted counts)

-- 11 UTCTimestamp
unfoldable pub timestamp : List ℕ → Form
timestamp counts = date ▷ byte 45 ▷ time ▷ fraction counts

-- 12 UTCTimeOnly
unfoldable pub time_only : List ℕ → Form
time_only counts = time ▷ fraction counts

-- 14 MonthYear: YYYYMM, then nothing, DD, or w1 to w5
unfoldable pub month_year : Form
month_year = times 4 digit ▷ two 1 12 ▷ (nil ∣ two 1 31 ∣ byte 119 ▷ one 49 53)

-- nothing, Z, or + or - with hh and optional :mm
unfoldable pub offset : Form
offset = nil ∣ byte 90 ∣ (byte 43 ∣ byte 45) ▷ two 1 12 ▷ maybe (colon ▷ two 0 59)

-- 15 TZTimeOnly
unfoldable pub tz_time : Form
tz_time = two 0 23 ▷ colon ▷ two 0 59 ▷ maybe (colon ▷ two 0 59) ▷ offset

-- 16 MultipleStringValue
unfoldable pub words : Form
words = more letter ▷ many (byte 32 ▷ more letter)

-- how many digits a fraction of a second may have
unfoldable pub all_counts : List ℕ
all_counts = 3 ∷ 6 ∷ 9 ∷ 12 ∷ []

-- the form of each datatype by its number
unfoldable pub form_of : ℕ → Form
form_of n =
    get_or
    (none
    ∷ string ∷ char ∷ boolean ∷ int ∷ len ∷ positive ∷ positive ∷ day_of_month
    ∷ float ∷ blob ∷ timestamp all_counts ∷ time_only all_counts ∷ date ∷ month_year ∷ tz_time ∷ words
    ∷ [])
    n none

-- the value is of the datatype with that number
unfoldable pub of_type : ℕ → List ℕ → Bool
unfolding form_of string char boolean int len positive day_of_month float blob timestamp time_only date time fraction month_year offset tz_time words all_counts any letter byte digit colon more maybe times two_below two counted seq alt alt_r null after accepts
of_type n s = accepts (form_of n) s
