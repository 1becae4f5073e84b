-- Near misses: arrangements that a book permits, and such as miss being permitted by one thing alone. Which is which is proved in
-- proofs/NearMisses. Assumes nothing.
use Rattle.std.specs.Prelude.{List, [], ◌∷◌, ℕ, ◌+◌, ◌/◌, ◌%◌, length}
use Prim.Native.String.{String}
use Rattle.numbers.specs.Bytes.{bytes, total}
use Rattle.numbers.specs.Decimal.{render}
use Rattle.book.specs.Records.{Member, Record}
use Rattle.message.specs.Arrangement.{single, pair, Node, leaf, count, Item, Items, Arrangement}
use Rattle.message.specs.Written.{body, header, type_field}

-- records; members as tag and flag
abbrev pub member : ℕ → ℕ → Member
member t f = record { tag = t; flag = f }

abbrev pub field_of : ℕ → ℕ → ℕ → Record
field_of t y p = record { offset = 0; kind = 1; tag = t; type = y; partner = p; text = []; members = [] }

abbrev pub message_of : List ℕ → List Member → Record
message_of x ms = record { offset = 0; kind = 2; tag = 0; type = 0; partner = 0; text = x; members = ms }

abbrev pub group_of : ℕ → List Member → Record
group_of t ms = record { offset = 0; kind = 3; tag = t; type = 0; partner = 0; text = []; members = ms }

-- the book of P1 to P14; and a String 58 that stands in no list, a message E that requires a pair, a group 802 in the group
unfoldable pub book : List Record
book =
    field_of 11 1 0 ∷ field_of 58 1 0 ∷ field_of 95 5 96 ∷ field_of 96 10 95 ∷ field_of 453 7 0 ∷ field_of 448 1 0 ∷ field_of 447 2 0 ∷ field_of 452 4 0
    ∷ field_of 802 7 0 ∷ field_of 523 1 0
    ∷ message_of (68 ∷ 0 ∷ 0 ∷ 0 ∷ []) (member 11 1 ∷ member 453 0 ∷ member 95 0 ∷ member 96 0 ∷ [])
    ∷ message_of (69 ∷ 0 ∷ 0 ∷ 0 ∷ []) (member 95 1 ∷ member 96 1 ∷ member 11 0 ∷ [])
    ∷ group_of 453 (member 448 1 ∷ member 447 1 ∷ member 452 0 ∷ member 802 0 ∷ [])
    ∷ group_of 802 (member 523 1 ∷ [])
    ∷ []

-- what no sound book declares: tags 0 and 65,536, a String with a partner, a Length without one, a count without a group, type texts that
-- are empty or hold `|`
unfoldable pub odd : List Record
unfolding book
odd =
    field_of 0 1 0 ∷ field_of 65536 1 0 ∷ field_of 12 1 96 ∷ field_of 97 5 0 ∷ field_of 454 7 0
    ∷ message_of (88 ∷ 0 ∷ 0 ∷ 0 ∷ []) (member 11 0 ∷ member 0 0 ∷ member 65536 0 ∷ member 12 0 ∷ member 97 0 ∷ member 454 0 ∷ [])
    ∷ message_of (0 ∷ 0 ∷ 0 ∷ 0 ∷ []) []
    ∷ message_of (88 ∷ 1 ∷ 0 ∷ 0 ∷ []) []
    ∷ book

-- a field, a pair; at any level
abbrev pub f : {I : Type 0} → ℕ → String → Node I
f t v = leaf (single t (bytes v))

abbrev pub two : {I : Type 0} → ℕ → String → ℕ → String → Node I
two l w d v = leaf (pair l (bytes w) d (bytes v))

-- with the right ddd around the text of N; and with the right N
unfoldable pub summing : String → List ℕ → String → Items → Arrangement
unfolding bytes body total
summing W N T a =
    let n = total (header (bytes W) N (type_field (bytes T) (body a))) % 256 in
    record { version = bytes W; body_length = N; type = bytes T; items = a; check_sum = (48 + n / 100) ∷ (48 + n / 10 % 10) ∷ (48 + n % 10) ∷ [] }

unfoldable pub under : String → String → Items → Arrangement
unfolding summing render
under W T a = summing W (render (length (type_field (bytes T) (body a)))) T a

unfoldable pub d : Items → Arrangement
unfolding under
d a = under "FIX.4.4" "D" a

-- the items of P2, and P2 with other texts of N and ddd
unfoldable pub p2 : Items
p2 = f 11 "A" ∷ count 453 (bytes "1") ((f 448 "X" ∷ f 447 "B" ∷ []) ∷ []) ∷ []

unfoldable pub framing : String → String → Arrangement
unfolding bytes p2
framing N z = record { version = bytes "FIX.4.4"; body_length = bytes N; type = bytes "D"; items = p2; check_sum = bytes z }

-- a group of one instance behind field 11
unfoldable pub one : List (Item 4) → Arrangement
unfolding d bytes
one x = d (f 11 "A" ∷ count 453 (bytes "1") (x ∷ []) ∷ [])

unfoldable pub unspoiled : List Arrangement
unfolding under d one p2 framing bytes
unspoiled =
    framing "28" "045"
    ∷ under "FIX.4.2" "D" p2
    ∷ under "FIXT.1.1" "D" p2
    -- zeros in front of N
    ∷ summing "FIX.4.4" (bytes "0028") "D" p2
    -- the message's own list in another order, with the pair
    ∷ d (two 95 "3" 96 "a|b" ∷ count 453 (bytes "1") ((f 448 "X" ∷ f 447 "B" ∷ []) ∷ []) ∷ f 11 "A" ∷ [])
    -- two instances, the optional ones in the second
    ∷ d (f 11 "A" ∷ count 453 (bytes "02") ((f 448 "X" ∷ f 447 "B" ∷ []) ∷ (f 448 "X" ∷ f 447 "B" ∷ f 452 "-1" ∷ count 802 (bytes "1") ((f 523 "Y" ∷ []) ∷ []) ∷ []) ∷ []) ∷ [])
    -- a required pair
    ∷ under "FIX.4.4" "E" (two 95 "1" 96 "|" ∷ [])
    ∷ []

unfoldable pub near_misses : List Arrangement
unfolding unspoiled
near_misses =
    -- the frame: another version; N not digits (`:` counts as ten), and unlike the count
    under "FIX.4.3" "D" p2
    ∷ summing "FIX.4.4" (bytes "1B") "D" p2
    ∷ summing "FIX.4.4" (bytes "") "D" p2
    ∷ summing "FIX.4.4" (bytes "29") "D" p2
    -- ddd of two digits, not digits (`/` counts as none), and unlike the sum
    ∷ framing "28" "45"
    ∷ framing "28" "/45"
    ∷ framing "28" "046"
    -- a type that the book does not have
    ∷ under "FIX.4.4" "C" p2
    -- an empty value, a String with `|`, a value not of its datatype
    ∷ d (f 11 "" ∷ [])
    ∷ d (f 11 "A|11=B" ∷ [])
    ∷ one (f 448 "X" ∷ f 447 "BB" ∷ [])
    ∷ one (f 448 "" ∷ f 447 "B" ∷ [])
    -- the message's own list: a tag that is not in it, a field twice, the required one left out
    ∷ d (f 11 "A" ∷ f 58 "A" ∷ [])
    ∷ d (f 11 "A" ∷ f 7 "A" ∷ [])
    ∷ d (f 11 "A" ∷ f 11 "A" ∷ [])
    ∷ d (two 95 "3" 96 "a|b" ∷ [])
    ∷ under "FIX.4.4" "E" (f 11 "A" ∷ [])
    -- a Length without its data, a data without its Length, another data, a Length that is no number
    ∷ d (f 11 "A" ∷ f 95 "3" ∷ [])
    ∷ d (f 11 "A" ∷ f 96 "abc" ∷ [])
    ∷ d (f 11 "A" ∷ two 95 "3" 58 "abc" ∷ [])
    ∷ d (f 11 "A" ∷ two 95 "/3" 96 "abc" ∷ [])
    -- a data unlike its Length, and an empty one
    ∷ d (f 11 "A" ∷ two 95 "2" 96 "a|b" ∷ [])
    ∷ d (f 11 "A" ∷ two 95 "0" 96 "" ∷ [])
    -- a count without its instances, a count of another form, instances behind what is no count
    ∷ d (f 11 "A" ∷ f 453 "1" ∷ [])
    ∷ d (f 11 "A" ∷ count 453 (bytes "/1") ((f 448 "X" ∷ f 447 "B" ∷ []) ∷ []) ∷ [])
    ∷ d (count 11 (bytes "0") [] ∷ [])
    -- a count unlike its instances
    ∷ d (f 11 "A" ∷ count 453 (bytes "2") ((f 448 "X" ∷ f 447 "B" ∷ []) ∷ []) ∷ [])
    ∷ d (f 11 "A" ∷ count 453 (bytes "1") ((f 448 "X" ∷ f 447 "B" ∷ []) ∷ (f 448 "X" ∷ f 447 "B" ∷ []) ∷ []) ∷ [])
    -- an instance that is empty, that starts with another member, and that is out of order
    ∷ one []
    ∷ one (f 11 "X" ∷ f 447 "B" ∷ [])
    ∷ one (f 447 "B" ∷ f 448 "X" ∷ [])
    ∷ one (f 448 "X" ∷ f 452 "1" ∷ f 447 "B" ∷ [])
    -- of an instance: a field twice, one of no place there, a required one left out at the end and before another
    ∷ one (f 448 "X" ∷ f 447 "B" ∷ f 447 "B" ∷ [])
    ∷ one (f 448 "X" ∷ f 447 "B" ∷ f 58 "A" ∷ [])
    ∷ one (f 448 "X" ∷ [])
    ∷ one (f 448 "X" ∷ f 452 "1" ∷ [])
    -- the second instance out of order, and a group in the group
    ∷ d (f 11 "A" ∷ count 453 (bytes "2") ((f 448 "X" ∷ f 447 "B" ∷ []) ∷ (f 447 "B" ∷ f 448 "X" ∷ []) ∷ []) ∷ [])
    ∷ one (f 448 "X" ∷ f 447 "B" ∷ count 802 (bytes "2") ((f 523 "Y" ∷ []) ∷ []) ∷ [])
    ∷ []

abbrev pub x : Items → Arrangement
x a = under "FIX.4.4" "X" a

-- what only a book that is not sound brings near
unfoldable pub odd_misses : List Arrangement
unfolding under bytes
odd_misses =
    -- an empty type, a type with `|`
    under "FIX.4.4" "" []
    ∷ under "FIX.4.4" "X|" []
    -- tags that are none
    ∷ x (f 0 "A" ∷ [])
    ∷ x (f 65536 "A" ∷ [])
    -- a partner of what is no Length, a partner that is no tag
    ∷ x (two 12 "3" 96 "abc" ∷ [])
    ∷ x (two 97 "3" 0 "abc" ∷ [])
    -- an instance of no group
    ∷ x (count 454 (bytes "1") ([] ∷ []) ∷ [])
    ∷ []
