-- The digit and time types in document 01's own words: digits with a rule on their value, two digits from lo to hi at their places.
-- proofs/ shows each equal to its form in Types. Assumes nothing.
use Rattle.std.specs.Prelude.{ℕ, Bool, true, false, ◌&&◌, ◌||◌, List, [], ◌∷◌, leb, ltb, eqb, length, take, drop}
use Rattle.numbers.specs.Bytes.{mem}
use Rattle.numbers.specs.Decimal.{digits, value}

-- 6 and 7: digits, above zero
unfoldable pub is_positive : List ℕ → Bool
is_positive s = digits s && ltb 0 (value s)

-- 8: digits, value 1 to 31
unfoldable pub is_day : List ℕ → Bool
is_day s = digits s && (leb 1 (value s) && leb (value s) 31)

-- two digits, their number from lo to hi
unfoldable pub is_two : ℕ → ℕ → List ℕ → Bool
is_two lo hi s = eqb (length s) 2 && (digits s && (leb lo (value s) && leb (value s) hi))

-- s is the one byte b
unfoldable pub is_byte : ℕ → List ℕ → Bool
is_byte b [] = false
is_byte b (x ∷ []) = eqb x b
is_byte b (x ∷ y ∷ s) = false

-- n bytes from place i on
abbrev pub part : ℕ → ℕ → List ℕ → List ℕ
part i n s = take n (drop i s)

-- YYYYMMDD
unfoldable pub is_date : List ℕ → Bool
is_date s = eqb (length (take 4 s)) 4 && digits (take 4 s) && (is_two 1 12 (part 4 2 s) && is_two 1 31 (drop 6 s))

-- HH:MM:SS
unfoldable pub is_time : List ℕ → Bool
is_time s = is_two 0 23 (take 2 s) && (is_byte 58 (part 2 1 s) && (is_two 0 59 (part 3 2 s) && (is_byte 58 (part 5 1 s) && is_two 0 60 (drop 6 s))))

-- nothing, or a point and as many digits as one of the counts says
unfoldable pub is_fraction : List ℕ → List ℕ → Bool
is_fraction counts [] = true
is_fraction counts (b ∷ s) = eqb b 46 && (mem (length s) counts && digits s)

-- 11
unfoldable pub is_timestamp : List ℕ → List ℕ → Bool
is_timestamp counts s = is_date (take 8 s) && (is_byte 45 (part 8 1 s) && (is_time (part 9 8 s) && is_fraction counts (drop 17 s)))

-- nothing, Z, or + or - with hh and optional :mm
unfoldable pub is_offset : List ℕ → Bool
is_offset s =
    eqb (length s) 0
    || (is_byte 90 s
    || ((is_byte 43 (take 1 s) || is_byte 45 (take 1 s))
    && (is_two 1 12 (part 1 2 s) && (eqb (length (drop 3 s)) 0 || (is_byte 58 (part 3 1 s) && is_two 0 59 (drop 4 s))))))

-- 15
unfoldable pub is_tz_time : List ℕ → Bool
is_tz_time s =
    is_two 0 23 (take 2 s)
    && (is_byte 58 (part 2 1 s)
    && (is_two 0 59 (part 3 2 s)
    && (is_offset (drop 5 s) || (is_byte 58 (part 5 1 s) && is_two 0 59 (part 6 2 s) && is_offset (drop 8 s)))))
