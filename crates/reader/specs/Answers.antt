-- What the code's answers say, in the definitions' words. Assumes nothing.
use Rattle.std.specs.Prelude.{◌≡◌, ℕ, ◌+◌, ◌-◌, ◌≤◌, ◌<◌, Bool, false, ◌&&◌, List, [], ◌∷◌, eqb, length, take, drop, Option, Some, None, Result, Ok, Err}
use denote.Bor.{Bor}
use Rattle.numbers.specs.Decimal.{digits}
use Rattle.book.specs.Records.{Record, message_of, members_in}
use Rattle.reader.specs.declared.Framed as Code
use Rattle.reader.specs.declared.refusal.Refused.{Refused}
use Rattle.reader.specs.Fields.{Cut, uncut, cut_at}
use Rattle.reader.specs.Frame.{Framed, framed, misframed}
use Rattle.reader.specs.Refusals.{number, tag_of}
use Rattle.reader.specs.Reading.{Told}

-- the value from a place on of a field that ends before e, its `|` left out
abbrev pub value_in : List ℕ → ℕ → ℕ → List ℕ
value_in s from e = take (e - 1 - from) (drop from s)

-- a value cut off and the bytes behind it, or none
abbrev pub cut_in : Option (Bor (List ℕ) × Bor (List ℕ)) → Cut
cut_in None = uncut
cut_in (Some p) = cut_at p.0.now p.1.now

-- the last seven bytes are field 10
abbrev pub is_closing : Cut → Bool
is_closing uncut = false
is_closing (cut_at z []) = eqb (length z) 3 && digits z
is_closing (cut_at z (x ∷ r)) = false

-- the parts of s that an answer names
abbrev pub framed_in : List Record → List ℕ → Result Code.Framed Refused → Framed
framed_in B s (Ok f) =
    framed (value_in s 2 f.version_end) (value_in s (f.version_end + 2) f.length_end) (value_in s (f.length_end + 3) f.type_end)
    (record { book = B; own = members_in (message_of B (value_in s (f.length_end + 3) f.type_end)) })
    (take (length s - 7 - f.type_end) (drop f.type_end s)) (take 3 (drop (length s - 4) s))
framed_in B s (Err r) = misframed (number r.why) (drop r.at s)

-- they are inside
pub record Ends (s : List ℕ) (a b c : ℕ) : Type 0 where
  pub version : 2 < a
  pub count : a + 3 ≤ b
  pub type : b + 4 ≤ c
  pub close : c + 7 ≤ length s

abbrev pub Inside : List ℕ → Result Code.Framed Refused → Type 0
Inside s (Ok f) = Ends s f.version_end f.length_end f.type_end
Inside s (Err r) = (r.at ≤ length s) × (tag_of r.why ≡ 0)

-- document 01's number, place, tag and count of a reading's answer
abbrev pub told_by : Result ℕ Refused → Told
told_by (Ok n) = record { number = 0; place = 0; tag = 0; count = n }
told_by (Err r) = record { number = number r.why; place = r.at; tag = tag_of r.why; count = 0 }
