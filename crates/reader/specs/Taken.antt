-- What the code's answer at a field says: places in m, the message without its last seven bytes. Assumes nothing.
use Rattle.std.specs.Prelude.{◌≡◌, cond, List, ℕ, ◌+◌, ◌-◌, ◌≤◌, ◌<◌, eqb, length, take, drop, Result, Ok, Err}
use Rattle.numbers.specs.Decimal.{value}
use Rattle.forms.specs.Numbered.{number_of}
use Rattle.book.specs.Records.{Record, type_of, partner}
use Rattle.message.specs.Arrangement.{single, pair}
use Rattle.message.specs.Rows.{lead}
use Rattle.reader.specs.declared.Grabbed.{Grabbed}
use Rattle.reader.specs.declared.Grabbed.TheVariants.{Single, Pair}
use Rattle.reader.specs.declared.refusal.Refused.{Refused}
use Rattle.reader.specs.Fields.{Grab, got, fault, ended}
use Rattle.reader.specs.Refusals.{number, tag_of}

-- the bytes from a up to b
abbrev pub between : List ℕ → ℕ → ℕ → List ℕ
between m a b = take (b - a) (drop a m)

abbrev pub taken : List ℕ → Result Grabbed Refused → Grab
taken m (Ok (Single f y)) = got (single f.tag (between m f.start f.end)) (drop (f.end + 1) m)
taken m (Ok (Pair l d)) = got (pair l.tag (between m l.start l.end) d.tag (between m d.start d.end)) (drop (d.end + 1) m)
taken m (Err r) = fault (number r.why) (drop r.at m)

-- a field at a place: its tag, and its value from a up to b
pub record Stands (m : List ℕ) (at t a b : ℕ) : Type 0 where
  pub tag : t < 65536
  pub past : at < a
  pub start : a ≡ at + lead t
  pub some : a < b
  pub inside : b < length m

-- the answer's places are right; a refusal is at the field or at the data behind it, and names no member
abbrev pub Placed : List Record → List ℕ → ℕ → Result Grabbed Refused → Type 0
Placed B m at (Ok (Single f y)) = (number_of y ≡ type_of B f.tag) × Stands m at f.tag f.start f.end
Placed B m at (Ok (Pair l d)) = Stands m at l.tag l.start l.end × Stands m (l.end + 1) d.tag d.start d.end
Placed B m at (Err r) = (at ≤ r.at) × (at ≤ length m → r.at ≤ length m) × (tag_of r.why ≡ 0)

abbrev pub Takes : List Record → List ℕ → ℕ → Grab → Result Grabbed Refused → Type 0
Takes B m at g r = (taken m r ≡ g) × Placed B m at r

-- what the book declares of a tag: datatype and partner
abbrev pub Known : List Record → ℕ → ℕ → ℕ → Type 0
Known B t y q = (y ≡ type_of B t) × (q ≡ partner B t)

-- a data of tag d with the bytes r behind its `=`, as many as the text w of its Length says
abbrev pub filled : List Record → ℕ → List ℕ → List ℕ → ℕ → List ℕ → Grab
filled B l w s d r = cond (eqb (value w) 0) (fault 8 s) (ended B l w d (take (value w) r) s (drop (value w) r))
