-- What the code's marks say. Assumes nothing.
use Rattle.std.specs.Prelude.{◌≡◌, ℕ, ◌<◌, ◌≤◌, List, length, get_or}
use Rattle.numbers.specs.Bytes.{mem}
use Rattle.numbers.specs.Bits.{bit_at}
use Rattle.book.specs.Records.{Member}

-- the tag of the member at a position
abbrev pub tag_at : List Member → ℕ → ℕ
tag_at ms i = (get_or ms i (record { tag = 0; flag = 0 })).tag

-- a bit for each member, by its position: set where its tag is among those seen
pub record Marked (bits : List ℕ) (ms : List Member) (seen : List ℕ) : Type 0 where
  pub room : length ms ≤ 4096
  pub bytes : (i : ℕ) → get_or bits i 0 < 256
  pub holds : (i : ℕ) → i < length ms → bit_at bits i ≡ mem (tag_at ms i) seen
