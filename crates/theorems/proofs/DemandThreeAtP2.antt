-- Demand 3 is not empty: P2's arrangement, written down; that it is permitted and gives P2's bytes, by computation; and what P2 is read as,
-- by the theorem and not by running the reading. Assumes nothing.
use Rattle.std.specs.Prelude.{◌≡◌, true, ℕ, ◌*◌, ◌≤◌, length}
use Rattle.std.proofs.Math.Path.{refl}
use native.Mathlib.Omega.{arith}
use Rattle.numbers.specs.Bytes.{total, free, mem}
use Rattle.numbers.specs.Decimal.{digits, value_from}
use Rattle.book.specs.Records.{records}
use Rattle.book.specs.Check.{sound, check}
use Rattle.message.specs.Arrangement.{Arrangement}
use Rattle.message.specs.Written.{body, written}
use Rattle.message.specs.Permitted.{permitted}
use Rattle.message.specs.Rows.{width, rows_of}
use Rattle.reader.specs.Reading.{gives, arrangement_of, looked, read_checked, read}
use Rattle.bridge.proofs.Demand3.{Reads, always, unique, roomy_exactly, read_exactly}
use Rattle.theorems.specs.Examples.{book}
use Rattle.theorems.specs.DemandThreeAtP2.{p2, arranged, rows}

-- by computation, and without a word of the reading
pub book_sound : check book ≡ sound
unfolding book check
book_sound = refl

pub p2_permitted : permitted (looked book) arranged ≡ true
unfolding book arranged permitted body digits value_from total free mem records
p2_permitted = refl

pub p2_written : written arranged ≡ p2
unfolding arranged written p2
p2_written = refl

pub p2_rows : rows_of arranged ≡ rows
unfolding arranged rows_of rows
p2_rows = refl

p2_short : length p2 ≤ 8192
p2_short = let n : length p2 ≡ 50 = unfold p2 in refl in omega arith

stated : Reads book p2 rows
stated = record { which = arranged; allowed = p2_permitted; bytes = p2_written; short = p2_short; stated = p2_rows }

-- so by demand 3: the arrangement is read back, and it is the only one with P2's bytes
pub p2_read_back : arrangement_of (looked book) p2 ≡ gives arranged
p2_read_back = rw (← p2_written) (always book book_sound arranged p2_permitted (rw p2_written p2_short))

pub p2_unique : (A : Arrangement) → permitted (looked book) A ≡ true → written A ≡ p2 → A ≡ arranged
p2_unique A p e = unique book book_sound A arranged p p2_permitted (rw p2_written e)

-- and both readings answer its rows
pub p2_checked : (room : ℕ) → width * 2048 ≤ room → read_checked book p2 room ≡ gives rows
p2_checked room n = (roomy_exactly book book_sound p2 room n rows).1 stated

pub p2_read : (room : ℕ) → width * 8 ≤ room → read book p2 room ≡ gives rows
p2_read room n = (read_exactly book p2 room rows).1 (book_sound, stated, let m : length rows ≡ 8 = unfold rows in refl in rw m n)
