-- The claim over the table of P1 to P14, by computation. Assumes nothing.
use Rattle.std.specs.Prelude.{◌≡◌, refl, map, length}
use Rattle.numbers.specs.Bytes.{bytes}
use Rattle.book.specs.Check.{sound, check}
use Rattle.reader.specs.Reading.{read}
use Rattle.theorems.specs.Examples.{book, table}

-- the book is sound and of 120 bytes, and each message is answered as the table says
pub p1_to_p14 : (length book ≡ 120) × (check book ≡ sound) × (map (λ e. read book (bytes e.message) e.room) table ≡ map (λ e. e.answer) table)
unfolding book table bytes check read
p1_to_p14 = (refl, refl, refl)
