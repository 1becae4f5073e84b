use mathlib.Core.Path.{◌∙◌, refl}
use Rattle.reader.proofs.RowLaws.{rows_one, rows_two}
use Rattle.reader.specs.Filling.{row_numbers, row_bytes}
use Rattle.reader.specs.Met.{field_row}
use Rattle.reader.proofs.items.put_taken.Goals as goal

pub returns-in-Single : goal.returns-in-Single
returns-in-Single c =
    let a = c.args in
    let r = field_row a.within c.in-Single.field in
    rw c.in-Single.is (c.put_field.ensures.0 ∙ rows_one 6 row_numbers a.index.now a.row r, c.put_field.ensures.1 ∙ rows_one 12 row_bytes a.bytes.now a.row r, refl)

pub returns-in-Pair : goal.returns-in-Pair
returns-in-Pair c =
    let a = c.args in
    let r = field_row a.within c.in-Pair.length in
    let q = field_row a.within c.in-Pair.data in
    rw c.in-Pair.is (
      rows_two 6 row_numbers a.index.now _ _ a.row r q c.put_field-in-Pair.ensures.0 c.put_field-in-Pair-2.ensures.0,
      rows_two 12 row_bytes a.bytes.now _ _ a.row r q c.put_field-in-Pair.ensures.1 c.put_field-in-Pair-2.ensures.1,
      refl,
    )
