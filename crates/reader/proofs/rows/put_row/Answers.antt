use Rattle.std.proofs.Common.{◌≡◌, ap, length, ◌∙◌, rules}
use Rattle.numbers.specs.Bytes.{little_endian}
use Rattle.message.specs.Sixes.{row_in}
use Rattle.reader.proofs.RowLaws.{put_is, pairs_flat}
use Rattle.reader.specs.Filling.{row_numbers, row_bytes}
use Rattle.reader.proofs.rows.put_row.Goals as goal

pub returns : goal.returns
unfolding row_bytes little_endian
returns c =
    let r = row_in c.args.r in
    let e = c.from-numbers.ensures in
    let flat : c.as_flattened.result.now ≡ row_bytes r = c.as_flattened.ensures.value ∙ pairs_flat _ _ _ _ 6 c.map-pairs.ensures.items (ap length e) (λ p q n y ran. search rules) ∙ ap little_endian e in
    (put_is 6 row_numbers _ _ _ _ r e (ap length e) c.put.ensures, put_is 12 row_bytes _ _ _ _ r flat (ap length flat) c.put-2.ensures)
