use Rattle.std.proofs.Common.{◌≡◌, ◌<◌, length, get_or, [], arith}
use Rattle.std.proofs.lemmas.Grind.{common_steps}
use Rattle.std.proofs.lemmas.Bool.Decides.{nat_tests}
use Rattle.index.specs.Questions.{row_count}
use Rattle.message.specs.Sixes.{row_from}
use Rattle.index.specs.Answers.{row_of}
use Rattle.index.proofs.Rows.{chunk_row, length_chunks}
use Rattle.index.proofs.row_at.Goals as goal

pub returns : goal.returns
returns c =
    let k = c.args.k in
    let index = c.args.index.now in
    let n = row_count index in
    let many : length c.rows_of.result.now ≡ n = rw c.rows_of.ensures (length_chunks n index) in
    let row : k < n → row_from (get_or c.rows_of.result.now k []) ≡ row_of index k = λ h. rw c.rows_of.ensures (chunk_row n k index h) in
    grind (arith, common_steps, nat_tests, row, many)
