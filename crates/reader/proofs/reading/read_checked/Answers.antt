use Rattle.reader.proofs.FillLaws.{index_is}
use Rattle.reader.proofs.reading.read_checked.Goals as goal

pub returns-clause-index : goal.returns-clause-index
returns-clause-index c = index_is c.args.book.now c.args.msg.now c.args.index.now _ c.fill.ensures.rows.0
