use Rattle.bridge.proofs.Tied.{one}
use Rattle.bridge.proofs.read_arrangement.Goals as goal

-- of no answer
pub returns-clause-one : goal.returns-clause-one
returns-clause-one c = one c.args.book.now c.args.msg.now
