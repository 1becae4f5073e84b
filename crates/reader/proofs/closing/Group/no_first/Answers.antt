use Rattle.reader.proofs.Going.{no_first_some, no_first_none}
use Rattle.reader.proofs.closing.Group.no_first.Goals as goal

pub returns-then-self-ge4 : goal.returns-then-self-ge4
returns-then-self-ge4 c = λ s k read p z. no_first_some c.args.self.now c.args.watch s k c.args.head.at c.args.head.tag read p z c.if-self-ge4.true _ (c.no_instance.ensures s k p)

pub returns : goal.returns
returns c = λ s k read p z. no_first_none c.args.self.now c.args.watch s k c.args.head.at c.args.head.tag read c.if-self-ge4.false _ c.at.ensures
