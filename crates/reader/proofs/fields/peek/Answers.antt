use Rattle.reader.proofs.Fielding.{peek_over, peek_tag}
use Rattle.reader.proofs.fields.peek.Goals as goal

pub returns-then-m-at : goal.returns-then-m-at
returns-then-m-at c = peek_over c.args.m.now c.args.at c.if-m-at.true

pub returns-in-Some : goal.returns-in-Some
returns-in-Some c = peek_tag c.args.m.now c.args.at c.in-Some.n.value c.if-m-at.false c.in-Some.ensures.0

pub returns-in-None : goal.returns-in-None
returns-in-None c = peek_tag c.args.m.now c.args.at 65537 c.if-m-at.false c.in-None.ensures
