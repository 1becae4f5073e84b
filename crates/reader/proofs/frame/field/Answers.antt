use Rattle.reader.proofs.Cuts.{field_is}
use Rattle.reader.proofs.frame.field.Goals as goal

pub returns-in_err-strip_prefix : goal.returns-in_err-strip_prefix
returns-in_err-strip_prefix c = rw (c.from_residual.ensures, field_is c.args.tag.now c.args.s.now, c.in_err-strip_prefix.ensures.cases)

pub returns : goal.returns
returns c = rw (field_is c.args.tag.now c.args.s.now, c.in_ok-strip_prefix.ensures.cases.0, ← c.in_ok-strip_prefix.ensures.cases.1) c.cut.ensures
