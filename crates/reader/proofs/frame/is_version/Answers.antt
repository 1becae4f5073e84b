use Rattle.std.proofs.Common.{◌∙◌}
use Rattle.reader.proofs.Framing.{version_is}
use Rattle.reader.proofs.frame.is_version.Goals as goal

pub returns : goal.returns
returns c = rw c.as_slice.ensures at c.contains.ensures.value ∙ version_is c.args.w.now
