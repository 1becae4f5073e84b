use Rattle.std.proofs.Common.{refl}
use Rattle.reader.proofs.Marking.{marked_none}
use Rattle.reader.proofs.marks.Marks.none.Goals as goal

pub returns : goal.returns
returns c = λ ms h. marked_none _ ms refl h
