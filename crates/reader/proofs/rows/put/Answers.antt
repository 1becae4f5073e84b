use Rattle.std.proofs.Common.{arith}
use Rattle.std.proofs.lemmas.Grind.{common_steps}
use Rattle.reader.proofs.RowLaws.{part_sets}
use Rattle.reader.proofs.rows.put.Goals as goal

pub returns-after-loop-i : goal.returns-after-loop-i
returns-after-loop-i g c = part_sets _ _ _ _ (grind (arith, common_steps, c.loop-i.invariant, c.loop-i.auto.place)) c.if-end-lent.true
