use Rattle.std.proofs.Common.{◌-◌, length}
use Rattle.reader.proofs.OwnLaws.{Owning}
use Rattle.reader.proofs.own.own.Given as goal

abbrev pub invariant-loop-spot : goal.invariant-loop-spot
invariant-loop-spot l = Owning l.scan.page l.scan.m.now l.scan.watch l.fn.spot.at l.fn.spot.row l.fn.index l.fn.bytes l.marks.bits l.spot l.index l.bytes

abbrev pub decreases-loop-spot : goal.decreases-loop-spot
decreases-loop-spot l = length l.scan.m.now - l.spot.at
