use Rattle.std.proofs.Common.{length, ◌-◌}
use Rattle.book.proofs.Walk.{StopSofar}
use Rattle.book.proofs.records.first_bad_record.Given as goal

abbrev pub invariant-loop-n : goal.invariant-loop-n
invariant-loop-n l = StopSofar l.book l.at

abbrev pub decreases-loop-n : goal.decreases-loop-n
decreases-loop-n l = length l.book - l.at
