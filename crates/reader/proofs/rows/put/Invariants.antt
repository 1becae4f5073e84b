use Rattle.std.proofs.Common.{◌≡◌, take}
use Rattle.reader.proofs.rows.put.Given as goal

abbrev pub invariant-loop-i : goal.invariant-loop-i
invariant-loop-i g l = take l.i l.place ≡ take l.i l.row
