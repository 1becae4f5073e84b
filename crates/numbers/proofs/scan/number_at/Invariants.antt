use Rattle.std.proofs.Common.{◌≡◌, ◌+◌, drop}
use Rattle.numbers.proofs.Scanning.{Counted}
use Rattle.numbers.proofs.scan.number_at.Given as goal

abbrev pub invariant-loop-b : goal.invariant-loop-b
invariant-loop-b l = (l.b-items ≡ drop l.from l.s) × (l.end ≡ l.from + l.b-index) × Counted 65536 l.b-items l.value l.b-index
