use Rattle.std.proofs.Common.{◌≡◌, drop}
use Rattle.numbers.specs.Decimal.{value_from, value}
use Rattle.numbers.proofs.decimal.value_of.Given as goal

abbrev pub invariant-loop-b : goal.invariant-loop-b
invariant-loop-b l = value l.s ≡ value_from l.v (drop l.b-index l.s)
