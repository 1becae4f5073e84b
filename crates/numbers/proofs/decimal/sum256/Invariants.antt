use Rattle.numbers.proofs.Decimals.{Summing}
use Rattle.numbers.proofs.decimal.sum256.Given as goal

abbrev pub invariant-loop-b : goal.invariant-loop-b
invariant-loop-b l = Summing l.s l.t l.b-index
