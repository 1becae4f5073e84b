use Rattle.std.proofs.Common.{rules}
use Rattle.numbers.proofs.Decimals.{sum_turn, sum_end}
use Rattle.numbers.proofs.decimal.sum256.Goals as goal

pub loop-b-preserved : goal.loop-b-preserved
loop-b-preserved c = let h = sum_turn c.args.s.now c.loop-b.t c.loop-b.b-index c.loop-b.invariant (search rules) in search rules

pub returns : goal.returns
returns c = sum_end c.args.s.now c.loop-b.t c.loop-b.b-index c.loop-b.invariant (search rules)
