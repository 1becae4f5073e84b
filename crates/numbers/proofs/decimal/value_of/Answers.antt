use Rattle.std.proofs.Common.{rules}
use Rattle.numbers.proofs.Decimals.{value_turn, value_least, value_end}
use Rattle.numbers.proofs.decimal.value_of.Goals as goal

pub returns-in_err-checked_mul : goal.returns-in_err-checked_mul
returns-in_err-checked_mul c =
    let h = value_least c.args.s.now c.loop-b.v c.loop-b.b-index c.loop-b.invariant (search rules) in search rules

pub returns-in_err-v : goal.returns-in_err-v
returns-in_err-v c =
    let h = value_least c.args.s.now c.loop-b.v c.loop-b.b-index c.loop-b.invariant (search rules) in search rules

pub loop-b-preserved : goal.loop-b-preserved
loop-b-preserved c = let h = value_turn c.args.s.now c.loop-b.v c.loop-b.b-index c.loop-b.invariant (search rules) in search rules

pub returns : goal.returns
returns c = value_end c.args.s.now c.loop-b.v c.loop-b.b-index c.loop-b.invariant (search rules)
