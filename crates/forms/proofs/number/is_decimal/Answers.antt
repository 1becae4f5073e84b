use Rattle.std.proofs.Common.{rules, arith}
use Rattle.std.proofs.lemmas.Grind.{common_steps}
use Rattle.forms.proofs.Decimals.{decimal_whole, decimal_point, decimal_other}
use Rattle.forms.proofs.number.is_decimal.Goals as goal

pub returns-in-empty : goal.returns-in-empty
returns-in-empty c = decimal_whole c.args.s.now _ c.count.ensures.value _ c.split_at.ensures.back c.in-empty.len_below _ (search rules)

pub returns-then-s-gt1 : goal.returns-then-s-gt1
returns-then-s-gt1 c = rw (decimal_point c.args.s.now _ c.count.ensures.value _ c.split_at.ensures.back c.in-46.len_at_least (search rules)) (grind (arith, common_steps))

pub returns-else-s-gt1 : goal.returns-else-s-gt1
returns-else-s-gt1 c = rw (decimal_point c.args.s.now _ c.count.ensures.value _ c.split_at.ensures.back c.in-46.len_at_least (search rules)) (grind (arith, common_steps))

pub returns-in_default : goal.returns-in_default
returns-in_default c = decimal_other c.args.s.now _ c.count.ensures.value _ c.split_at.ensures.back c.in_default.len_at_least (search rules)
