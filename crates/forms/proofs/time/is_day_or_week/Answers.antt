use Rattle.std.proofs.Common.{◌∙◌, rules, arith}
use Rattle.forms.proofs.Times.{month_rest_none, month_rest_week, month_rest_day, month_rest_wrong}
use Rattle.forms.proofs.time.is_day_or_week.Goals as goal

pub returns-in-empty : goal.returns-in-empty
returns-in-empty c = month_rest_none _ c.in-empty.len_below

pub returns-in-119 : goal.returns-in-119
returns-in-119 c = c.between.ensures ∙ month_rest_week c.args.s.now c.in-119.len_at_least c.in-119.len_below (search rules)

pub returns-in-len2 : goal.returns-in-len2
returns-in-len2 c = c.is_pair.ensures ∙ month_rest_day c.args.s.now c.in-len2.len_at_least c.in-len2.len_below (search rules)

pub returns-in_default : goal.returns-in_default
returns-in_default c = month_rest_wrong c.args.s.now (λ e. omega arith) (λ e. omega arith)

pub returns-in_default-2 : goal.returns-in_default-2
returns-in_default-2 c = month_rest_wrong c.args.s.now (λ e. omega arith) (λ e. omega arith)
