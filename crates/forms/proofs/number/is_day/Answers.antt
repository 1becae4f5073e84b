use native.Mathlib.Omega.{arith}
use Rattle.forms.proofs.Leading.{day_1, day_2, day_3}
use Rattle.forms.proofs.number.is_day.Goals as goal

pub returns-in-len1 : goal.returns-in-len1
returns-in-len1 c = day_1 c.args.s.now _ c.count-zeros.ensures.value c.in-len1.len_at_least c.in-len1.len_below _ c.between.ensures

pub returns-in-len2 : goal.returns-in-len2
returns-in-len2 c = day_2 c.args.s.now _ c.count-zeros.ensures.value c.in-len2.len_at_least c.in-len2.len_below _ c.is_pair.ensures

pub returns-in_default : goal.returns-in_default
returns-in_default c = let l = c.in_default.len_below in day_3 c.args.s.now _ c.count-zeros.ensures.value (λ e. omega arith) (λ e. omega arith)

pub returns-in_default-2 : goal.returns-in_default-2
returns-in_default-2 c = let l = c.in_default.len_at_least in day_3 c.args.s.now _ c.count-zeros.ensures.value (λ e. omega arith) (λ e. omega arith)
