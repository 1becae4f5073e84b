use Rattle.std.proofs.Common.{◌∙◌, sym, rules}
use Rattle.forms.specs.Types.{all_counts}
use Rattle.forms.proofs.Times.{fraction_none, fraction_on, fraction_off}
use Rattle.forms.proofs.time.is_fraction.Goals as goal

pub returns-in-empty : goal.returns-in-empty
returns-in-empty c = fraction_none _ _ c.in-empty.len_below

pub returns-then-is_count : goal.returns-then-is_count
returns-then-is_count c =
    c.all_digits.ensures ∙ sym (fraction_on all_counts c.args.s.now c.in-46.len_at_least (search rules) ∙ rw (sym c.is_count.ensures ∙ c.if-is_count.true))

pub returns-else-is_count : goal.returns-else-is_count
returns-else-is_count c =
    c.if-is_count.false ∙ sym (fraction_on all_counts c.args.s.now c.in-46.len_at_least (search rules) ∙ rw (sym c.is_count.ensures ∙ c.if-is_count.false))

pub returns-in_default : goal.returns-in_default
returns-in_default c = fraction_off all_counts c.args.s.now c.in_default.len_at_least (search rules)
