use Rattle.std.specs.declared.option.Option.TheVariants.{None, Some}
use Rattle.forms.proofs.Times.{year_stop, year_on, month_stop, month_on}
use Rattle.forms.proofs.time.after_month.Goals as goal

pub returns-in_err-after_pair : goal.returns-in_err-after_pair
returns-in_err-after_pair c = month_stop _ (year_stop _ c.in_err-after_pair.ensures) _ c.from_residual.ensures

pub returns-in_err-after_pair-2 : goal.returns-in_err-after_pair-2
returns-in_err-after_pair-2 c =
    month_stop _ (year_on _ c.in_ok-after_pair.field-0 c.in_ok-after_pair.ensures None c.in_err-after_pair-2.ensures) _ c.from_residual-in_err-after_pair-2.ensures

pub returns : goal.returns
returns c =
    month_on _ c.in_ok-after_pair-2.field-0 (year_on _ c.in_ok-after_pair.field-0 c.in_ok-after_pair.ensures (Some c.in_ok-after_pair-2.field-0) c.in_ok-after_pair-2.ensures) _ c.after_pair-3.ensures
