use Rattle.forms.proofs.Times.{date_stop, date_on}
use Rattle.forms.proofs.time.after_date.Goals as goal

pub returns-in_err-after_month : goal.returns-in_err-after_month
returns-in_err-after_month c = date_stop _ c.in_err-after_month.ensures _ c.from_residual.ensures

pub returns : goal.returns
returns c = date_on _ c.in_ok-after_month.field-0 c.in_ok-after_month.ensures _ c.after_pair.ensures
