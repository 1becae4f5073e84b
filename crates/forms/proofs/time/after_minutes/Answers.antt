use Rattle.forms.proofs.Times.{minutes_stop, minutes_on}
use Rattle.forms.proofs.time.after_minutes.Goals as goal

pub returns-in_err-after_pair : goal.returns-in_err-after_pair
returns-in_err-after_pair c = minutes_stop _ c.in_err-after_pair.ensures _ c.from_residual.ensures

pub returns : goal.returns
returns c = minutes_on _ c.in_ok-after_pair.field-0 c.in_ok-after_pair.ensures _ c.after_sixtieth.ensures
