use Rattle.std.proofs.Common.{◌∙◌, sym}
use Rattle.forms.proofs.Following.{ended}
use Rattle.forms.proofs.Times.{date_all}
use Rattle.forms.proofs.time.is_date.Goals as goal

pub returns : goal.returns
returns c = ended c.after_date.result _ c.is_some_and.ensures ∙ sym (date_all _ _ c.after_date.ensures)
