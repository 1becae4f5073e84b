use Rattle.std.proofs.Common.{◌∙◌, sym}
use Rattle.forms.specs.Types.{fraction, all_counts}
use Rattle.forms.proofs.Following.{asked}
use Rattle.forms.proofs.Times.{time_only_at}
use Rattle.forms.proofs.time.is_time_only.Goals as goal

pub returns : goal.returns
returns c = asked (fraction all_counts) c.after_time.result _ c.is_some_and.ensures ∙ sym (time_only_at _ _ all_counts c.after_time.ensures)
