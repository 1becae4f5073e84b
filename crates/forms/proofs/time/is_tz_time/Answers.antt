use Rattle.std.proofs.Common.{◌∙◌, sym}
use Rattle.forms.specs.Form.{◌▷◌}
use Rattle.forms.specs.Types.{maybe, colon, two, offset}
use Rattle.forms.proofs.Following.{asked}
use Rattle.forms.proofs.Times.{tz_at}
use Rattle.forms.proofs.time.is_tz_time.Goals as goal

pub returns : goal.returns
returns c = asked (maybe (colon ▷ two 0 59) ▷ offset) c.after_minutes.result _ c.is_some_and.ensures ∙ sym (tz_at _ _ c.after_minutes.ensures)
