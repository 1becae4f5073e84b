use Rattle.std.proofs.Common.{◌∙◌, sym}
use Rattle.forms.specs.Form.{◌▷◌, ◌∣◌, nil, one}
use Rattle.forms.specs.Types.{byte, two}
use Rattle.forms.proofs.Following.{asked}
use Rattle.forms.proofs.Times.{month_year_at}
use Rattle.forms.proofs.time.is_month_year.Goals as goal

pub returns : goal.returns
returns c = asked (nil ∣ two 1 31 ∣ byte 119 ▷ one 49 53) c.after_month.result _ c.is_some_and.ensures ∙ sym (month_year_at _ _ c.after_month.ensures)
