use Rattle.std.proofs.Common.{◌∙◌, ap}
use Rattle.forms.specs.Form.{accepts}
use Rattle.forms.specs.Types.{offset}
use Rattle.forms.proofs.Times.{seconds_at}
use Rattle.forms.proofs.time.is_seconds_offset.Goals as goal

pub returns : goal.returns
returns c = c.is_offset.ensures ∙ ap (λ x. accepts offset x.now) c.unwrap_or.ensures ∙ seconds_at c.args.s _ c.after_sixtieth.ensures
