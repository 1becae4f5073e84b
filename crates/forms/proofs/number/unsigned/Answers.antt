use Rattle.std.proofs.Common.{◌∙◌, ap}
use Rattle.forms.proofs.Decimals.{unsigned_is}
use Rattle.forms.proofs.number.unsigned.Goals as goal

pub returns : goal.returns
returns c = ap (λ x. x.now) c.unwrap_or.ensures ∙ unsigned_is c.args.s _ c.strip_prefix.ensures.cases
