use Rattle.std.specs.declared.option.Option.TheVariants.{None, Some}
use Rattle.forms.proofs.Following.{byte_leaves}
use Rattle.forms.proofs.Times.{sixtieth_stop, sixtieth_on}
use Rattle.forms.proofs.time.after_sixtieth.Goals as goal

pub returns-in_err-strip_prefix : goal.returns-in_err-strip_prefix
returns-in_err-strip_prefix c = sixtieth_stop _ (byte_leaves 58 c.args.s.now None c.in_err-strip_prefix.ensures.cases) _ c.from_residual.ensures

pub returns : goal.returns
returns c =
    let x = c.in_ok-strip_prefix.field-0 in
    sixtieth_on _ x (byte_leaves 58 c.args.s.now (Some x) c.in_ok-strip_prefix.ensures.cases) _ c.after_pair.ensures
