use Rattle.std.specs.declared.option.Option.TheVariants.{None, Some}
use Rattle.forms.proofs.Following.{byte_leaves}
use Rattle.forms.proofs.Times.{time_stop, time_stop_2, time_on}
use Rattle.forms.proofs.time.after_time.Goals as goal

pub returns-in_err-after_minutes : goal.returns-in_err-after_minutes
returns-in_err-after_minutes c = time_stop _ c.in_err-after_minutes.ensures _ c.from_residual.ensures

pub returns-in_err-strip_prefix : goal.returns-in_err-strip_prefix
returns-in_err-strip_prefix c =
    let x = c.in_ok-after_minutes.field-0 in
    time_stop_2 _ x c.in_ok-after_minutes.ensures (byte_leaves 58 x.now None c.in_err-strip_prefix.ensures.cases) _ c.from_residual-in_err-strip_prefix.ensures

pub returns : goal.returns
returns c =
    let x = c.in_ok-after_minutes.field-0 in
    let y = c.in_ok-strip_prefix.field-0 in
    time_on _ x c.in_ok-after_minutes.ensures y (byte_leaves 58 x.now (Some y) c.in_ok-strip_prefix.ensures.cases) _ c.after_pair.ensures
