use Rattle.std.proofs.Common.{◌∙◌, sym}
use Rattle.forms.proofs.Following.{ended}
use Rattle.forms.proofs.Times.{maybe_is, sixtieth_all}
use Rattle.forms.proofs.time.is_minutes.Goals as goal

pub returns-then-is_empty : goal.returns-then-is_empty
returns-then-is_empty c = c.if-is_empty.true ∙ sym (maybe_is c.args.s.now ∙ rw (sym c.is_empty.ensures ∙ c.if-is_empty.true))

pub returns-else-is_empty : goal.returns-else-is_empty
returns-else-is_empty c =
    ended c.after_sixtieth.result _ c.is_some_and.ensures
    ∙ sym (maybe_is c.args.s.now ∙ rw (sym c.is_empty.ensures ∙ c.if-is_empty.false) (sixtieth_all _ _ c.after_sixtieth.ensures))
