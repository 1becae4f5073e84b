use Rattle.std.proofs.Common.{◌∙◌, sym, rules, arith}
use mathlib.Core.Logic.{inl, inr}
use Rattle.forms.specs.Form.{◌▷◌}
use Rattle.forms.specs.Types.{maybe, colon, two}
use Rattle.forms.proofs.Following.{asked}
use Rattle.forms.proofs.Times.{offset_none, offset_z, offset_off, offset_on}
use Rattle.forms.proofs.time.is_offset.Goals as goal

pub returns-in-43 : goal.returns-in-43
returns-in-43 c = asked (maybe (colon ▷ two 0 59)) c.after_pair.result _ c.is_some_and.ensures ∙ sym (offset_on c.args.s.now (search rules) (search rules) _ c.after_pair.ensures)

pub returns-in_default : goal.returns-in_default
returns-in_default c = offset_off c.args.s.now c.in_default.len_at_least (inl (search rules)) (search rules) (search rules)

pub returns-in_default-2 : goal.returns-in_default-2
returns-in_default-2 c = offset_off c.args.s.now (omega arith) (inr c.in_default.len_at_least) (search rules) (search rules)

pub returns-in-empty : goal.returns-in-empty
returns-in-empty c = offset_none _ c.in-empty.len_below

pub returns-in-empty-2 : goal.returns-in-empty-2
returns-in-empty-2 c = offset_z c.args.s.now c.in-empty.len_at_least c.in-empty.len_below (search rules)
