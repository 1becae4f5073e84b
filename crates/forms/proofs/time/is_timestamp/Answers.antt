use Rattle.std.proofs.Common.{◌∙◌, sym, rules}
use mathlib.Core.Logic.{inl, inr}
use Rattle.forms.specs.Types.{time_only, all_counts}
use Rattle.forms.proofs.Following.{byte_off}
use Rattle.forms.proofs.Times.{stamp_at, stamp_on}
use Rattle.forms.proofs.time.is_timestamp.Goals as goal

pub returns-in-Some-eq45 : goal.returns-in-Some-eq45
returns-in-Some-eq45 c =
    let x = c.in-Some-eq45.field-0 in
    c.is_time_only.ensures ∙ sym (stamp_on _ c.after_date.result x c.in-Some-eq45.ensures c.in-Some-eq45.len_at_least (search rules))

pub returns-in_default : goal.returns-in_default
returns-in_default c =
    sym (stamp_at _ _ all_counts c.after_date.ensures ∙ rw c.in_default.is (byte_off 45 (time_only all_counts) c.in_default.field-0.now (inl (search rules))))

pub returns-in_default-2 : goal.returns-in_default-2
returns-in_default-2 c =
    sym (stamp_at _ _ all_counts c.after_date.ensures ∙ rw c.in_default.is (byte_off 45 (time_only all_counts) c.in_default.field-0.now (inr (search rules))))

pub returns-in_default-3 : goal.returns-in_default-3
returns-in_default-3 c = sym (stamp_at _ _ all_counts c.after_date.ensures ∙ rw c.in_default.is)
