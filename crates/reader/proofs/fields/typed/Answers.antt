use mathlib.Core.Path.{refl, sym, ◌∙◌}
use Rattle.std.proofs.Common.{inl}
use Rattle.forms.proofs.OfType.{of_none}
use Rattle.reader.proofs.Taking.{value_bad, value_pair, value_single}
use Rattle.reader.proofs.fields.typed.Goals as goal

pub returns-in_default : goal.returns-in_default
returns-in_default c =
    let a = c.args in
    λ B k st. rw (c.at-wrong.ensures) (value_bad B a.m.now a.at a.field 0 0 (rw c.in_default.is at k) st _ (sym (of_none 0 _ (inl refl))) refl)

pub returns-then-not-accepts : goal.returns-then-not-accepts
returns-then-not-accepts c =
    let a = c.args in
    let d = c.in-Some.known in
    λ B k st. rw c.at-wrong.ensures (value_bad B a.m.now a.at a.field d.datatype d.partner (rw c.in-Some.is at k) st _ (c.accepts.ensures ∙ rw (rw c.in-Ok.is at c.try_from.ensures)) c.if-not-accepts.true)

pub returns-then-is : goal.returns-then-is
returns-then-is c =
    let a = c.args in
    let d = c.in-Some.known in
    λ B k st. value_pair B a.m.now a.at a.field d.datatype d.partner (rw c.in-Some.is at k) st _ (c.accepts.ensures ∙ rw (rw c.in-Ok.is at c.try_from.ensures)) c.if-not-accepts.false (sym c.is.ensures ∙ c.if-is.true) c.data_behind.result c.data_behind.ensures

pub returns : goal.returns
returns c =
    let a = c.args in
    let d = c.in-Some.known in
    λ B k st. value_single B a.m.now a.at a.field d.datatype d.partner (rw c.in-Some.is at k) st _ (c.accepts.ensures ∙ rw (rw c.in-Ok.is at c.try_from.ensures)) c.if-not-accepts.false (sym c.is.ensures ∙ c.if-is.false) _ (rw c.in-Ok.is at c.try_from.ensures)

pub returns-in_default-try_from : goal.returns-in_default-try_from
returns-in_default-try_from c =
    let a = c.args in
    let d = c.in-Some.known in
    λ B k st. rw c.at-wrong.ensures (value_bad B a.m.now a.at a.field d.datatype d.partner (rw c.in-Some.is at k) st _ (sym (of_none d.datatype _ (rw c.in_default-try_from.is at c.try_from.ensures).1)) refl)
