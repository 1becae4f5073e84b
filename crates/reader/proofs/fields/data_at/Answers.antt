use Rattle.reader.proofs.Taking.{data_zero, data_bad, data_good}
use mathlib.Core.Path.{sym, ◌∙◌}
use native.Mathlib.Omega.{arith}
use Rattle.reader.proofs.fields.data_at.Goals as goal

pub returns-then-n-eq0 : goal.returns-then-n-eq0
returns-then-n-eq0 c =
    let a = c.args in
    λ B at st ef. rw c.at.ensures (data_zero B a.m.now at a.field a.tag a.start c.value_capped_at-n.result st ef c.value_capped_at-n.ensures c.if-n-eq0.true)

pub returns-then-byte_at-ne1 : goal.returns-then-byte_at-ne1
returns-then-byte_at-ne1 c =
    let a = c.args in
    λ B at st ef. rw c.at-then-byte_at-ne1.ensures (data_bad B a.m.now at a.field a.tag a.start c.value_capped_at-n.result st ef c.value_capped_at-n.ensures c.if-n-eq0.false (λ x. c.if-byte_at-ne1.true (c.byte_at.ensures ∙ x)))

pub returns : goal.returns
returns c =
    let a = c.args in
    λ B at st ef. data_good B a.m.now at a.field a.tag a.start c.value_capped_at-n.result st ef c.value_capped_at-n.ensures c.if-n-eq0.false (sym c.byte_at.ensures ∙ c.if-byte_at-ne1.false) (omega (arith, c.well_formed))
