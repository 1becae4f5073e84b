use mathlib.Core.Path.{sym, ◌∙◌}
use Rattle.std.proofs.lemmas.Option.{MatchOption-at_none, MatchOption-at_some}
use Rattle.reader.proofs.Framing.{refused}
use Rattle.reader.proofs.Taking.{head_inside, behind_none, behind_torn, behind_other, behind_found}
use native.Mathlib.Omega.{arith}
use Prim.Native.Nat.{◌+◌}
use Rattle.reader.proofs.fields.data_behind.Goals as goal

pub returns-then-m-at : goal.returns-then-m-at
returns-then-m-at c = let a = c.args in λ B at ed st. rw c.at.ensures (behind_none B a.m.now at a.field a.other ed st c.if-m-at.true)

pub returns-in_err-n : goal.returns-in_err-n
returns-in_err-n c =
    let a = c.args in
    let r = refused c.tag_at.result c.from_residual.result c.in_err-n.field-0.0 _ c.in_err-n.ensures.value c.in_err-n.ensures.ok_part c.from_residual.ensures.1 in
    λ B at ed st. rw (r, c.at-2.ensures) (behind_torn B a.m.now at a.field a.other ed st c.if-m-at.false (MatchOption-at_none _ _ c.in_err-n.ensures.ok_part c.tag_at.ensures))

pub returns-then-n-from : goal.returns-then-n-from
returns-then-n-from c =
    let a = c.args in
    let t = MatchOption-at_some _ _ c.in_ok-n.n c.in_ok-n.ensures.ok_part c.tag_at.ensures in
    λ B at ed st. rw c.at-then-n-from.ensures (behind_other B a.m.now at a.field a.other ed st c.in_ok-n.n.value c.in_ok-n.n.end t (λ x. c.if-n-from.true (x ∙ sym c.from.ensures)))

pub overflow_add-n : goal.overflow_add-n
overflow_add-n c =
    let a = c.args in
    let t = MatchOption-at_some _ _ c.in_ok-n.n c.in_ok-n.ensures.ok_part c.tag_at.ensures in
    omega (arith, head_inside a.m.now (a.field.end + 1) c.in_ok-n.n.value c.in_ok-n.n.end t, c.well_formed)

pub data_at-requires : goal.data_at-requires
data_at-requires c =
    let a = c.args in
    let t = MatchOption-at_some _ _ c.in_ok-n.n c.in_ok-n.ensures.ok_part c.tag_at.ensures in
    (c.requires.0, c.requires.1, omega (arith, head_inside a.m.now (a.field.end + 1) c.in_ok-n.n.value c.in_ok-n.n.end t))

pub returns : goal.returns
returns c =
    let a = c.args in
    let t = MatchOption-at_some _ _ c.in_ok-n.n c.in_ok-n.ensures.ok_part c.tag_at.ensures in
    λ B at ed st. behind_found B a.m.now at a.field a.other ed st c.in_ok-n.n.value c.in_ok-n.n.end t (c.if-n-from.false ∙ c.from.ensures) (omega (arith, c.well_formed)) c.data_at.result c.data_at.ensures
