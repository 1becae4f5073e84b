use mathlib.Core.Path.{sym, ◌∙◌}
use Rattle.std.proofs.lemmas.Option.{MatchOption-at_none, MatchOption-at_some}
use Rattle.std.proofs.Common.{rules}
use Prim.Native.Nat.{◌+◌, ◌<◌}
use Rattle.numbers.specs.Bytes.{some}
use Rattle.reader.proofs.Cuts.{take_rest}
use Rattle.reader.proofs.Fielding.{Tagged}
use Rattle.reader.proofs.Framing.{refused, passed, failed}
use Rattle.reader.proofs.Taking.{head_inside, grab_torn, grab_high, grab_bounded, grab_empty, grab_inside, grab_value}
use native.Mathlib.Omega.{arith}
use lib.Dec.{eqb}
use mathlib.Core.Path.{◌≡◌}
use Rattle.book.specs.Records.{records}
use Rattle.book.specs.Answers.{type_told, partner_told}
use Rattle.reader.proofs.fields.grab.Goals as goal

pub returns-in_err-n : goal.returns-in_err-n
returns-in_err-n c =
    let a = c.args in
    let r = refused c.tag_at.result c.from_residual.result c.in_err-n.field-0.0 _ c.in_err-n.ensures.value c.in_err-n.ensures.ok_part c.from_residual.ensures.1 in
    rw (r, c.at-form.ensures) (grab_torn (records a.book.now) a.m.now a.at (MatchOption-at_none _ _ c.in_err-n.ensures.ok_part c.tag_at.ensures))

pub returns-in_default : goal.returns-in_default
returns-in_default c =
    let a = c.args in
    let t = MatchOption-at_some _ _ c.in_ok-n.n c.in_ok-n.ensures.ok_part c.tag_at.ensures in
    rw c.at-form.ensures (grab_high (records a.book.now) a.m.now a.at (let h : 65535 < c.in_ok-n.n.value = omega (arith, c.in_default.ensures) in rw t.0 at h))

pub returns-then-is_some_and : goal.returns-then-is_some_and
returns-then-is_some_and c =
    let a = c.args in
    let k : c.is_some_and.result ≡ eqb (type_told c.declared-known.result) 10 = search rules in
    let t = MatchOption-at_some _ _ c.in_ok-n.n c.in_ok-n.ensures.ok_part c.tag_at.ensures in
    let v : Tagged a.m.now a.at c.in-Ok.tag c.in_ok-n.n.end = (c.in-Ok.ensures.1 ∙ t.0, t.1, omega (arith, t.2, c.in-Ok.ensures.1)) in
    let l : c.in-Ok.tag < 65536 = omega (arith, c.in-Ok.ensures) in
    rw c.at.ensures (grab_bounded (records a.book.now) a.m.now a.at c.in-Ok.tag c.in_ok-n.n.end v l (type_told c.declared-known.result) (partner_told c.declared-known.result) (c.declared-known.ensures.datatype, c.declared-known.ensures.partner) (sym k ∙ c.if-is_some_and.true))

pub overflow_add-start : goal.overflow_add-start
overflow_add-start c =
    let a = c.args in
    let t = MatchOption-at_some _ _ c.in_ok-n.n c.in_ok-n.ensures.ok_part c.tag_at.ensures in
    omega (arith, head_inside a.m.now a.at c.in_ok-n.n.value c.in_ok-n.n.end t, c.well_formed)

pub slice_bounds-cut-count : goal.slice_bounds-cut-count
slice_bounds-cut-count c =
    let a = c.args in
    let t = MatchOption-at_some _ _ c.in_ok-n.n c.in_ok-n.ensures.ok_part c.tag_at.ensures in
    omega (arith, head_inside a.m.now a.at c.in_ok-n.n.value c.in_ok-n.n.end t)

pub slice_bounds-cut-start : goal.slice_bounds-cut-start
slice_bounds-cut-start c =
    let a = c.args in
    let t = MatchOption-at_some _ _ c.in_ok-n.n c.in_ok-n.ensures.ok_part c.tag_at.ensures in
    omega (arith, head_inside a.m.now a.at c.in_ok-n.n.value c.in_ok-n.n.end t)

pub returns-in_err-value : goal.returns-in_err-value
returns-in_err-value c =
    let a = c.args in
    let k : c.is_some_and.result ≡ eqb (type_told c.declared-known.result) 10 = search rules in
    let t = MatchOption-at_some _ _ c.in_ok-n.n c.in_ok-n.ensures.ok_part c.tag_at.ensures in
    let v : Tagged a.m.now a.at c.in-Ok.tag c.in_ok-n.n.end = (c.in-Ok.ensures.1 ∙ t.0, t.1, omega (arith, t.2, c.in-Ok.ensures.1)) in
    let l : c.in-Ok.tag < 65536 = omega (arith, c.in-Ok.ensures) in
    let r = refused c.filter.result c.from_residual-in_err-value.result c.in_err-value.field-0.0 _ c.in_err-value.ensures.value c.in_err-value.ensures.ok_part c.from_residual-in_err-value.ensures.1 in
    let f = failed (λ v r. some v) _ _ _ _ c.cut.ensures c.filter.ensures (λ p b g. search rules) c.in_err-value.ensures.ok_part in
    rw (r, c.at-form.ensures) (grab_empty (records a.book.now) a.m.now a.at c.in-Ok.tag c.in_ok-n.n.end v l (type_told c.declared-known.result) (partner_told c.declared-known.result) (c.declared-known.ensures.datatype, c.declared-known.ensures.partner) (sym k ∙ c.if-is_some_and.false) (rw (take_rest a.m.now (c.in_ok-n.n.end + 1)) at f))

pub overflow_add-end : goal.overflow_add-end
overflow_add-end c =
    let a = c.args in
    let k : c.is_some_and.result ≡ eqb (type_told c.declared-known.result) 10 = search rules in
    let t = MatchOption-at_some _ _ c.in_ok-n.n c.in_ok-n.ensures.ok_part c.tag_at.ensures in
    let v : Tagged a.m.now a.at c.in-Ok.tag c.in_ok-n.n.end = (c.in-Ok.ensures.1 ∙ t.0, t.1, omega (arith, t.2, c.in-Ok.ensures.1)) in
    let l : c.in-Ok.tag < 65536 = omega (arith, c.in-Ok.ensures) in
    let p = passed (λ v r. some v) _ _ _ _ c.cut.ensures c.filter.ensures (λ p b g. search rules) _ c.in_ok-value.ensures.ok_part in
    let w = rw (take_rest a.m.now (c.in_ok-n.n.end + 1)) at p in
    omega (arith, grab_inside (records a.book.now) a.m.now a.at c.in-Ok.tag c.in_ok-n.n.end v l (type_told c.declared-known.result) (partner_told c.declared-known.result) (c.declared-known.ensures.datatype, c.declared-known.ensures.partner) (sym k ∙ c.if-is_some_and.false) _ _ w, c.well_formed)

pub typed-requires : goal.typed-requires
typed-requires c =
    let a = c.args in
    let k : c.is_some_and.result ≡ eqb (type_told c.declared-known.result) 10 = search rules in
    let t = MatchOption-at_some _ _ c.in_ok-n.n c.in_ok-n.ensures.ok_part c.tag_at.ensures in
    let v : Tagged a.m.now a.at c.in-Ok.tag c.in_ok-n.n.end = (c.in-Ok.ensures.1 ∙ t.0, t.1, omega (arith, t.2, c.in-Ok.ensures.1)) in
    let l : c.in-Ok.tag < 65536 = omega (arith, c.in-Ok.ensures) in
    let p = passed (λ v r. some v) _ _ _ _ c.cut.ensures c.filter.ensures (λ p b g. search rules) _ c.in_ok-value.ensures.ok_part in
    let w = rw (take_rest a.m.now (c.in_ok-n.n.end + 1)) at p in
    (omega arith, grab_inside (records a.book.now) a.m.now a.at c.in-Ok.tag c.in_ok-n.n.end v l (type_told c.declared-known.result) (partner_told c.declared-known.result) (c.declared-known.ensures.datatype, c.declared-known.ensures.partner) (sym k ∙ c.if-is_some_and.false) _ _ w)

pub returns : goal.returns
returns c =
    let a = c.args in
    let k : c.is_some_and.result ≡ eqb (type_told c.declared-known.result) 10 = search rules in
    let t = MatchOption-at_some _ _ c.in_ok-n.n c.in_ok-n.ensures.ok_part c.tag_at.ensures in
    let v : Tagged a.m.now a.at c.in-Ok.tag c.in_ok-n.n.end = (c.in-Ok.ensures.1 ∙ t.0, t.1, omega (arith, t.2, c.in-Ok.ensures.1)) in
    let l : c.in-Ok.tag < 65536 = omega (arith, c.in-Ok.ensures) in
    let p = passed (λ v r. some v) _ _ _ _ c.cut.ensures c.filter.ensures (λ p b g. search rules) _ c.in_ok-value.ensures.ok_part in
    let w = rw (take_rest a.m.now (c.in_ok-n.n.end + 1)) at p in
    grab_value (records a.book.now) a.m.now a.at c.in-Ok.tag c.in_ok-n.n.end v l (type_told c.declared-known.result) (partner_told c.declared-known.result) (c.declared-known.ensures.datatype, c.declared-known.ensures.partner) (sym k ∙ c.if-is_some_and.false) _ _ w c.typed.result c.typed.ensures
