use Rattle.std.proofs.Common.{refl, sym, ◌∙◌, rules, arith}
use Rattle.book.specs.Records.{records}
use Rattle.reader.proofs.Framing.{is_version, is_count, is_last, is_listed, passed, failed, refused, version_bad, left_8, count_bad, left_9, room, last_bad, sum_bad, type_bad, inside, frame_good, ends}
use Rattle.reader.proofs.frame.frame.Goals as goal

pub returns-in_err-rest : goal.returns-in_err-rest
returns-in_err-rest c =
    let r = refused c.filter.result c.from_residual.result c.in_err-rest.field-0.0 _ c.in_err-rest.ensures.value c.in_err-rest.ensures.ok_part c.from_residual.ensures.1 in
    rw (r, c.at.ensures) (version_bad (records c.args.book.now) c.args.msg.now (failed is_version _ _ _ _ c.field.ensures c.filter.ensures (λ p b g. search rules) c.in_err-rest.ensures.ok_part), (omega arith, refl))

pub overflow_sub-version_end : goal.overflow_sub-version_end
overflow_sub-version_end c =
    let v = passed is_version _ _ _ _ c.field.ensures c.filter.ensures (λ p b g. search rules) _ c.in_ok-rest.ensures.ok_part in
    omega (arith, (left_8 (records c.args.book.now) c.args.msg.now _ _ v).inside)

pub returns-in_err-rest-2 : goal.returns-in_err-rest-2
returns-in_err-rest-2 c =
    let v = passed is_version _ _ _ _ c.field.ensures c.filter.ensures (λ p b g. search rules) _ c.in_ok-rest.ensures.ok_part in
    let r = refused c.filter-2.result c.from_residual-in_err-rest-2.result c.in_err-rest-2.field-0.0 _ c.in_err-rest-2.ensures.value c.in_err-rest-2.ensures.ok_part c.from_residual-in_err-rest-2.ensures.1 in
    rw (r, c.at-2.ensures) (count_bad (records c.args.book.now) c.args.msg.now _ _ v (failed is_count _ _ _ _ c.field-2.ensures c.filter-2.ensures (λ p b g. search rules) c.in_err-rest-2.ensures.ok_part), (omega arith, refl))

pub overflow_sub-length_end : goal.overflow_sub-length_end
overflow_sub-length_end c =
    let v = passed is_version _ _ _ _ c.field.ensures c.filter.ensures (λ p b g. search rules) _ c.in_ok-rest.ensures.ok_part in
    let n = passed is_count _ _ _ _ c.field-2.ensures c.filter-2.ensures (λ p b g. search rules) _ c.in_ok-rest-2.ensures.ok_part in
    omega (arith, (left_9 (records c.args.book.now) c.args.msg.now _ _ v _ _ n).inside)

pub overflow_sub-end : goal.overflow_sub-end
overflow_sub-end c =
    let v = passed is_version _ _ _ _ c.field.ensures c.filter.ensures (λ p b g. search rules) _ c.in_ok-rest.ensures.ok_part in
    let n = passed is_count _ _ _ _ c.field-2.ensures c.filter-2.ensures (λ p b g. search rules) _ c.in_ok-rest-2.ensures.ok_part in
    omega (arith, (left_9 (records c.args.book.now) c.args.msg.now _ _ v _ _ n).inside, room (records c.args.book.now) c.args.msg.now _ _ v _ _ n)

pub returns-in_err-sum : goal.returns-in_err-sum
returns-in_err-sum c =
    let v = passed is_version _ _ _ _ c.field.ensures c.filter.ensures (λ p b g. search rules) _ c.in_ok-rest.ensures.ok_part in
    let n = passed is_count _ _ _ _ c.field-2.ensures c.filter-2.ensures (λ p b g. search rules) _ c.in_ok-rest-2.ensures.ok_part in
    let r = refused c.filter-3.result c.from_residual-in_err-sum.result c.in_err-sum.field-0.0 _ c.in_err-sum.ensures.value c.in_err-sum.ensures.ok_part c.from_residual-in_err-sum.ensures.1 in
    let f = failed is_last _ _ _ _ c.field-3.ensures c.filter-3.ensures (λ p b g. search rules) c.in_err-sum.ensures.ok_part in
    rw (r, c.at-3.ensures) (last_bad (records c.args.book.now) c.args.msg.now _ _ v _ _ n (rw c.split_at.ensures.back at f), (omega arith, refl))

pub returns-then-not-value_is : goal.returns-then-not-value_is
returns-then-not-value_is c =
    let v = passed is_version _ _ _ _ c.field.ensures c.filter.ensures (λ p b g. search rules) _ c.in_ok-rest.ensures.ok_part in
    let n = passed is_count _ _ _ _ c.field-2.ensures c.filter-2.ensures (λ p b g. search rules) _ c.in_ok-rest-2.ensures.ok_part in
    let y = passed is_last _ _ _ _ c.field-3.ensures c.filter-3.ensures (λ p b g. search rules) _ c.in_ok-sum.ensures.ok_part in
    let z = rw c.split_at.ensures.back at y in
    let q = rw (c.from.ensures, c.sum256.ensures) at c.value_is.ensures in
    rw c.at-then-not-value_is.ensures (sum_bad (records c.args.book.now) c.args.msg.now _ _ v _ _ n _ _ z (sym q ∙ c.if-not-value_is.true), (omega arith, refl))

pub returns-in_err-rest-3 : goal.returns-in_err-rest-3
returns-in_err-rest-3 c =
    let v = passed is_version _ _ _ _ c.field.ensures c.filter.ensures (λ p b g. search rules) _ c.in_ok-rest.ensures.ok_part in
    let n = passed is_count _ _ _ _ c.field-2.ensures c.filter-2.ensures (λ p b g. search rules) _ c.in_ok-rest-2.ensures.ok_part in
    let y = passed is_last _ _ _ _ c.field-3.ensures c.filter-3.ensures (λ p b g. search rules) _ c.in_ok-sum.ensures.ok_part in
    let z = rw c.split_at.ensures.back at y in
    let q = rw (c.from.ensures, c.sum256.ensures) at c.value_is.ensures in
    let r = refused c.filter-4.result c.from_residual-in_err-rest-3.result c.in_err-rest-3.field-0.0 _ c.in_err-rest-3.ensures.value c.in_err-rest-3.ensures.ok_part c.from_residual-in_err-rest-3.ensures.1 in
    let f = failed (is_listed (records c.args.book.now)) _ _ _ _ c.field-4.ensures c.filter-4.ensures (λ p b g. search rules) c.in_err-rest-3.ensures.ok_part in
    rw (r, c.at-4.ensures) (type_bad (records c.args.book.now) c.args.msg.now _ _ v _ _ n _ _ z (sym q ∙ c.if-not-value_is.false) (rw c.split_at.ensures.front at f), (omega arith, refl))

pub overflow_sub-result : goal.overflow_sub-result
overflow_sub-result c =
    let v = passed is_version _ _ _ _ c.field.ensures c.filter.ensures (λ p b g. search rules) _ c.in_ok-rest.ensures.ok_part in
    let n = passed is_count _ _ _ _ c.field-2.ensures c.filter-2.ensures (λ p b g. search rules) _ c.in_ok-rest-2.ensures.ok_part in
    let y = passed is_last _ _ _ _ c.field-3.ensures c.filter-3.ensures (λ p b g. search rules) _ c.in_ok-sum.ensures.ok_part in
    let z = rw c.split_at.ensures.back at y in
    let q = rw (c.from.ensures, c.sum256.ensures) at c.value_is.ensures in
    let x = passed (is_listed (records c.args.book.now)) _ _ _ _ c.field-4.ensures c.filter-4.ensures (λ p b g. search rules) _ c.in_ok-rest-3.ensures.ok_part in
    let t = rw c.split_at.ensures.front at x in
    inside (records c.args.book.now) c.args.msg.now _ _ v _ _ n _ _ z (sym q ∙ c.if-not-value_is.false) _ _ t

pub returns : goal.returns
returns c =
    let v = passed is_version _ _ _ _ c.field.ensures c.filter.ensures (λ p b g. search rules) _ c.in_ok-rest.ensures.ok_part in
    let n = passed is_count _ _ _ _ c.field-2.ensures c.filter-2.ensures (λ p b g. search rules) _ c.in_ok-rest-2.ensures.ok_part in
    let y = passed is_last _ _ _ _ c.field-3.ensures c.filter-3.ensures (λ p b g. search rules) _ c.in_ok-sum.ensures.ok_part in
    let z = rw c.split_at.ensures.back at y in
    let q = rw (c.from.ensures, c.sum256.ensures) at c.value_is.ensures in
    let x = passed (is_listed (records c.args.book.now)) _ _ _ _ c.field-4.ensures c.filter-4.ensures (λ p b g. search rules) _ c.in_ok-rest-3.ensures.ok_part in
    let t = rw c.split_at.ensures.front at x in
    let a = frame_good (records c.args.book.now) c.args.msg.now _ _ v _ _ n _ _ z (sym q ∙ c.if-not-value_is.false) _ _ t in
    (a, ends (records c.args.book.now) c.args.msg.now _ _ v _ _ n _ _ z (sym q ∙ c.if-not-value_is.false) _ _ t)
