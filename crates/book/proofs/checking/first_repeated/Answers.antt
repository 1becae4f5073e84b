use Rattle.std.proofs.Common.{rules, ap, sym, false, refl, ◌∙◌}
use Rattle.numbers.proofs.Tests.{or_right}
use Rattle.book.specs.Check.{first, rule_of}
use Rattle.book.specs.Records.{records}
use Rattle.book.specs.Walked.{records_left}
use Rattle.book.proofs.Checks.{loop_hit, loop_turn, loop_end, repeat_start, repeat_none, repeat_other, repeat_is, repeat_new}
use Rattle.book.proofs.checking.first_repeated.Goals as goal

pub loop-r-init : goal.loop-r-init
loop-r-init c =
    let e = ap records_left c.into_iter-r-iterator.ensures.into_iter_gives ∙ c.of-r-items.ensures in
    (tt, tt, ap (first 3 (rule_of 3 (records c.args.book.now))) (sym e), repeat_start c.args.book.now _ _ _ (search rules) (c.fill.ensures.after (λ y e. search rules)) e)

pub loop-r-preserved-then-not-is : goal.loop-r-preserved-then-not-is
unfolding rule_of
loop-r-preserved-then-not-is c =
    let p = rule_of 3 (records c.args.book.now) in let i = c.loop-r.invariant in let q = sym c.is.ensures ∙ c.if-not-is.true in
    (tt, tt, loop_turn 3 p _ _ c.in-Some.r _ i.2 c.in-Some.ensures.steps false (repeat_none _ _ _ _ _ i.3 c.in-Some.ensures.steps q) refl, repeat_other _ _ _ _ _ i.3 c.in-Some.ensures.steps q)

pub returns-then-never_a_field-test : goal.returns-then-never_a_field-test
unfolding rule_of
returns-then-never_a_field-test c =
    let p = rule_of 3 (records c.args.book.now) in let i = c.loop-r.invariant in
    loop_hit 3 p _ _ c.in-Some.r _ i.2 c.in-Some.ensures.steps _ (repeat_is _ _ _ _ _ i.3 c.in-Some.ensures.steps (sym c.is.ensures ∙ c.if-not-is.false) _ c.tag-tag.ensures (search rules) _ _ c.never_a_field.ensures (rw c.from.ensures at c.test.ensures)) c.if-never_a_field-test.true

pub loop-r-preserved : goal.loop-r-preserved
unfolding rule_of
loop-r-preserved c =
    let p = rule_of 3 (records c.args.book.now) in let i = c.loop-r.invariant in let f = sym c.is.ensures ∙ c.if-not-is.false in let m = rw c.from.ensures at c.test.ensures in
    (tt, tt, loop_turn 3 p _ _ c.in-Some.r _ i.2 c.in-Some.ensures.steps _ (repeat_is _ _ _ _ _ i.3 c.in-Some.ensures.steps f _ c.tag-tag.ensures (search rules) _ _ c.never_a_field.ensures m) c.if-never_a_field-test.false, repeat_new _ _ _ _ _ i.3 c.in-Some.ensures.steps f _ c.tag-tag.ensures (search rules) _ m (or_right c.never_a_field.result _ c.if-never_a_field-test.false) _ (rw c.from-in-loop-r.ensures at c.mark.ensures))

pub returns : goal.returns
returns c = loop_end _ _ _ _ c.loop-r.invariant.2 c.in-None.ensures.steps.0
