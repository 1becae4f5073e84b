use Rattle.std.proofs.Common.{rules, refl, ◌∙◌}
use Rattle.book.specs.Lists.{member_in}
use Rattle.book.proofs.Checks.{as_conflict, as_once, nested_conflict, nested_once, ahead_twice, ahead_plain, ahead_conflict, ahead_end, level_plain, level_none}
use Rattle.book.proofs.GroupLaws.{count_none, count_some, group_some}
use Rattle.book.proofs.checking.+open_list.Goals as goal

pub returns-then-test : goal.returns-then-test
returns-then-test t c = λ seen s.
    as_conflict _ _ (ahead_twice _ _ _ (member_in c.in-Some.m) _ _ (c.loop-m.invariant.2 seen s) c.in-Some.ensures.steps (search rules) _ (rw c.from-tag.ensures at c.test.ensures) c.if-test.true)

pub loop-m-preserved-in_default : goal.loop-m-preserved-in_default
loop-m-preserved-in_default t c =
    (tt, tt, λ seen s. ahead_plain _ _ _ (member_in c.in-Some.m) _ _ (c.loop-m.invariant.2 seen s) c.in-Some.ensures.steps (search rules) _ (rw c.from-tag.ensures at c.test.ensures) c.if-test.false (level_plain _ _ _ _ _ (count_none _ _ c.args.groups.now.counted _ c.find.ensures c.in_default.is) refl) _ (rw c.from-tag.ensures at c.mark.ensures))

pub returns-then-depth-eq0 : goal.returns-then-depth-eq0
returns-then-depth-eq0 t c = λ seen s.
    as_conflict _ _ (ahead_conflict _ _ _ (member_in c.in-Some.m) _ _ (c.loop-m.invariant.2 seen s) c.in-Some.ensures.steps (search rules) _ (rw c.from-tag.ensures at c.test.ensures) c.if-test.false (level_none _ _ _ _ _ (count_some _ _ c.args.groups.now.counted _ c.find.ensures _ c.in-Some-find.is) refl c.if-depth-eq0.true))

pub returns-then-open_list : goal.returns-then-open_list
returns-then-open_list t c = λ seen s.
    as_conflict _ _ (nested_conflict _ _ _ _ (member_in c.in-Some.m) _ _ (c.loop-m.invariant.2 seen s) c.in-Some.ensures.steps (search rules) _ (rw c.from-tag.ensures at c.test.ensures) c.if-test.false _ (count_some _ _ c.args.groups.now.counted _ c.find.ensures _ c.in-Some-find.is) refl c.if-depth-eq0.false _ (c.list.ensures ∙ group_some _ _ c.args.groups.now.counted _ c.find.ensures _ c.in-Some-find.is) _ _ _ (rw c.from-tag.ensures at c.mark.ensures) c.open_list.ensures c.if-open_list.true)

pub loop-m-preserved : goal.loop-m-preserved
loop-m-preserved t c =
    (tt, tt, λ seen s. nested_once _ _ _ _ (member_in c.in-Some.m) _ _ (c.loop-m.invariant.2 seen s) c.in-Some.ensures.steps (search rules) _ (rw c.from-tag.ensures at c.test.ensures) c.if-test.false _ (count_some _ _ c.args.groups.now.counted _ c.find.ensures _ c.in-Some-find.is) refl c.if-depth-eq0.false _ (c.list.ensures ∙ group_some _ _ c.args.groups.now.counted _ c.find.ensures _ c.in-Some-find.is) _ _ _ (rw c.from-tag.ensures at c.mark.ensures) c.open_list.ensures c.if-open_list.false)

pub returns : goal.returns
returns t c = λ seen s. let a = c.loop-m.invariant.2 seen s in as_once _ _ _ (ahead_end _ _ _ _ a c.in-None.ensures.steps.0) a.now
