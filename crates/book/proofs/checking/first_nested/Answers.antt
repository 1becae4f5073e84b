use Rattle.book.specs.Check.{rule_of}
use Rattle.book.specs.Records.{records}
use Rattle.book.proofs.Checks.{loop_hit, loop_turn, loop_end}
use Rattle.book.proofs.checking.first_nested.Goals as goal

pub returns-then-breaks_9 : goal.returns-then-breaks_9
unfolding rule_of
returns-then-breaks_9 c = loop_hit 9 (rule_of 9 (records c.args.book.now)) _ _ c.in-Some.r _ c.loop-r.invariant.2 c.in-Some.ensures.steps _ (rw c.list_groups-groups.ensures at c.breaks_9.ensures) c.if-breaks_9.true

pub loop-r-preserved : goal.loop-r-preserved
unfolding rule_of
loop-r-preserved c = (tt, tt, loop_turn 9 (rule_of 9 (records c.args.book.now)) _ _ c.in-Some.r _ c.loop-r.invariant.2 c.in-Some.ensures.steps _ (rw c.list_groups-groups.ensures at c.breaks_9.ensures) c.if-breaks_9.false)

pub returns : goal.returns
returns c = loop_end _ _ _ _ c.loop-r.invariant.2 c.in-None.ensures.steps.0
