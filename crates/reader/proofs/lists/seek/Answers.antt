use Rattle.book.specs.Lists.{member_in}
use Rattle.reader.proofs.ListLaws.{seek_hit, seek_inside, seek_turn, seek_end}
use Rattle.reader.proofs.lists.seek.Goals as goal

pub returns-then-tag-from-clause-walked : goal.returns-then-tag-from-clause-walked
returns-then-tag-from-clause-walked c = seek_hit _ _ _ _ _ _ _ _ c.loop-m.invariant.2 (member_in c.in-Some.m) _ c.in-Some.ensures.steps _ c.from.ensures c.if-tag-from.true

pub returns-then-tag-from-clause-inside : goal.returns-then-tag-from-clause-inside
returns-then-tag-from-clause-inside c = seek_inside _ _ _ _ _ _ _ _ c.loop-m.invariant.2 (member_in c.in-Some.m) _ c.in-Some.ensures.steps

pub loop-m-preserved : goal.loop-m-preserved
loop-m-preserved c = (tt, tt, seek_turn _ _ _ _ _ _ _ _ c.loop-m.invariant.2 (member_in c.in-Some.m) _ c.in-Some.ensures.steps _ c.from.ensures c.if-tag-from.false _ c.noted-missing.ensures)

pub returns-clause-walked : goal.returns-clause-walked
returns-clause-walked c = seek_end _ _ _ _ _ _ _ _ c.loop-m.invariant.2 c.in-None.ensures.steps.0
