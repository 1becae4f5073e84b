use Rattle.book.proofs.RuleLaws.{pair_bad, pair_turn, pair_end}
use Rattle.book.proofs.rules.Pairing.is_paired.Goals as goal

pub returns-then-not-is_due : goal.returns-then-not-is_due
returns-then-not-is_due c = let d = c.pair_of-d.ensures in
    pair_bad _ _ _ _ _ _ _ _ _ _ c.loop-m.invariant.2 c.in-Some.ensures.steps d.0 d.1 d.2 _ c.is_due.ensures c.if-not-is_due.true

pub loop-m-preserved : goal.loop-m-preserved
loop-m-preserved c = let d = c.pair_of-d.ensures in
    (tt, tt, pair_turn _ _ _ _ _ _ _ _ _ _ c.loop-m.invariant.2 c.in-Some.ensures.steps d.0 d.1 d.2 _ c.is_due.ensures c.if-not-is_due.false _ c.next_due-due.ensures)

pub returns : goal.returns
returns c = pair_end _ _ _ _ _ c.loop-m.invariant.2 c.in-None.ensures.steps.0
