use Rattle.std.proofs.Common.{rules, ap, sym, ◌∙◌}
use Rattle.book.specs.Walked.{records_left}
use Rattle.book.proofs.Checks.{marking_start, marking_end, marking_other, marking_not, marking_new}
use Rattle.book.proofs.checking.mark_fields.Goals as goal

pub loop-r-init : goal.loop-r-init
loop-r-init g c = (tt, tt, λ p h. marking_start p _ _ _ _ (search rules) (c.fill.ensures.after (λ y e. search rules)) (ap records_left c.into_iter-r-iterator.ensures.into_iter_gives ∙ c.of-r-items.ensures))

pub loop-r-preserved-then-not-is : goal.loop-r-preserved-then-not-is
loop-r-preserved-then-not-is g c =
    (tt, tt, λ p h. marking_other p _ _ _ _ _ (c.loop-r.invariant.2 p h) c.in-Some.ensures.steps (sym c.is.ensures ∙ c.if-not-is.true))

pub loop-r-preserved-then-picks : goal.loop-r-preserved-then-picks
loop-r-preserved-then-picks g c =
    (tt, tt, λ p h. marking_new p _ _ _ _ _ (c.loop-r.invariant.2 p h) c.in-Some.ensures.steps (sym c.is.ensures ∙ c.if-not-is.false) _ c.declares.ensures.0 _ (h _ _ c.picks.ensures) c.if-picks.true _ (c.from.ensures ∙ c.tag.ensures) (search rules) _ c.mark.ensures)

pub loop-r-preserved : goal.loop-r-preserved
loop-r-preserved g c =
    (tt, tt, λ p h. marking_not p _ _ _ _ _ (c.loop-r.invariant.2 p h) c.in-Some.ensures.steps (sym c.is.ensures ∙ c.if-not-is.false) _ c.declares.ensures.0 _ (h _ _ c.picks.ensures) c.if-picks.false)

pub returns : goal.returns
returns g c = λ p h. marking_end p _ _ _ (c.loop-r.invariant.2 p h) c.in-None.ensures.steps.0
