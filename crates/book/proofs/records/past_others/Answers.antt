use Rattle.std.proofs.Common.{sym, ◌∙◌}
use Rattle.book.proofs.Look.{passed_none, passed_two}
use Rattle.book.proofs.records.past_others.Goals as goal

pub loop-rest-init : goal.loop-rest-init
loop-rest-init c = passed_none _ _

pub loop-rest-preserved : goal.loop-rest-preserved
loop-rest-preserved c =
    passed_two _ _ _ _ c.loop-rest.invariant (sym c.is_other.ensures ∙ c.if-is_other.true) (sym c.is_other-then-is_other.ensures ∙ c.if-is_other-2.true)
