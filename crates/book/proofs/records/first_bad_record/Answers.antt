use Rattle.std.proofs.Common.{arith, sym, refl}
use Rattle.book.proofs.Walk.{stop_start, stop_end, stop_turn, within}
use Rattle.book.proofs.records.first_bad_record.Goals as goal

pub loop-n-init : goal.loop-n-init
loop-n-init c = stop_start _

pub overflow_add-at : goal.overflow_add-at
overflow_add-at c = omega (arith, within c.args.book.now c.loop-n.at _ (sym c.in-Some.ensures.0) c.loop-n.invariant.0, c.well_formed)

pub loop-n-smaller : goal.loop-n-smaller
loop-n-smaller c = omega (arith, c.in-Some.ensures.1, within c.args.book.now c.loop-n.at _ (sym c.in-Some.ensures.0) c.loop-n.invariant.0)

pub loop-n-preserved : goal.loop-n-preserved
loop-n-preserved c = stop_turn _ _ _ c.loop-n.invariant (sym c.in-Some.ensures.0) (λ z. omega (arith, z, c.in-Some.ensures.1))

pub returns : goal.returns
returns c = stop_end _ _ 0 c.loop-n.invariant (sym c.in_default.ensures) refl
