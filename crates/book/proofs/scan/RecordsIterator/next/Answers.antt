use Rattle.std.proofs.Common.{arith}
use Rattle.book.proofs.Look.{next_fits}
use Rattle.book.proofs.scan.RecordsIterator.next.Goals as goal

pub overflow_add-self : goal.overflow_add-self
overflow_add-self c = let s = c.args.self.now in omega (arith, s.fits, next_fits s.rest.now _ c.in_ok-n.ensures.0)

pub invariant_of-self : goal.invariant_of-self
invariant_of-self c = let s = c.args.self.now in record { fits = omega (arith, s.fits, next_fits s.rest.now _ c.in_ok-n.ensures.0) }
