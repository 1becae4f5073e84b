use Rattle.std.proofs.Common.{◌≡◌}
use Rattle.book.specs.Check.{first, rule_of}
use Rattle.book.specs.Records.{records}
use Rattle.book.specs.Walked.{records_left}
use Rattle.book.proofs.Checks.{Repeating}
use Rattle.book.proofs.checking.first_repeated.Given as goal

abbrev pub invariant-loop-r : goal.invariant-loop-r
invariant-loop-r l =
    (goal.iterator-loop-r).can_next l.r-iterator × (goal.iterator-loop-r).is_finite l.r-iterator
    × (let p = rule_of 3 (records l.book) in first 3 p (records l.book) ≡ first 3 p (records_left l.r-iterator))
    × Repeating (records l.book) l.map (records_left l.r-iterator)
