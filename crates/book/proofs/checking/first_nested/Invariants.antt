use Rattle.std.proofs.Common.{◌≡◌}
use Rattle.book.specs.Check.{first, rule_of}
use Rattle.book.specs.Records.{records}
use Rattle.book.specs.Walked.{records_left}
use Rattle.book.proofs.checking.first_nested.Given as goal

abbrev pub invariant-loop-r : goal.invariant-loop-r
invariant-loop-r l =
    (goal.iterator-loop-r).can_next l.r-iterator × (goal.iterator-loop-r).is_finite l.r-iterator
    × (let p = rule_of 9 (records l.book) in first 9 p (records l.book) ≡ first 9 p (records_left l.r-iterator))
