use Rattle.std.proofs.Common.{◌≡◌, ℕ, Bool}
use Rattle.book.specs.declared.Declared.{Declared}
use Rattle.book.specs.Records.{records}
use Rattle.book.specs.Walked.{records_left}
use Rattle.book.proofs.Checks.{Marking}
use Rattle.book.proofs.checking.mark_fields.Given as goal

abbrev pub invariant-loop-r : goal.invariant-loop-r
invariant-loop-r g l =
    (goal.iterator-loop-r g).can_next l.r-iterator × (goal.iterator-loop-r g).is_finite l.r-iterator
    × ((p : ℕ → Bool) → ((d : Declared) (b : Bool) → goal.F-post g l.picks d b → b ≡ p d.datatype) → Marking p (records l.book) l.map (records_left l.r-iterator))
