use Rattle.std.proofs.Common.{length}
use Rattle.book.specs.Records.{is_kind}
use Rattle.book.specs.Walked.{kind_number}
use Rattle.book.proofs.Look.{Passed}
use Rattle.book.proofs.records.past_others.Given as goal

abbrev pub invariant-loop-rest : goal.invariant-loop-rest
invariant-loop-rest l = Passed (is_kind (kind_number l.kind) l.tag) l.book l.at l.rest

abbrev pub decreases-loop-rest : goal.decreases-loop-rest
decreases-loop-rest l = length l.rest
