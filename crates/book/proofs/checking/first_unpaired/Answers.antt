use Rattle.std.proofs.Common.{rules}
use Rattle.book.specs.Check.{rule_of}
use Rattle.book.specs.Records.{records}
use Rattle.book.proofs.Checks.{pairs, pairs_of}
use Rattle.book.proofs.checking.first_unpaired.Goals as goal

pub invariant_of-pairs : goal.invariant_of-pairs
invariant_of-pairs c = record { holds = pairs_of _ _ (c.mark_fields.ensures pairs (λ y b q. search rules)) }

pub returns : goal.returns
unfolding rule_of
returns c = c.first_break.ensures (rule_of 6 (records c.args.book.now)) (λ r b q. search rules)
