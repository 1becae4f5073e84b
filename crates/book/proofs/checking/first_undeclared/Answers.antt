use Rattle.std.proofs.Common.{rules, true}
use Rattle.book.specs.Check.{rule_of}
use Rattle.book.specs.Records.{records}
use Rattle.book.proofs.Checks.{declares_of}
use Rattle.book.proofs.checking.first_undeclared.Goals as goal

pub invariant_of-fields : goal.invariant_of-fields
invariant_of-fields c = record { holds = declares_of _ _ (c.mark_fields.ensures (λ y. true) (λ y b q. search rules)) }

pub returns : goal.returns
unfolding rule_of
returns c = c.first_break.ensures (rule_of 5 (records c.args.book.now)) (λ r b q. search rules)
