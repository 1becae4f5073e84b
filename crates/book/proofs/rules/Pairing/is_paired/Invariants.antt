use Rattle.std.proofs.Common.{◌≡◌}
use Rattle.book.specs.Lists.{members_left}
use Rattle.book.specs.Records.{members_of, records}
use Rattle.book.specs.Rules.{paired}
use Rattle.book.proofs.rules.Pairing.is_paired.Given as goal

abbrev pub invariant-loop-m : goal.invariant-loop-m
invariant-loop-m l =
    (goal.iterator-loop-m).can_next l.m-iterator × (goal.iterator-loop-m).is_finite l.m-iterator
    × (paired (records l.self.book.now) 0 0 (members_of l.list) ≡ paired (records l.self.book.now) l.due l.before (members_left l.m-iterator))
