use Rattle.book.specs.Records.{records}
use Rattle.book.specs.Lists.{members_left}
use Rattle.reader.proofs.ListLaws.{Seeking}
use Rattle.reader.proofs.lists.seek.Given as goal

abbrev pub invariant-loop-m : goal.invariant-loop-m
invariant-loop-m l =
    (goal.iterator-loop-m).can_next l.m-iterator × (goal.iterator-loop-m).is_finite l.m-iterator
    × Seeking (records l.book) l.list l.from l.tag l.fn.missing l.at l.missing (members_left l.m-iterator)
