use Rattle.std.proofs.Common.{◌≡◌}
use Rattle.book.specs.Records.{records, members_of}
use Rattle.book.specs.Lists.{members_left}
use Rattle.reader.specs.Items.{stands_in, stands_under}
use Rattle.reader.proofs.lists.+stands_in.Given as goal

abbrev pub decreases-stands_in : goal.decreases-stands_in
decreases-stands_in l = l.depth

abbrev pub invariant-loop-m : goal.invariant-loop-m
invariant-loop-m l =
    (goal.iterator-loop-m).can_next l.m-iterator × (goal.iterator-loop-m).is_finite l.m-iterator
    × (let f = stands_under (records l.book) l.depth l.tag in stands_in f l.tag (members_of l.list) ≡ stands_in f l.tag (members_left l.m-iterator))
