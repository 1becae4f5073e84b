use Rattle.std.proofs.Common.{List, ℕ}
use Rattle.std.specs.Iterator.Adapters.{enumerate_source, enumerate_count}
use Rattle.book.specs.Lists.{members_left}
use Rattle.book.specs.Records.{members_of}
use Rattle.reader.specs.Marked.{Marked}
use Rattle.reader.proofs.Marking.{Marking}
use Rattle.reader.proofs.marks.Marks.mark.Given as goal

abbrev pub invariant-loop-i : goal.invariant-loop-i
invariant-loop-i l =
    (goal.iterator-loop-i).can_next l.i-iterator × (goal.iterator-loop-i).is_finite l.i-iterator
    × ((seen : List ℕ) → Marked l.fn.self.bits (members_of l.list) seen → Marking l.tag seen (members_of l.list) l.self.bits (enumerate_count l.i-iterator) (members_left (enumerate_source l.i-iterator)))
