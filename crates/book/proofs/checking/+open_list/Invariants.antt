use Rattle.book.proofs.Checks.{Ahead}
use Rattle.book.specs.Answers.{Seen}
use Rattle.book.specs.Lists.{members_left}
use Rattle.book.specs.Records.{members_of, records}
use Rattle.book.specs.Rules.{open_group, open_list}
use mathlib.Core.List.{List}
use Prim.Native.Nat.{ℕ}
use Rattle.book.proofs.checking.+open_list.Given as goal

abbrev pub decreases-open_list : goal.decreases-open_list
decreases-open_list l = l.depth

abbrev pub invariant-loop-m : goal.invariant-loop-m
invariant-loop-m l =
    (goal.iterator-loop-m).can_next l.m-iterator × (goal.iterator-loop-m).is_finite l.m-iterator
    × ((seen : List ℕ) → Seen l.fn.map seen → let f = open_group (records l.groups.book.now) l.depth in Ahead f (open_list f seen (members_of l.list)) l.map (members_left l.m-iterator))
