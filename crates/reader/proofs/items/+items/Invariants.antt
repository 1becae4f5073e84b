use Rattle.std.proofs.Common.{◌+◌, ◌-◌, length}
use Rattle.reader.proofs.ItemLaws.{Instancing, Membering}
use Rattle.reader.proofs.items.+items.Given as goal

abbrev pub decreases-instance : goal.decreases-instance
decreases-instance l = l.depth + (length l.scan.now.m.now - l.spot.at)

abbrev pub decreases-group : goal.decreases-group
decreases-group l = l.depth + (length l.scan.now.m.now - l.spot.at)

abbrev pub invariant-instance-loop-taken : goal.invariant-instance-loop-taken
invariant-instance-loop-taken l =
    Membering l.group l.scan.m.now l.scan.watch l.fn.within l.depth l.fn.spot.at l.fn.spot.row l.fn.index l.fn.bytes l.below l.tag l.place l.missing l.watch l.spot l.index l.bytes

abbrev pub decreases-instance-loop-taken : goal.decreases-instance-loop-taken
decreases-instance-loop-taken l = length l.scan.m.now - l.spot.at

abbrev pub invariant-group-loop-done : goal.invariant-group-loop-done
invariant-group-loop-done l =
    Instancing l.inner l.scan.m.now l.scan.watch l.within l.depth l.spot.at l.spot.row l.fn.field l.fn.index l.fn.bytes l.done l.done-end l.next l.index l.bytes
