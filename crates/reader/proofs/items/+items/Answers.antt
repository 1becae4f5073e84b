use mathlib.Core.Path.{◌≡◌, refl, sym, ◌∙◌}
use native.Mathlib.Omega.{arith}
use Rattle.std.proofs.Common.{◌+◌, drop, Ok, Err, rules}
use Rattle.reader.specs.Met.{page_of, outer_by, opened_of, Meets}
use Rattle.reader.proofs.ItemLaws.{Whole, item_bad, taken_plain, taken_counted, taken_stands, spare_last, spare_below, item_read, no_first_meets, instance_zero, instancing_first, instancing_next, instancing_bad, instancing_ask, instancing_end, membering_first, membering_next, membering_bad, membering_ask, membering_end}
use Rattle.reader.proofs.items.+items.Goals as goal
use Rattle.reader.proofs.items.+items.Goals.{instance-in-None, instance-in-Some-count+in_ok-step-in-Some-count}

pub instance-returns-then-not-is_first : goal.instance-returns-then-not-is_first
instance-returns-then-not-is_first t c =
    let a = c.args in
    let z = sym c.is_first.ensures ∙ c.if-not-is_first.true in
    no_first_meets a.group.now a.scan.now.m.now a.scan.now.watch a.within a.depth a.spot.at a.spot.row _ _ a.index.now a.bytes.now (sym c.peek-tag.ensures) z c.requires.0.inside (c.no_first.ensures _ _ _ (sym c.peek-tag.ensures) z)

pub instance-returns-in_default : goal.instance-returns-in_default
instance-returns-in_default t c =
    let a = c.args in
    let z : a.depth ≡ 0 = omega (arith, c.in_default.ensures) in
    instance_zero a.group.now a.scan.now.m.now a.scan.now.watch a.within a.depth a.spot.at a.spot.row a.index.now a.bytes.now _ _ (sym c.peek-tag.ensures) (sym c.is_first.ensures ∙ c.if-not-is_first.false) c.requires.0.inside z c.at.ensures

pub instance-loop-taken-init : goal.instance-loop-taken-init
instance-loop-taken-init t c =
    let a = c.args in
    let l : c.in-Some.below + 1 ≡ a.depth = omega (arith, c.in-Some.ensures) in
    membering_first a.group.now a.scan.now.m.now a.scan.now.watch a.within a.depth a.spot.at a.spot.row a.index.now a.bytes.now _ c.in-Some.below _ c.new-watch.ensures (sym c.peek-tag.ensures) (sym c.is_first.ensures ∙ c.if-not-is_first.false) c.requires.0.inside l

pub instance-returns-in_err-taken : goal.instance-returns-in_err-taken
instance-returns-in_err-taken t c =
    let a = c.args in
    let h = c.loop-taken.invariant in
    let e = item_read a.group.now a.scan.now.page (opened_of a.group.now) a.scan.now.watch c.in-Some.below a.depth a.within c.loop-taken.spot.at c.loop-taken.spot.row (drop c.loop-taken.spot.at a.scan.now.m.now) c.requires.2 refl (spare_last a.depth c.in-Some.below a.group.now.list a.group.now.around h.level c.requires.0.left c.requires.0.spare) h.level in
    let q : c.from_residual.result ≡ Err c.in_err-taken.field-0.0 = search rules in
    let M = item_bad (page_of a.scan.now.page) a.scan.now.watch c.in-Some.below (outer_by a.scan.now.page (opened_of a.group.now)) a.within a.scan.now.m.now c.loop-taken.spot.at c.loop-taken.spot.row _ (rw c.in_err-taken.was at c.take.ensures) h.going.inside c.loop-taken.index c.take.new.index c.loop-taken.bytes c.take.new.bytes in
    rw q (membering_bad a.group.now a.scan.now.m.now a.scan.now.watch a.within a.depth a.spot.at a.spot.row a.index.now a.bytes.now c.in-Some.below c.loop-taken.tag c.loop-taken.place c.loop-taken.missing c.loop-taken.watch c.loop-taken.spot c.loop-taken.index c.loop-taken.bytes h _ _ _ (rw e at M))

pub instance-group-requires : goal.instance-group-requires
instance-group-requires t c =
    let a = c.args in
    let h = c.loop-taken.invariant in
    let g = h.going in
    let r = c.requires.0 in
    let T = rw c.in_ok-taken.was at c.take.ensures in (
      omega (arith, c.decreases, h.level, g.costs),
      (
        record {
          short = r.short;
          inside = g.inside;
          rows = omega (arith, g.count, g.costs, r.rows);
          left = omega (arith, r.left, h.level);
          spare = spare_below a.depth c.in-Some.below a.group.now.list a.group.now.around h.level r.left r.spare;
        },
        omega (arith, c.requires.1, h.level),
        taken_stands (page_of a.scan.now.page) a.scan.now.watch c.in-Some.below (outer_by a.scan.now.page (opened_of a.group.now)) a.within a.scan.now.m.now c.loop-taken.spot c.loop-taken.index c.loop-taken.bytes c.take.new.index c.take.new.bytes c.in_ok-taken.taken T c.in-Some-count.field c.in-Some-count.is,
      ),
    )

pub instance-returns-in_err-step-in-Some-count : goal.instance-returns-in_err-step-in-Some-count
instance-returns-in_err-step-in-Some-count t c =
    let a = c.args in
    let h = c.loop-taken.invariant in
    let e = item_read a.group.now a.scan.now.page (opened_of a.group.now) a.scan.now.watch c.in-Some.below a.depth a.within c.loop-taken.spot.at c.loop-taken.spot.row (drop c.loop-taken.spot.at a.scan.now.m.now) c.requires.2 refl (spare_last a.depth c.in-Some.below a.group.now.list a.group.now.around h.level c.requires.0.left c.requires.0.spare) h.level in
    let T = rw c.in_ok-taken.was at c.take.ensures in
    let q : c.from_residual-in_err-step-in-Some-count.result ≡ Err c.in_err-step-in-Some-count.field-0.0 = search rules in
    let M = taken_counted (page_of a.scan.now.page) a.scan.now.watch c.in-Some.below (outer_by a.scan.now.page (opened_of a.group.now)) a.within a.scan.now.m.now c.loop-taken.spot c.loop-taken.index c.loop-taken.bytes c.take.new.index c.take.new.bytes c.in_ok-taken.taken T c.in-Some-count.field c.in-Some-count.is _ _ _ (rw c.in_err-step-in-Some-count.was at c.group.ensures) in
    rw q (membering_bad a.group.now a.scan.now.m.now a.scan.now.watch a.within a.depth a.spot.at a.spot.row a.index.now a.bytes.now c.in-Some.below c.loop-taken.tag c.loop-taken.place c.loop-taken.missing c.loop-taken.watch c.loop-taken.spot c.loop-taken.index c.loop-taken.bytes h _ _ _ (rw e at M))

pub instance-returns-in_default-step : goal.instance-returns-in_default-step
instance-returns-in_default-step t c =
    let a = c.args in
    let h = c.loop-taken.invariant in
    let e = item_read a.group.now a.scan.now.page (opened_of a.group.now) a.scan.now.watch c.in-Some.below a.depth a.within c.loop-taken.spot.at c.loop-taken.spot.row (drop c.loop-taken.spot.at a.scan.now.m.now) c.requires.2 refl (spare_last a.depth c.in-Some.below a.group.now.list a.group.now.around h.level c.requires.0.left c.requires.0.spare) h.level in
    let T = rw c.in_ok-taken.was at c.take.ensures in
    let M : Meets 1 a.scan.now.m.now c.loop-taken.spot.at c.loop-taken.spot.row (Whole (page_of a.scan.now.page) a.scan.now.watch c.in-Some.below (outer_by a.scan.now.page (opened_of a.group.now)) a.within a.scan.now.m.now c.loop-taken.spot.at c.loop-taken.spot.row) (Ok c.match-taken.step) c.loop-taken.index c.match-taken.index c.loop-taken.bytes c.match-taken.bytes = elim c.match-taken.branch [
      | instance-in-None w ↦ rw (w.step-is, w.index-is, w.bytes-is) (taken_plain (page_of a.scan.now.page) a.scan.now.watch c.in-Some.below (outer_by a.scan.now.page (opened_of a.group.now)) a.within a.scan.now.m.now c.loop-taken.spot c.loop-taken.index c.loop-taken.bytes c.take.new.index c.take.new.bytes c.in_ok-taken.taken T w.in-None.is)
      | instance-in-Some-count+in_ok-step-in-Some-count w ↦ rw (w.step-is, w.index-is, w.bytes-is) (taken_counted (page_of a.scan.now.page) a.scan.now.watch c.in-Some.below (outer_by a.scan.now.page (opened_of a.group.now)) a.within a.scan.now.m.now c.loop-taken.spot c.loop-taken.index c.loop-taken.bytes c.take.new.index c.take.new.bytes c.in_ok-taken.taken T w.in-Some-count.field w.in-Some-count.is _ _ _ (rw w.in_ok-step-in-Some-count.was at w.group.ensures))
    ] in
    rw c.in_default-step.is (membering_ask a.group.now a.scan.now.m.now a.scan.now.watch a.within a.depth a.spot.at a.spot.row a.index.now a.bytes.now c.in-Some.below c.loop-taken.tag c.loop-taken.place c.loop-taken.missing c.loop-taken.watch c.loop-taken.spot c.loop-taken.index c.loop-taken.bytes h _ _ _ (rw (e, c.in_default-step.is) at M))

pub instance-returns-in_default-place : goal.instance-returns-in_default-place
instance-returns-in_default-place t c =
    let a = c.args in
    let h = c.loop-taken.invariant in
    let e = item_read a.group.now a.scan.now.page (opened_of a.group.now) a.scan.now.watch c.in-Some.below a.depth a.within c.loop-taken.spot.at c.loop-taken.spot.row (drop c.loop-taken.spot.at a.scan.now.m.now) c.requires.2 refl (spare_last a.depth c.in-Some.below a.group.now.list a.group.now.around h.level c.requires.0.left c.requires.0.spare) h.level in
    let T = rw c.in_ok-taken.was at c.take.ensures in
    let M : Meets 1 a.scan.now.m.now c.loop-taken.spot.at c.loop-taken.spot.row (Whole (page_of a.scan.now.page) a.scan.now.watch c.in-Some.below (outer_by a.scan.now.page (opened_of a.group.now)) a.within a.scan.now.m.now c.loop-taken.spot.at c.loop-taken.spot.row) (Ok c.match-taken.step) c.loop-taken.index c.match-taken.index c.loop-taken.bytes c.match-taken.bytes = elim c.match-taken.branch [
      | instance-in-None w ↦ rw (w.step-is, w.index-is, w.bytes-is) (taken_plain (page_of a.scan.now.page) a.scan.now.watch c.in-Some.below (outer_by a.scan.now.page (opened_of a.group.now)) a.within a.scan.now.m.now c.loop-taken.spot c.loop-taken.index c.loop-taken.bytes c.take.new.index c.take.new.bytes c.in_ok-taken.taken T w.in-None.is)
      | instance-in-Some-count+in_ok-step-in-Some-count w ↦ rw (w.step-is, w.index-is, w.bytes-is) (taken_counted (page_of a.scan.now.page) a.scan.now.watch c.in-Some.below (outer_by a.scan.now.page (opened_of a.group.now)) a.within a.scan.now.m.now c.loop-taken.spot c.loop-taken.index c.loop-taken.bytes c.take.new.index c.take.new.bytes c.in_ok-taken.taken T w.in-Some-count.field w.in-Some-count.is _ _ _ (rw w.in_ok-step-in-Some-count.was at w.group.ensures))
    ] in
    let k = rw (e, c.in-Done.is) at M in
    membering_end a.group.now a.scan.now.m.now a.scan.now.watch a.within a.depth a.spot.at a.spot.row a.index.now a.bytes.now c.in-Some.below c.loop-taken.tag c.loop-taken.place c.loop-taken.missing c.loop-taken.watch c.loop-taken.spot c.loop-taken.index c.loop-taken.bytes h c.match-taken.index c.match-taken.bytes _ _ k _ (sym c.peek-tag-in-loop-taken.ensures) c.seek-sought.result _ c.seen-watch.ensures c.seek-sought.ensures.walked c.in_default-place.is _ (c.close.ensures _ (sym c.peek-tag-in-loop-taken.ensures))

pub instance-loop-taken-preserved : goal.instance-loop-taken-preserved
instance-loop-taken-preserved t c =
    let a = c.args in
    let h = c.loop-taken.invariant in
    let e = item_read a.group.now a.scan.now.page (opened_of a.group.now) a.scan.now.watch c.in-Some.below a.depth a.within c.loop-taken.spot.at c.loop-taken.spot.row (drop c.loop-taken.spot.at a.scan.now.m.now) c.requires.2 refl (spare_last a.depth c.in-Some.below a.group.now.list a.group.now.around h.level c.requires.0.left c.requires.0.spare) h.level in
    let T = rw c.in_ok-taken.was at c.take.ensures in
    let M : Meets 1 a.scan.now.m.now c.loop-taken.spot.at c.loop-taken.spot.row (Whole (page_of a.scan.now.page) a.scan.now.watch c.in-Some.below (outer_by a.scan.now.page (opened_of a.group.now)) a.within a.scan.now.m.now c.loop-taken.spot.at c.loop-taken.spot.row) (Ok c.match-taken.step) c.loop-taken.index c.match-taken.index c.loop-taken.bytes c.match-taken.bytes = elim c.match-taken.branch [
      | instance-in-None w ↦ rw (w.step-is, w.index-is, w.bytes-is) (taken_plain (page_of a.scan.now.page) a.scan.now.watch c.in-Some.below (outer_by a.scan.now.page (opened_of a.group.now)) a.within a.scan.now.m.now c.loop-taken.spot c.loop-taken.index c.loop-taken.bytes c.take.new.index c.take.new.bytes c.in_ok-taken.taken T w.in-None.is)
      | instance-in-Some-count+in_ok-step-in-Some-count w ↦ rw (w.step-is, w.index-is, w.bytes-is) (taken_counted (page_of a.scan.now.page) a.scan.now.watch c.in-Some.below (outer_by a.scan.now.page (opened_of a.group.now)) a.within a.scan.now.m.now c.loop-taken.spot c.loop-taken.index c.loop-taken.bytes c.take.new.index c.take.new.bytes c.in_ok-taken.taken T w.in-Some-count.field w.in-Some-count.is _ _ _ (rw w.in_ok-step-in-Some-count.was at w.group.ensures))
    ] in
    let k = rw (e, c.in-Done.is) at M in
    membering_next a.group.now a.scan.now.m.now a.scan.now.watch a.within a.depth a.spot.at a.spot.row a.index.now a.bytes.now c.in-Some.below c.loop-taken.tag c.loop-taken.place c.loop-taken.missing c.loop-taken.watch c.loop-taken.spot c.loop-taken.index c.loop-taken.bytes h c.match-taken.index c.match-taken.bytes _ _ k _ (sym c.peek-tag-in-loop-taken.ensures) c.seek-sought.result _ c.seen-watch.ensures c.seek-sought.ensures.walked _ c.in-Some-place.is (rw c.in-Some-place.is at c.seek-sought.ensures.inside)

pub group-loop-done-init : goal.group-loop-done-init
group-loop-done-init t c =
    let a = c.args in
    instancing_first (record { page = a.scan.now.page; list = c.group_list.result; around = c.opened.result }) a.scan.now.m.now a.scan.now.watch a.within a.depth a.spot.at a.spot.row a.field a.index.now a.bytes.now c.requires.2 c.group_list.ensures _ c.count_of-done-end.ensures

pub group-overflow_add-inside-in-loop-done : goal.group-overflow_add-inside-in-loop-done
group-overflow_add-inside-in-loop-done t c =
    let a = c.args in
    let h = c.loop-done.invariant in
    omega (arith, h.moved, h.going.inside, c.requires.0.short)

pub group-instance-requires : goal.group-instance-requires
group-instance-requires t c =
    let a = c.args in
    let h = c.loop-done.invariant in
    let g = h.going in
    let r = c.requires.0 in (
      omega (arith, c.decreases, h.moved, g.inside),
      (
        record {
          short = r.short;
          inside = g.inside;
          rows = omega (arith, g.count, g.costs, r.rows, c.requires.2.past, c.requires.2.some);
          left = r.left;
          spare = rw c.opened.ensures r.spare;
        },
        omega (arith, c.requires.1),
        refl,
      ),
    )

pub group-returns-in_err-step : goal.group-returns-in_err-step
group-returns-in_err-step t c =
    let a = c.args in
    let h = c.loop-done.invariant in
    let q : c.from_residual.result ≡ Err c.in_err-step.field-0.0 = search rules in
    rw q (rw c.opened.ensures at (instancing_bad (record { page = a.scan.now.page; list = c.group_list.result; around = c.opened.result }) a.scan.now.m.now a.scan.now.watch a.within a.depth a.spot.at a.spot.row a.field a.index.now a.bytes.now c.loop-done.done c.count_of-done-end.result c.loop-done.next c.loop-done.index c.loop-done.bytes h (omega (arith, c.loop-done-test.true)) _ _ _ (rw c.in_err-step.was at c.instance.ensures)))

pub group-returns-in_default : goal.group-returns-in_default
group-returns-in_default t c =
    let a = c.args in
    let h = c.loop-done.invariant in
    rw c.in_default.is (rw c.opened.ensures at (instancing_ask (record { page = a.scan.now.page; list = c.group_list.result; around = c.opened.result }) a.scan.now.m.now a.scan.now.watch a.within a.depth a.spot.at a.spot.row a.field a.index.now a.bytes.now c.loop-done.done c.count_of-done-end.result c.loop-done.next c.loop-done.index c.loop-done.bytes h (omega (arith, c.loop-done-test.true)) _ _ _ (rw (c.in_ok-step.was, c.in_default.is) at c.instance.ensures)))

pub group-loop-done-preserved : goal.group-loop-done-preserved
group-loop-done-preserved t c =
    let a = c.args in
    let h = c.loop-done.invariant in
    instancing_next (record { page = a.scan.now.page; list = c.group_list.result; around = c.opened.result }) a.scan.now.m.now a.scan.now.watch a.within a.depth a.spot.at a.spot.row a.field a.index.now a.bytes.now c.loop-done.done c.count_of-done-end.result c.loop-done.next c.loop-done.index c.loop-done.bytes h (omega (arith, c.loop-done-test.true)) _ _ _ _ (rw (c.in_ok-step.was, c.in-Done.is) at c.instance.ensures)

pub group-returns : goal.group-returns
group-returns t c =
    let a = c.args in
    let h = c.loop-done.invariant in
    rw c.opened.ensures at (instancing_end (record { page = a.scan.now.page; list = c.group_list.result; around = c.opened.result }) a.scan.now.m.now a.scan.now.watch a.within a.depth a.spot.at a.spot.row a.field a.index.now a.bytes.now c.loop-done.done c.count_of-done-end.result c.loop-done.next c.loop-done.index c.loop-done.bytes h (omega (arith, c.loop-done-test.false)) c.requires.0.short _ (c.end.ensures _ _ (sym c.peek.ensures)))
