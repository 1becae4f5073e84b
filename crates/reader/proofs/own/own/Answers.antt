use mathlib.Core.Path.{◌≡◌, refl, sym, ◌∙◌}
use native.Mathlib.Omega.{arith}
use Rattle.std.proofs.Common.{Ok, Err, rules}
use Rattle.book.specs.Records.{members_of}
use Rattle.reader.specs.Met.{page_of, outer_by, opened_of, Meets}
use Rattle.reader.proofs.ItemLaws.{Whole, item_bad, taken_plain, taken_counted}
use Rattle.reader.proofs.OwnLaws.{outer_is, owning_first, owning_other, owning_twice, owning_bad, owning_ask, owning_next, owning_end}
use Rattle.reader.proofs.own.own.Goals as goal
use Rattle.reader.proofs.own.own.Goals.{in-None, in-Some+in_ok-step-in-Some}

pub loop-spot-init : goal.loop-spot-init
loop-spot-init c =
    let a = c.args in
    owning_first a.scan.now.page a.scan.now.m.now a.scan.now.watch a.spot.at a.spot.row a.index.now a.bytes.now _ c.requires.inside (c.none-marks.ensures _ c.requires.listed)

pub returns-then-not-lists_tag : goal.returns-then-not-lists_tag
unfolding members_of
returns-then-not-lists_tag c =
    let a = c.args in
    let S = c.refuse.ensures _ c.loop-spot.spot.row (sym c.peek-tag.ensures) in
    owning_other a.scan.now.page a.scan.now.m.now a.scan.now.watch a.spot.at a.spot.row a.index.now a.bytes.now c.loop-spot.marks.bits c.loop-spot.spot c.loop-spot.index c.loop-spot.bytes c.loop-spot.invariant _ (sym c.peek-tag.ensures) c.loop-spot-test.true (sym c.lists_tag.ensures.0 ∙ c.if-not-lists_tag.true) _ (rw c.new.ensures at S)

pub returns-then-has : goal.returns-then-has
returns-then-has c =
    let a = c.args in
    let z = sym c.lists_tag.ensures.0 ∙ c.if-not-lists_tag.false in
    owning_twice a.scan.now.page a.scan.now.m.now a.scan.now.watch a.spot.at a.spot.row a.index.now a.bytes.now c.loop-spot.marks.bits c.loop-spot.spot c.loop-spot.index c.loop-spot.bytes c.loop-spot.invariant _ (sym c.peek-tag.ensures) c.loop-spot-test.true z (sym (c.has.ensures _ c.loop-spot.invariant.marked z) ∙ c.if-has.true) _ c.at.ensures

pub returns-in_err-taken : goal.returns-in_err-taken
returns-in_err-taken c =
    let a = c.args in
    let z = sym c.lists_tag.ensures.0 ∙ c.if-not-lists_tag.false in
    let y = sym (c.has.ensures _ c.loop-spot.invariant.marked z) ∙ c.if-has.false in
    let q : c.from_residual.result ≡ Err c.in_err-taken.field-0.0 = search rules in
    let M = item_bad (page_of a.scan.now.page) a.scan.now.watch 4 (outer_by a.scan.now.page (opened_of c.no_group-none.result)) c.message-within.result a.scan.now.m.now c.loop-spot.spot.at c.loop-spot.spot.row _ (rw c.in_err-taken.was at c.take.ensures) c.loop-spot.invariant.going.inside c.loop-spot.index c.take.new.index c.loop-spot.bytes c.take.new.bytes in
    rw q (owning_bad a.scan.now.page a.scan.now.m.now a.scan.now.watch a.spot.at a.spot.row a.index.now a.bytes.now c.loop-spot.marks.bits c.loop-spot.spot c.loop-spot.index c.loop-spot.bytes c.loop-spot.invariant _ (sym c.peek-tag.ensures) c.loop-spot-test.true z (c.lists_tag.ensures.1 c.if-not-lists_tag.false) y _ _ _ (rw (outer_is a.scan.now.page (opened_of c.no_group-none.result) c.no_group-none.ensures, c.message-within.ensures) at M))

pub returns-in_err-step-in-Some : goal.returns-in_err-step-in-Some
returns-in_err-step-in-Some c =
    let a = c.args in
    let z = sym c.lists_tag.ensures.0 ∙ c.if-not-lists_tag.false in
    let y = sym (c.has.ensures _ c.loop-spot.invariant.marked z) ∙ c.if-has.false in
    let T = rw c.in_ok-taken.was at c.take.ensures in
    let q : c.from_residual-in_err-step-in-Some.result ≡ Err c.in_err-step-in-Some.field-0.0 = search rules in
    let M = taken_counted (page_of a.scan.now.page) a.scan.now.watch 4 (outer_by a.scan.now.page (opened_of c.no_group-none.result)) c.message-within.result a.scan.now.m.now c.loop-spot.spot c.loop-spot.index c.loop-spot.bytes c.take.new.index c.take.new.bytes c.in_ok-taken.taken T c.in-Some.field c.in-Some.is _ _ _ (rw c.in_err-step-in-Some.was at c.group.ensures) in
    rw q (owning_bad a.scan.now.page a.scan.now.m.now a.scan.now.watch a.spot.at a.spot.row a.index.now a.bytes.now c.loop-spot.marks.bits c.loop-spot.spot c.loop-spot.index c.loop-spot.bytes c.loop-spot.invariant _ (sym c.peek-tag.ensures) c.loop-spot-test.true z (c.lists_tag.ensures.1 c.if-not-lists_tag.false) y _ _ _ (rw (outer_is a.scan.now.page (opened_of c.no_group-none.result) c.no_group-none.ensures, c.message-within.ensures) at M))

pub returns-in_default : goal.returns-in_default
returns-in_default c =
    let a = c.args in
    let z = sym c.lists_tag.ensures.0 ∙ c.if-not-lists_tag.false in
    let y = sym (c.has.ensures _ c.loop-spot.invariant.marked z) ∙ c.if-has.false in
    let T = rw c.in_ok-taken.was at c.take.ensures in
    let M : Meets 1 a.scan.now.m.now c.loop-spot.spot.at c.loop-spot.spot.row (Whole (page_of a.scan.now.page) a.scan.now.watch 4 (outer_by a.scan.now.page (opened_of c.no_group-none.result)) c.message-within.result a.scan.now.m.now c.loop-spot.spot.at c.loop-spot.spot.row) (Ok c.match-taken.step) c.loop-spot.index c.match-taken.index c.loop-spot.bytes c.match-taken.bytes = elim c.match-taken.branch [
      | in-None w ↦ rw (w.step-is, w.index-is, w.bytes-is) (taken_plain (page_of a.scan.now.page) a.scan.now.watch 4 (outer_by a.scan.now.page (opened_of c.no_group-none.result)) c.message-within.result a.scan.now.m.now c.loop-spot.spot c.loop-spot.index c.loop-spot.bytes c.take.new.index c.take.new.bytes c.in_ok-taken.taken T w.in-None.is)
      | in-Some+in_ok-step-in-Some w ↦ rw (w.step-is, w.index-is, w.bytes-is) (taken_counted (page_of a.scan.now.page) a.scan.now.watch 4 (outer_by a.scan.now.page (opened_of c.no_group-none.result)) c.message-within.result a.scan.now.m.now c.loop-spot.spot c.loop-spot.index c.loop-spot.bytes c.take.new.index c.take.new.bytes c.in_ok-taken.taken T w.in-Some.field w.in-Some.is _ _ _ (rw w.in_ok-step-in-Some.was at w.group.ensures))
    ] in
    rw c.in_default.is (owning_ask a.scan.now.page a.scan.now.m.now a.scan.now.watch a.spot.at a.spot.row a.index.now a.bytes.now c.loop-spot.marks.bits c.loop-spot.spot c.loop-spot.index c.loop-spot.bytes c.loop-spot.invariant _ (sym c.peek-tag.ensures) c.loop-spot-test.true z (c.lists_tag.ensures.1 c.if-not-lists_tag.false) y _ _ _ (rw (outer_is a.scan.now.page (opened_of c.no_group-none.result) c.no_group-none.ensures, c.message-within.ensures, c.in_default.is) at M))

pub loop-spot-preserved : goal.loop-spot-preserved
loop-spot-preserved c =
    let a = c.args in
    let z = sym c.lists_tag.ensures.0 ∙ c.if-not-lists_tag.false in
    let y = sym (c.has.ensures _ c.loop-spot.invariant.marked z) ∙ c.if-has.false in
    let T = rw c.in_ok-taken.was at c.take.ensures in
    let M : Meets 1 a.scan.now.m.now c.loop-spot.spot.at c.loop-spot.spot.row (Whole (page_of a.scan.now.page) a.scan.now.watch 4 (outer_by a.scan.now.page (opened_of c.no_group-none.result)) c.message-within.result a.scan.now.m.now c.loop-spot.spot.at c.loop-spot.spot.row) (Ok c.match-taken.step) c.loop-spot.index c.match-taken.index c.loop-spot.bytes c.match-taken.bytes = elim c.match-taken.branch [
      | in-None w ↦ rw (w.step-is, w.index-is, w.bytes-is) (taken_plain (page_of a.scan.now.page) a.scan.now.watch 4 (outer_by a.scan.now.page (opened_of c.no_group-none.result)) c.message-within.result a.scan.now.m.now c.loop-spot.spot c.loop-spot.index c.loop-spot.bytes c.take.new.index c.take.new.bytes c.in_ok-taken.taken T w.in-None.is)
      | in-Some+in_ok-step-in-Some w ↦ rw (w.step-is, w.index-is, w.bytes-is) (taken_counted (page_of a.scan.now.page) a.scan.now.watch 4 (outer_by a.scan.now.page (opened_of c.no_group-none.result)) c.message-within.result a.scan.now.m.now c.loop-spot.spot c.loop-spot.index c.loop-spot.bytes c.take.new.index c.take.new.bytes c.in_ok-taken.taken T w.in-Some.field w.in-Some.is _ _ _ (rw w.in_ok-step-in-Some.was at w.group.ensures))
    ] in
    (owning_next a.scan.now.page a.scan.now.m.now a.scan.now.watch a.spot.at a.spot.row a.index.now a.bytes.now c.loop-spot.marks.bits c.loop-spot.spot c.loop-spot.index c.loop-spot.bytes c.loop-spot.invariant _ (sym c.peek-tag.ensures) c.loop-spot-test.true z (c.lists_tag.ensures.1 c.if-not-lists_tag.false) y _ _ _ _ _ (rw (outer_is a.scan.now.page (opened_of c.no_group-none.result) c.no_group-none.ensures, c.message-within.ensures, c.in-Done.is) at M) (c.mark.ensures _ c.loop-spot.invariant.marked)).0

pub returns : goal.returns
returns c =
    let a = c.args in
    owning_end a.scan.now.page a.scan.now.m.now a.scan.now.watch a.spot.at a.spot.row a.index.now a.bytes.now c.loop-spot.marks.bits c.loop-spot.spot c.loop-spot.index c.loop-spot.bytes c.loop-spot.invariant _ refl (omega (arith, c.loop-spot-test.false)) _ (c.ending.ensures _ c.loop-spot.invariant.marked)
