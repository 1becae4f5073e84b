use Rattle.std.proofs.Common.{◌∙◌, sym}
use Rattle.book.specs.Lists.{member_in}
use Rattle.reader.proofs.ListLaws.{stand_here, stand_below, stand_turn, stand_end, under_zero, under_plain, under_group}
use Rattle.reader.proofs.lists.+stands_in.Goals as goal
use Rattle.reader.proofs.lists.+stands_in.Goals.{else-depth-gt0-via-then-depth-gt0+then-is_of+else-stands_in, else-depth-gt0-via-then-depth-gt0+else-is_of, else-depth-gt0-via-else-depth-gt0}

pub returns-then-tag-from : goal.returns-then-tag-from
returns-then-tag-from t c = stand_here _ _ _ _ c.loop-m.invariant.2 (member_in c.in-Some.m) _ c.in-Some.ensures.steps _ c.from.ensures c.if-tag-from.true

pub returns-then-stands_in : goal.returns-then-stands_in
returns-then-stands_in t c =
    stand_below _ _ _ _ c.loop-m.invariant.2 (member_in c.in-Some.m) _ c.in-Some.ensures.steps _ c.from.ensures c.if-tag-from.false
    (under_group _ _ _ _ (sym c.is_of.ensures ∙ c.if-is_of.true) c.if-depth-gt0.true _ c.group_list.ensures _ c.stands_in.ensures ∙ c.if-stands_in.true)

pub loop-m-preserved : goal.loop-m-preserved
loop-m-preserved t c = (
  tt,
  tt,
  stand_turn _ _ _ _ c.loop-m.invariant.2 (member_in c.in-Some.m) _ c.in-Some.ensures.steps _ c.from.ensures c.if-tag-from.false (elim c.else-depth-gt0.branch [
    | else-depth-gt0-via-then-depth-gt0+then-is_of+else-stands_in w ↦
        under_group _ _ _ _ (sym w.is_of.ensures ∙ w.if-is_of.true) w.if-depth-gt0.true _ w.group_list.ensures _ w.stands_in.ensures ∙ w.if-stands_in.false
    | else-depth-gt0-via-then-depth-gt0+else-is_of w ↦
        under_plain _ _ _ _ (sym w.is_of.ensures ∙ w.if-is_of.false)
    | else-depth-gt0-via-else-depth-gt0 w ↦ under_zero _ _ _ _ w.if-depth-gt0.false
  ]),
)

pub returns : goal.returns
returns t c = stand_end _ _ _ _ c.loop-m.invariant.2 c.in-None.ensures.steps.0
