use Rattle.std.proofs.Common.{rules, ◌∙◌, sym, ◌+◌, ◌<◌, length}
use Rattle.numbers.proofs.Scanning.{number_start, number_stop, number_turn, number_end, number_of, place_in}
use Rattle.numbers.proofs.scan.number_at.Goals as goal

pub loop-b-init : goal.loop-b-init
loop-b-init c = (c.rest-b-items.ensures, search rules, number_start _ _)

pub returns-then-not-is_ascii_digit : goal.returns-then-not-is_ascii_digit
returns-then-not-is_ascii_digit c =
    let i = c.loop-b.invariant in
    number_of _ _ _ i.0 _ _ _ _ i.1 (number_stop _ _ _ _ i.2 c.loop-b-test.true (sym c.is_ascii_digit.ensures.value ∙ c.if-not-is_ascii_digit.true))

pub overflow_add-end : goal.overflow_add-end
overflow_add-end c =
    let i = c.loop-b.invariant in
    let h : c.args.from + c.loop-b.b-index < length c.args.s.now = place_in _ _ _ i.0 _ c.loop-b-test.true in
    search rules

pub loop-b-preserved : goal.loop-b-preserved
loop-b-preserved c =
    let i = c.loop-b.invariant in
    (i.0, search rules, number_turn _ _ _ _ i.2 c.loop-b-test.true (sym c.is_ascii_digit.ensures.value ∙ c.if-not-is_ascii_digit.false) _ (search rules))

pub returns : goal.returns
returns c = let i = c.loop-b.invariant in number_of _ _ _ i.0 _ _ _ _ i.1 (number_end _ _ _ _ i.2 (search rules))
