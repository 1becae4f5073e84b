use Rattle.std.proofs.Common.{rules, sym, inl, arith, ap, length, ◌∙◌}
use Rattle.std.specs.Iterator.Adapters.{enumerate_source, enumerate_count}
use Rattle.book.specs.Lists.{member_in, members_left}
use Rattle.book.specs.Records.{members_of}
use Rattle.book.proofs.Members.{members_count}
use Rattle.reader.proofs.Marking.{marking_start, marking_one, marking_other, marking_end}
use Rattle.reader.proofs.marks.Marks.mark.Goals as goal

pub loop-i-init : goal.loop-i-init
loop-i-init c =
    let g = c.into_iter-i-iterator.ensures.into_iter_gives in
    let z = ap enumerate_count g ∙ c.enumerate-i-items.ensures.count in
    let e = ap (λ s. members_left (enumerate_source s)) g ∙ ap members_left c.enumerate-i-items.ensures.source ∙ ap members_of c.of.ensures in
    let n = members_count c.args.list.now in
    ((tt, tt, inl (omega (arith, z, ap length e, n, c.well_formed))), tt, λ seen h. marking_start _ _ _ _ h (search rules) _ z _ e)

pub loop-i-preserved-then-tag-from : goal.loop-i-preserved-then-tag-from
loop-i-preserved-then-tag-from c = (
  search rules,
  tt,
  λ seen h.
      let s = c.in-Some.ensures.steps in
      marking_one _ _ _ _ _ _ (c.loop-i.invariant.2 seen h) (member_in c.in-Some.m) _ s.0 _ s.2 (c.if-tag-from.true ∙ c.from.ensures) _ s.1 _ c.mark.ensures,
)

pub loop-i-preserved : goal.loop-i-preserved
loop-i-preserved c = (
  search rules,
  tt,
  λ seen h.
      let s = c.in-Some.ensures.steps in
      marking_other _ _ _ _ _ _ (c.loop-i.invariant.2 seen h) (member_in c.in-Some.m) _ s.0 _ s.2 (λ q. c.if-tag-from.false (q ∙ sym c.from.ensures)),
)

pub returns : goal.returns
returns c = λ seen h. marking_end _ _ _ _ _ _ (c.loop-i.invariant.2 seen h) c.in-None.ensures.steps.0.0
