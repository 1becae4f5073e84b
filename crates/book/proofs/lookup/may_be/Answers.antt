use Rattle.std.proofs.Common.{arith, length, sym, ◌∙◌}
use borrow.Author.Tests.{eq-eqb, eqb-false}
use Rattle.book.specs.Records.{record_at}
use Rattle.book.proofs.Texts.{tag_agrees, type_agrees}
use Rattle.book.proofs.lookup.may_be.Goals as goal
use Rattle.book.proofs.lookup.may_be.Goals.{then-tag-head, else-tag-head}

pub returns-else-text-lt3 : goal.returns-else-text-lt3
unfolding record_at
returns-else-text-lt3 c = λ h e. eq-eqb _ _ (c.u16_at.ensures ∙ type_agrees c.args.r.bytes.now c.args.text.now e c.if-text-lt3.false ∙ sym c.u16_at-else-text-lt3.ensures)

pub returns-else-is_empty : goal.returns-else-is_empty
unfolding record_at
returns-else-is_empty c = λ h e. elim c.if-tag-head.branch [
  | then-tag-head w ↦ w.value-is ∙ eq-eqb _ _ w.if-tag-head.true
  | else-tag-head w ↦ absurd (w.if-tag-head.false (c.tag.ensures ∙ tag_agrees c.args.r.bytes.now c.args.text.now e (omega (arith, eqb-false (length c.args.text.now) 0 (sym w.is_empty.ensures ∙ sym w.value-is ∙ c.if-is_empty.false))) ∙ sym h))
]
