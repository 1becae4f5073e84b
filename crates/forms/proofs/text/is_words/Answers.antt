use Rattle.std.proofs.Common.{rules}
use Rattle.forms.proofs.Texts.{words_is, words_stop, words_next, words_end}
use Rattle.forms.proofs.text.is_words.Goals as goal

pub loop-b-init : goal.loop-b-init
loop-b-init c = words_is _ (λ i. (c.type_inv.s i).fits)

pub returns-then-b-gap : goal.returns-then-b-gap
returns-then-b-gap c = words_stop _ _ _ c.loop-b.invariant (search rules) c.if-b-gap.true

pub loop-b-preserved : goal.loop-b-preserved
loop-b-preserved c = words_next _ _ _ c.loop-b.invariant (search rules) c.if-b-gap.false

pub returns : goal.returns
returns c = words_end _ _ _ c.loop-b.invariant (search rules)
