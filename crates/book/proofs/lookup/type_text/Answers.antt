use Rattle.std.proofs.Common.{rules, tests, eqb, take, ap, ◌∙◌}
use Rattle.std.proofs.lemmas.Iterator.{YieldsList-from_slice}
use Rattle.std.proofs.lemmas.Iterator.Search.{position_from_yields_List}
use Rattle.book.proofs.Texts.{text_is, position_or_end}
use Rattle.book.proofs.lookup.type_text.Goals as goal

pub returns : goal.returns
returns c =
    let w = c.args.w.now in
    ap (λ n. take n w) (c.unwrap_or.ensures ∙ position_or_end (λ b. eqb b 0) w _ (position_from_yields_List (λ b. eqb b 0) _ _ c.position.result c.position.ensures.ran (YieldsList-from_slice w (cc)) (λ x b q k. search (rules, tests))))
    ∙ text_is w
