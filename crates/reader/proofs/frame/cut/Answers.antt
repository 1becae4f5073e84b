use Rattle.std.proofs.Common.{eqb, rules, tests}
use Rattle.std.proofs.lemmas.Iterator.{YieldsList-from_slice}
use Rattle.std.proofs.lemmas.Iterator.Search.{position_from_yields_List}
use Rattle.reader.proofs.Cuts.{cut_none, cut_some}
use Rattle.reader.proofs.frame.cut.Goals as goal

pub returns-in_err-end : goal.returns-in_err-end
returns-in_err-end c =
    let p = position_from_yields_List (λ b. eqb b 1) _ _ _ c.position.ensures.ran (YieldsList-from_slice c.args.s.now cc) (λ x b q k. search (rules, tests)) in
    rw c.from_residual.ensures (cut_none c.args.s.now c.position.result p c.in_err-end.was)

pub returns : goal.returns
returns c =
    let p = position_from_yields_List (λ b. eqb b 1) _ _ _ c.position.ensures.ran (YieldsList-from_slice c.args.s.now cc) (λ x b q k. search (rules, tests)) in
    cut_some c.args.s.now c.position.result p c.in_ok-end.end c.in_ok-end.was
