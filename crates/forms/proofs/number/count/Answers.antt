use Rattle.std.proofs.Common.{◌&&◌, Bool, ℕ, leb, sym, ◌∙◌, rules, tests}
use Rattle.std.proofs.lemmas.Iterator.{YieldsList-from_slice}
use Rattle.std.proofs.lemmas.Iterator.Consumers.{count_from_yields_List}
use Rattle.std.proofs.lemmas.Iterator.Search.{YieldsList-from_take_while}
use Rattle.forms.proofs.Leading.{leading_is}
use Rattle.forms.proofs.number.count.Goals as goal

pub returns-clause-value : goal.returns-clause-value
returns-clause-value c =
    let p : ℕ → Bool = λ b. leb c.args.lo b && leb b c.args.hi in
    count_from_yields_List c.take_while.result _ c.count.ensures.ran (YieldsList-from_take_while _ p (YieldsList-from_slice c.args.s.now (cc)) c.take_while.ensures.closure c.take_while.ensures.done (λ x b q k. search (rules, tests)))
    ∙ sym (leading_is c.args.lo c.args.hi c.args.s.now)
