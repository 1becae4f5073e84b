use Rattle.std.proofs.Common.{rules, tests, ◌≡◌, ap, ◌+◌, eqb, drop}
use Rattle.std.specs.List.{position}
use Rattle.std.proofs.lemmas.Iterator.{YieldsList-from_slice}
use Rattle.std.proofs.lemmas.Iterator.Search.{position_from_yields_List}
use Rattle.numbers.proofs.Finding.{found_is}
use Rattle.numbers.proofs.decimal.find_byte.Goals as goal

pub returns : goal.returns
returns c =
    let s = drop c.args.from c.args.s.now in
    let e : c.position.result ≡ position (λ x. eqb x c.args.b) s = position_from_yields_List _ _ _ _ c.position.ensures.ran (YieldsList-from_slice s cc) (λ x b q k. search (rules, tests)) in
    ap (λ n. c.args.from + n) (rw (c.unwrap_or.ensures, e, c.rest-rest.ensures) (found_is c.args.b s))
