use Rattle.std.proofs.Common.{◌≡◌, ◌&&◌, ◌∙◌, ap, eqb, map, rules, tests}
use Rattle.std.specs.List.{position}
use Rattle.std.specs.Simd.{first_chunks}
use Rattle.std.proofs.lemmas.Iterator.{YieldsList-from_slice, YieldsList-from_map}
use Rattle.std.proofs.lemmas.Iterator.Search.{position_from_yields_List}
use Rattle.index.specs.Questions.{row_count, find}
use Rattle.message.specs.Sixes.{row_from}
use Rattle.message.specs.declared.Row.{Row}
use Rattle.index.specs.Answers.{found_from}
use Rattle.index.proofs.Rows.{position_lowest}
use Rattle.index.proofs.find.Goals as goal

pub returns : goal.returns
unfolding find
returns c =
    let index = c.args.index.now in
    let test : Row → _ = λ r. eqb r.count c.args.count && eqb r.instance c.args.inst && eqb r.tag c.args.tag in
    let e : c.position.result ≡ position test (map row_from (first_chunks 6 (row_count index) index)) =
    position_from_yields_List test _ _ c.position.result c.position.ensures.ran
    (YieldsList-from_map _ row_from (YieldsList-from_slice (first_chunks 6 (row_count index) index) (cc)) c.map.ensures.closure (λ x r q k. search (rules, tests)))
    (λ x b q k. search (rules, tests)) in
    c.into.ensures ∙ ap found_from e ∙ position_lowest test index
