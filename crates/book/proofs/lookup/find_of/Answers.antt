use Rattle.std.proofs.Common.{rules, tests, refl, ◌∙◌}
use Rattle.std.proofs.lemmas.Iterator.Consumers.{YieldsList-from_first}
use Rattle.std.proofs.lemmas.Iterator.Search.{find_from_yields_List}
use Rattle.book.specs.Records.{is_kind}
use Rattle.book.specs.Walked.{kind_number, record_in, records_left}
use Rattle.book.proofs.Look.{found_is}
use Rattle.book.proofs.lookup.find_of.Goals as goal

pub returns : goal.returns
returns c =
    let p = is_kind (kind_number c.args.kind) c.args.tag in let left = c.past_others.result in let B = records_left left in
    found_is p B c.find.result (find_from_yields_List p c.find.new.self _ c.find.result c.find.ensures.ran (YieldsList-from_first record_in records_left {s = left} B refl) (λ x b q k. search (rules, tests)))
    ∙ c.past_others.ensures.same
