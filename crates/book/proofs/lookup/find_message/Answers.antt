use Rattle.std.proofs.Common.{rules, tests, refl, ◌∙◌}
use Rattle.std.proofs.lemmas.Iterator.Consumers.{YieldsList-from_first}
use Rattle.std.proofs.lemmas.Iterator.Search.{find_from_yields_List}
use Rattle.book.specs.Records.{is_message, records}
use Rattle.book.specs.Walked.{record_in, records_left}
use mathlib.Core.Path.{◌≡◌}
use Rattle.book.specs.Answers.{look_of}
use Rattle.book.specs.Records.{look_up}
use Rattle.book.proofs.Look.{found_is, found_there}
use Rattle.book.proofs.lookup.find_message.Goals as goal

pub returns : goal.returns
returns c =
    let p = is_message c.args.text.now in let left = c.past_others.result in let B = records_left left in
    let e : look_of c.find.result ≡ look_up p (records c.args.book.now) = found_is p B c.find.result (find_from_yields_List p c.find.new.self _ c.find.result c.find.ensures.ran (YieldsList-from_first record_in records_left {s = left} B refl) (λ x b q k. search (rules, tests, c.u16_at-head.ensures))) ∙ c.past_others.ensures.messages c.args.text.now in
    record { found = e; place = found_there p c.args.book.now c.find.result e }
