use Rattle.std.proofs.Common.{rules, tests}
use Rattle.std.proofs.lemmas.Iterator.Consumers.{YieldsList-from_first}
use Rattle.std.proofs.lemmas.Iterator.Search.{find_from_yields_List}
use Rattle.book.specs.Records.{records}
use Rattle.book.specs.Walked.{record_in, records_left}
use Rattle.book.proofs.Checks.{first_some, first_none}
use Rattle.book.proofs.checking.first_break.Goals as goal

pub returns-in-Some : goal.returns-in-Some
returns-in-Some g c = λ p h.
    let B = records c.args.book.now in
    first_some _ p B c.find.result (find_from_yields_List p c.find.new.self _ c.find.result c.find.ensures.ran (YieldsList-from_first record_in records_left {s = c.of.result} B c.of.ensures) (λ x b q k. search (rules, tests, h))) c.in-Some.first c.in-Some.is

pub returns : goal.returns
returns g c = λ p h.
    let B = records c.args.book.now in
    first_none _ p B c.find.result (find_from_yields_List p c.find.new.self _ c.find.result c.find.ensures.ran (YieldsList-from_first record_in records_left {s = c.of.result} B c.of.ensures) (λ x b q k. search (rules, tests, h))) c.in-None.is
