use Rattle.std.proofs.Common.{rules, tests, eqb, ap}
use Rattle.std.proofs.lemmas.Iterator.Consumers.{YieldsList-from_first}
use Rattle.std.proofs.lemmas.Iterator.Search.{any_from_yields_List}
use Rattle.book.specs.Lists.{member_in, members_left}
use Rattle.book.specs.Records.{members_of}
use Rattle.reader.proofs.ListLaws.{tag_any}
use mathlib.Core.Path.{◌∙◌}
use Rattle.reader.proofs.lists.has_tag.Goals as goal

pub returns : goal.returns
returns c =
    let ms = members_of c.args.list.now in
    any_from_yields_List (λ m. eqb c.args.tag m.tag) c.any.new.self _ c.any.result c.any.ensures.ran (YieldsList-from_first member_in members_left {s = c.of.result} ms (ap members_of c.of.ensures)) (λ x b q k. search (rules, tests))
    ∙ tag_any c.args.tag ms
