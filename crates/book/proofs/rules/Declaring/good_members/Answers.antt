use Rattle.std.proofs.Common.{rules, tests, leb, ◌&&◌}
use Rattle.std.proofs.lemmas.Iterator.Consumers.{YieldsList-from_first}
use Rattle.std.proofs.lemmas.Iterator.Search.{all_from_yields_List}
use Rattle.numbers.specs.Bits.{bit_at}
use Rattle.book.specs.Lists.{member_in, members_left}
use Rattle.book.specs.Records.{members_of, records}
use Rattle.book.proofs.RuleLaws.{goods_is}
use mathlib.Core.Path.{ap, ◌∙◌}
use Rattle.book.proofs.rules.Declaring.good_members.Goals as goal

pub returns : goal.returns
returns c =
    let it = c.args.self in let l = c.args.list.now in
    all_from_yields_List (λ m. bit_at it.map.now m.tag && leb m.flag 1) c.all.new.self _ c.all.result c.all.ensures.ran (YieldsList-from_first member_in members_left {s = c.of.result} (members_of l) (ap members_of c.of.ensures)) (λ x b q k. search (rules, tests))
    ∙ goods_is (records it.book.now) it.map.now it.holds l (λ i. (c.type_inv.list i).fits)
