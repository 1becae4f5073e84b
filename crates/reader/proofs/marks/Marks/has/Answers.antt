use Rattle.std.proofs.Common.{rules, tests, eqb, ap, inl, arith, length, ◌/◌}
use Rattle.std.proofs.lemmas.Iterator.Consumers.{YieldsList-from_first}
use Rattle.std.proofs.lemmas.Iterator.Search.{position_from_yields_List}
use Rattle.book.specs.Lists.{member_in, members_left}
use Rattle.book.specs.Records.{members_of}
use Rattle.book.proofs.Members.{members_count}
use Rattle.reader.proofs.Marking.{has_marked}
use mathlib.Core.Path.{◌≡◌}
use Rattle.reader.proofs.marks.Marks.has.Goals as goal

pub position-requires-clause-fits : goal.position-requires-clause-fits
position-requires-clause-fits c =
    let e : length (members_left c.of.result) ≡ length c.args.list.now / 4 = rw c.of.ensures (members_count c.args.list.now) in
    inl (omega (arith, e, c.well_formed))

pub returns : goal.returns
returns c =
    let ms = members_of c.args.list.now in
    let p = position_from_yields_List (λ m. eqb c.args.tag m.tag) c.position.new.self _ c.position.result c.position.ensures.ran (YieldsList-from_first member_in members_left {s = c.of.result} ms (ap members_of c.of.ensures)) (λ x b q k. search (rules, tests)) in
    λ seen h y. has_marked _ seen _ ms h y _ p _ (λ i e. search (rules, e))
