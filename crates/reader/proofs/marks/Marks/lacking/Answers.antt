use Rattle.std.proofs.Common.{rules, tests, ap, inl, arith, length, ◌/◌}
use Rattle.std.proofs.lemmas.Iterator.Consumers.{YieldsList-from_first, YieldsList-from_enumerate, YieldsList-at}
use Rattle.std.proofs.lemmas.Iterator.Search.{find_from_yields_List}
use Rattle.book.specs.Lists.{member_in, members_left}
use Rattle.book.specs.Records.{members_of, records}
use Rattle.book.proofs.Members.{members_count}
use Rattle.reader.proofs.Marking.{is_lacking, lacking_marked}
use mathlib.Core.Path.{◌≡◌}
use Rattle.reader.proofs.marks.Marks.lacking.Goals as goal

pub find-requires-clause-can : goal.find-requires-clause-can
find-requires-clause-can c =
    let e : length (members_left c.enumerate.result.iter) ≡ length c.args.list.now / 4 = rw (c.enumerate.ensures.source, c.of.ensures) (members_count c.args.list.now) in
    (tt, tt, inl (omega (arith, e, c.enumerate.ensures.count, c.well_formed)))

pub returns : goal.returns
returns c = λ seen h.
    let B = records c.args.book.now in let ms = members_of c.args.list.now in
    lacking_marked B seen _ ms h c.find.result
    (find_from_yields_List (is_lacking B c.args.self.now.bits) c.find.new.self _ c.find.result c.find.ensures.ran
    (YieldsList-from_enumerate (YieldsList-at c.enumerate.ensures.source (YieldsList-from_first member_in members_left {s = c.of.result} ms (ap members_of c.of.ensures))) c.enumerate.ensures.count) (λ x b q k. search (rules, tests)))
    _ (λ e. search (rules, e)) (λ p e. search (rules, e))
