use Rattle.std.proofs.Common.{rules, tests}
use Rattle.std.proofs.lemmas.Iterator.{YieldsList-from_slice}
use Rattle.std.proofs.lemmas.Iterator.Search.{all_from_yields_List}
use Rattle.book.proofs.Texts.{printable, is_zero, some_is, good_text_is}
use Rattle.book.proofs.rules.good_type_text.Goals as goal

pub returns : goal.returns
returns c =
    let a = all_from_yields_List printable _ _ c.all-is_printable.result c.all-is_printable.ensures.ran (YieldsList-from_slice c.type_text-text.result.now (cc)) (λ x b q k. search (rules, tests)) in
    let z = all_from_yields_List is_zero _ _ c.all-is_filled.result c.all-is_filled.ensures.ran (YieldsList-from_slice c.rest.result.now (cc)) (λ x b q k. search (rules, tests)) in
    rw (c.is_empty.ensures, a, z, c.rest.ensures, c.type_text-text.ensures, some_is) (good_text_is c.args.w.now)
