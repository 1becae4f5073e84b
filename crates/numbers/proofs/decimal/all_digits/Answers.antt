use Rattle.std.proofs.Common.{rules, tests, ◌∙◌, sym}
use Rattle.std.proofs.lemmas.Iterator.{YieldsList-from_slice}
use Rattle.std.proofs.lemmas.Iterator.Search.{all_from_yields_List}
use Rattle.numbers.specs.Decimal.{digit}
use Rattle.numbers.proofs.Finding.{digits_is}
use Rattle.numbers.proofs.decimal.all_digits.Goals as goal

pub returns : goal.returns
returns c = all_from_yields_List (λ b. digit b) _ _ _ c.all.ensures.ran (YieldsList-from_slice c.args.s.now cc) (λ x b q k. search (rules, tests)) ∙ sym (digits_is _)
