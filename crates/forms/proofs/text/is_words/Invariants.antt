use Rattle.std.proofs.Common.{◌≡◌, drop}
use Rattle.forms.specs.Form.{accepts}
use Rattle.forms.specs.Types.{words}
use Rattle.forms.proofs.Texts.{words_from}
use Rattle.forms.proofs.text.is_words.Given as goal

abbrev pub invariant-loop-b : goal.invariant-loop-b
invariant-loop-b l = accepts words l.s ≡ words_from l.gap (drop l.b-index l.s)
