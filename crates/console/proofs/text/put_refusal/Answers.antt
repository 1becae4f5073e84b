use Rattle.std.proofs.Common.{rules, append_assoc}
use Rattle.std.proofs.lemmas.Result.{IfOk-equal}
use Rattle.numbers.specs.Bytes.{bytes}
use Rattle.console.specs.Program.{lines}
use Rattle.console.proofs.text.put_refusal.Goals as goal

pub returns : goal.returns
unfolding lines bytes
returns c = search (rules, IfOk-equal, append_assoc)
