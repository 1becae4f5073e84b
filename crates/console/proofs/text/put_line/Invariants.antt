use Rattle.std.proofs.Common.{◌≡◌, ◌++◌}
use Rattle.console.specs.Program.{line}
use Rattle.console.proofs.Lines.{line_left}
use Rattle.console.proofs.text.put_line.Given as goal

abbrev pub invariant-loop-i : goal.invariant-loop-i
invariant-loop-i l = l.out.items ++ line_left l.i l.numbers ≡ l.initial.out.items ++ line l.numbers
