use Rattle.std.proofs.Common.{◌≡◌, ◌++◌, map, drop}
use Rattle.console.specs.Program.{row_lines}
use Rattle.console.specs.Rows.{row_from, rows_in}
use Rattle.console.proofs.text.put_rows.Given as goal

abbrev pub invariant-loop-row : goal.invariant-loop-row
invariant-loop-row l = l.out.items ++ row_lines l.count (map row_from (drop l.row-index l.row-items)) ≡ l.initial.out.items ++ row_lines l.count (rows_in l.count l.index)
