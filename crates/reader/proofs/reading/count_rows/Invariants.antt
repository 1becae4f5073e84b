use Rattle.std.proofs.Common.{◌≡◌, cond}
use Rattle.reader.specs.Met.{page_of}
use Rattle.reader.specs.Rowed.{f_message}
use Rattle.reader.proofs.ReadLaws.{is_ask}
use Rattle.reader.proofs.reading.count_rows.Given as goal

abbrev pub invariant-loop-row : goal.invariant-loop-row
invariant-loop-row l = (l.scan.page ≡ l.fn.scan.page) × (l.scan.m ≡ l.fn.scan.m)

abbrev pub decreases-loop-row : goal.decreases-loop-row
decreases-loop-row l = cond (is_ask (f_message (page_of l.scan.page) l.scan.watch l.framed l.scan.m.now)) 1 0
