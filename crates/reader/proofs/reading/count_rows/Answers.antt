use mathlib.Core.Path.{◌≡◌, refl}
use native.Mathlib.Omega.{arith}
use Rattle.std.proofs.Common.{Err, rules}
use Rattle.reader.specs.Met.{page_of}
use Rattle.reader.proofs.ReadLaws.{counts_done, counts_bad, asked}
use Rattle.reader.proofs.reading.count_rows.Goals as goal

pub loop-row-init : goal.loop-row-init
loop-row-init c = (refl, refl)

pub put_message-requires : goal.put_message-requires
put_message-requires c =
    let r = c.requires in
    let (p, m) = c.loop-row.invariant in
    record { short = rw m r.short; version = r.version; count = r.count; type = r.type; inside = rw m r.inside; listed = rw p r.listed }

pub returns-in_err-row : goal.returns-in_err-row
returns-in_err-row c =
    let a = c.args in
    let q : c.from_residual.result ≡ Err c.in_err-row.field-0.0 = search rules in
    rw q (counts_bad (page_of a.scan.page) a.framed a.scan.m.now c.loop-row.scan.watch _ _ _ _ _ (rw (c.loop-row.invariant.0, c.loop-row.invariant.1, c.in_err-row.was) at c.put_message.ensures))

pub returns-in-Done : goal.returns-in-Done
returns-in-Done c =
    let a = c.args in
    counts_done (page_of a.scan.page) a.framed a.scan.m.now c.loop-row.scan.watch _ _ _ _ _ _ (rw (c.loop-row.invariant.0, c.loop-row.invariant.1, c.in_ok-row.was, c.in-Done.is) at c.put_message.ensures)

pub loop-row-smaller : goal.loop-row-smaller
loop-row-smaller c =
    let k = asked (page_of c.loop-row.scan.page) c.args.framed c.loop-row.scan.m.now c.loop-row.scan.watch _ _ _ _ _ (rw (c.in_ok-row.was, c.in-Ask.is) at c.put_message.ensures) in
    rw (k.0, k.1) (omega arith)

pub loop-row-preserved : goal.loop-row-preserved
loop-row-preserved c = c.loop-row.invariant
