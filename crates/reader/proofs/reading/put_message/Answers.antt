use mathlib.Core.Path.{◌≡◌}
use native.Mathlib.Omega.{arith}
use Rattle.std.proofs.Common.{Err, rules}
use Rattle.reader.specs.Filling.{row_numbers, row_bytes}
use Rattle.reader.specs.Met.{page_of}
use Rattle.reader.proofs.StageLaws.{heads_put, message_bad, message_ask, message_done}
use Rattle.reader.proofs.reading.put_message.Goals as goal

pub returns-in_err-step : goal.returns-in_err-step
returns-in_err-step c =
    let a = c.args in
    let r = c.requires in
    let ej = rw (c.version.ensures, c.length.ensures, c.kind.ensures, c.message-within.ensures) at (heads_put 6 row_numbers a.index.now _ _ _ _ _ _ c.put_field.ensures.0 c.put_field-2.ensures.0 c.put_field-3.ensures.0) in
    let eu = rw (c.version.ensures, c.length.ensures, c.kind.ensures, c.message-within.ensures) at (heads_put 12 row_bytes a.bytes.now _ _ _ _ _ _ c.put_field.ensures.1 c.put_field-2.ensures.1 c.put_field-3.ensures.1) in
    let q : c.from_residual.result ≡ Err c.in_err-step.field-0.0 = search rules in
    rw q (message_bad (page_of a.scan.now.page) a.scan.now.watch a.framed a.scan.now.m.now a.index.now a.bytes.now _ _ ej eu (omega (arith, r.type)) r.inside _ _ _ (rw c.in_err-step.was at c.own.ensures))

pub returns-in_default : goal.returns-in_default
returns-in_default c =
    let a = c.args in
    let r = c.requires in
    let ej = rw (c.version.ensures, c.length.ensures, c.kind.ensures, c.message-within.ensures) at (heads_put 6 row_numbers a.index.now _ _ _ _ _ _ c.put_field.ensures.0 c.put_field-2.ensures.0 c.put_field-3.ensures.0) in
    let eu = rw (c.version.ensures, c.length.ensures, c.kind.ensures, c.message-within.ensures) at (heads_put 12 row_bytes a.bytes.now _ _ _ _ _ _ c.put_field.ensures.1 c.put_field-2.ensures.1 c.put_field-3.ensures.1) in
    rw c.in_default.is (message_ask (page_of a.scan.now.page) a.scan.now.watch a.framed a.scan.now.m.now a.index.now a.bytes.now _ _ ej eu (omega (arith, r.type)) r.inside _ _ _ (rw (c.in_ok-step.was, c.in_default.is) at c.own.ensures))

pub returns : goal.returns
returns c =
    let a = c.args in
    let r = c.requires in
    let ej = rw (c.version.ensures, c.length.ensures, c.kind.ensures, c.message-within.ensures) at (heads_put 6 row_numbers a.index.now _ _ _ _ _ _ c.put_field.ensures.0 c.put_field-2.ensures.0 c.put_field-3.ensures.0) in
    let eu = rw (c.version.ensures, c.length.ensures, c.kind.ensures, c.message-within.ensures) at (heads_put 12 row_bytes a.bytes.now _ _ _ _ _ _ c.put_field.ensures.1 c.put_field-2.ensures.1 c.put_field-3.ensures.1) in
    message_done (page_of a.scan.now.page) a.scan.now.watch a.framed a.scan.now.m.now a.index.now a.bytes.now _ _ ej eu (omega (arith, r.type)) r.inside _ _ _ _ _ _ (rw (c.in_ok-step.was, c.in-Done.is) at c.own.ensures) (rw c.message-within.ensures at c.put_field-4.ensures.0) (rw c.message-within.ensures at c.put_field-4.ensures.1)
