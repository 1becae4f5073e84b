use mathlib.Core.Path.{◌≡◌, refl}
use native.Mathlib.Omega.{arith}
use Rattle.std.proofs.Common.{◌≤◌, ◌<◌, ◌/◌, length, Err, rules}
use Rattle.reader.specs.Filling.{row_numbers, row_bytes}
use Rattle.reader.proofs.FillLaws.{refusal_told, refusal_kept, gives_told, gives_put, put_again, too_long, no_frame, bad_items, good_items, no_room, with_room, body_short, body_inside, listed_few}
use Rattle.reader.proofs.reading.fill.Goals as goal

pub returns-then-msg-gt8192-clause-told : goal.returns-then-msg-gt8192-clause-told
returns-then-msg-gt8192-clause-told c =
    let a = c.args in
    let e = too_long a.book.now a.msg.now a.room (omega (arith, c.if-msg-gt8192.true)) in
    refusal_told _ _ 2 0 0 e (rw c.at.ensures refl) (rw c.at.ensures refl) (rw c.at.ensures refl)

pub returns-then-msg-gt8192-clause-rows : goal.returns-then-msg-gt8192-clause-rows
returns-then-msg-gt8192-clause-rows c =
    let a = c.args in
    let e = too_long a.book.now a.msg.now a.room (omega (arith, c.if-msg-gt8192.true)) in
    (refusal_kept 6 row_numbers a.index.now _ 2 0 0 e, refusal_kept 12 row_bytes a.bytes.now _ 2 0 0 e)

pub returns-in_err-framed-clause-told : goal.returns-in_err-framed-clause-told
returns-in_err-framed-clause-told c =
    let a = c.args in
    let short : length a.msg.now ≤ 8192 = omega (arith, c.if-msg-gt8192.false) in
    let f = rw (c.part-book.ensures, c.in_err-framed.was) at c.frame.ensures in
    let e = no_frame a.book.now a.msg.now a.room short c.in_err-framed.field-0.0 f.0 f.1.0 f.1.1 in
    let q : c.from_residual.result ≡ Err c.in_err-framed.field-0.0 = search rules in
    rw q (refusal_told c.in_err-framed.field-0.0 _ _ _ _ e refl refl refl)

pub returns-in_err-framed-clause-rows : goal.returns-in_err-framed-clause-rows
returns-in_err-framed-clause-rows c =
    let a = c.args in
    let short : length a.msg.now ≤ 8192 = omega (arith, c.if-msg-gt8192.false) in
    let f = rw (c.part-book.ensures, c.in_err-framed.was) at c.frame.ensures in
    let e = no_frame a.book.now a.msg.now a.room short c.in_err-framed.field-0.0 f.0 f.1.0 f.1.1 in
    (refusal_kept 6 row_numbers a.index.now _ _ _ _ e, refusal_kept 12 row_bytes a.bytes.now _ _ _ _ e)

pub count_rows-requires : goal.count_rows-requires
count_rows-requires c =
    let a = c.args in
    let short : length a.msg.now ≤ 8192 = omega (arith, c.if-msg-gt8192.false) in
    let f = rw (c.part-book.ensures, c.in_ok-framed.was) at c.frame.ensures in
    let fr = c.in_ok-framed.framed in
    record {
      short = body_short a.book.now a.msg.now a.room short fr f.1 f.0;
      version = f.1.version;
      count = f.1.count;
      type = f.1.type;
      inside = body_inside a.book.now a.msg.now a.room short fr f.1 f.0;
      listed = listed_few a.book.now c.part-book.result.now c.message_list.result.now _ c.part-book.ensures c.message_list.ensures;
    }

pub returns-in_err-count-clause-told : goal.returns-in_err-count-clause-told
returns-in_err-count-clause-told c =
    let a = c.args in
    let short : length a.msg.now ≤ 8192 = omega (arith, c.if-msg-gt8192.false) in
    let f = rw (c.part-book.ensures, c.in_ok-framed.was) at c.frame.ensures in
    let fr = c.in_ok-framed.framed in
    let k = rw (c.message_list.ensures, c.kind-kind.ensures, c.part-book.ensures, c.in_err-count.was) at c.count_rows.ensures in
    let e = bad_items a.book.now a.msg.now a.room short fr f.1 f.0 c.in_err-count.field-0.0 k in
    let q : c.from_residual-in_err-count.result ≡ Err c.in_err-count.field-0.0 = search rules in
    rw q (refusal_told c.in_err-count.field-0.0 _ _ _ _ e refl refl refl)

pub returns-in_err-count-clause-rows : goal.returns-in_err-count-clause-rows
returns-in_err-count-clause-rows c =
    let a = c.args in
    let short : length a.msg.now ≤ 8192 = omega (arith, c.if-msg-gt8192.false) in
    let f = rw (c.part-book.ensures, c.in_ok-framed.was) at c.frame.ensures in
    let fr = c.in_ok-framed.framed in
    let k = rw (c.message_list.ensures, c.kind-kind.ensures, c.part-book.ensures, c.in_err-count.was) at c.count_rows.ensures in
    let e = bad_items a.book.now a.msg.now a.room short fr f.1 f.0 c.in_err-count.field-0.0 k in
    (refusal_kept 6 row_numbers a.index.now _ _ _ _ e, refusal_kept 12 row_bytes a.bytes.now _ _ _ _ e)

pub returns-then-room-count-clause-told : goal.returns-then-room-count-clause-told
returns-then-room-count-clause-told c =
    let a = c.args in
    let short : length a.msg.now ≤ 8192 = omega (arith, c.if-msg-gt8192.false) in
    let f = rw (c.part-book.ensures, c.in_ok-framed.was) at c.frame.ensures in
    let fr = c.in_ok-framed.framed in
    let k = rw (c.message_list.ensures, c.kind-kind.ensures, c.part-book.ensures, c.in_ok-count.was) at c.count_rows.ensures in
    let g = good_items a.book.now a.msg.now a.room short fr f.1 f.0 c.in_ok-count.count k in
    let h : a.room / 6 < c.in_ok-count.count = omega (arith, c.if-room-count.true) in
    let e = no_room a.book.now a.msg.now a.room short fr f.1 f.0 g.0 g.4 (rw g.3 at h) in
    refusal_told _ _ _ _ _ e (rw c.at-then-room-count.ensures refl) (rw c.at-then-room-count.ensures refl) (rw c.at-then-room-count.ensures refl)

pub returns-then-room-count-clause-rows : goal.returns-then-room-count-clause-rows
returns-then-room-count-clause-rows c =
    let a = c.args in
    let short : length a.msg.now ≤ 8192 = omega (arith, c.if-msg-gt8192.false) in
    let f = rw (c.part-book.ensures, c.in_ok-framed.was) at c.frame.ensures in
    let fr = c.in_ok-framed.framed in
    let k = rw (c.message_list.ensures, c.kind-kind.ensures, c.part-book.ensures, c.in_ok-count.was) at c.count_rows.ensures in
    let g = good_items a.book.now a.msg.now a.room short fr f.1 f.0 c.in_ok-count.count k in
    let h : a.room / 6 < c.in_ok-count.count = omega (arith, c.if-room-count.true) in
    let e = no_room a.book.now a.msg.now a.room short fr f.1 f.0 g.0 g.4 (rw g.3 at h) in
    (refusal_kept 6 row_numbers a.index.now _ _ _ _ e, refusal_kept 12 row_bytes a.bytes.now _ _ _ _ e)

pub put_message-requires : goal.put_message-requires
put_message-requires c =
    let a = c.args in
    let short : length a.msg.now ≤ 8192 = omega (arith, c.if-msg-gt8192.false) in
    let f = rw (c.part-book.ensures, c.in_ok-framed.was) at c.frame.ensures in
    let fr = c.in_ok-framed.framed in
    record {
      short = body_short a.book.now a.msg.now a.room short fr f.1 f.0;
      version = f.1.version;
      count = f.1.count;
      type = f.1.type;
      inside = body_inside a.book.now a.msg.now a.room short fr f.1 f.0;
      listed = listed_few a.book.now c.part-book.result.now c.message_list.result.now _ c.part-book.ensures c.message_list.ensures;
    }

pub returns-clause-told : goal.returns-clause-told
returns-clause-told c =
    let a = c.args in
    let short : length a.msg.now ≤ 8192 = omega (arith, c.if-msg-gt8192.false) in
    let f = rw (c.part-book.ensures, c.in_ok-framed.was) at c.frame.ensures in
    let fr = c.in_ok-framed.framed in
    let k = rw (c.message_list.ensures, c.kind-kind.ensures, c.part-book.ensures, c.in_ok-count.was) at c.count_rows.ensures in
    let g = good_items a.book.now a.msg.now a.room short fr f.1 f.0 c.in_ok-count.count k in
    let h : c.in_ok-count.count ≤ a.room / 6 = omega (arith, c.if-room-count.false) in
    let e = with_room a.book.now a.msg.now a.room short fr f.1 f.0 g.0 g.4 (rw g.3 at h) in
    gives_told _ _ _ e g.3

pub returns-clause-rows : goal.returns-clause-rows
returns-clause-rows c =
    let a = c.args in
    let short : length a.msg.now ≤ 8192 = omega (arith, c.if-msg-gt8192.false) in
    let f = rw (c.part-book.ensures, c.in_ok-framed.was) at c.frame.ensures in
    let fr = c.in_ok-framed.framed in
    let k = rw (c.message_list.ensures, c.kind-kind.ensures, c.part-book.ensures, c.in_ok-count.was) at c.count_rows.ensures in
    let g = good_items a.book.now a.msg.now a.room short fr f.1 f.0 c.in_ok-count.count k in
    let h : c.in_ok-count.count ≤ a.room / 6 = omega (arith, c.if-room-count.false) in
    let e = with_room a.book.now a.msg.now a.room short fr f.1 f.0 g.0 g.4 (rw g.3 at h) in
    let m = rw (c.message_list.ensures, c.kind-kind.ensures, c.part-book.ensures) at c.put_message.ensures in
    let p = put_again _ fr _ 0 g.0 g.1 g.2 _ _ _ _ _ m in
    (gives_put 6 row_numbers a.index.now _ _ _ e p.0, gives_put 12 row_bytes a.bytes.now _ _ _ e p.1)
