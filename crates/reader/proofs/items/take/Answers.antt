use Rattle.std.proofs.Common.{◌≡◌, Err, rules}
use Rattle.reader.proofs.items.take.Goals as goal

pub returns-in_err-taken : goal.returns-in_err-taken
returns-in_err-taken c =
    let q : c.from_residual.result ≡ Err c.in_err-taken.field-0.0 = search rules in
    rw q (rw c.in_err-taken.was at c.grab.ensures)

pub returns : goal.returns
returns c = (c.in_ok-taken.taken, rw c.in_ok-taken.was at c.grab.ensures, c.count_in.ensures, c.put_taken.ensures.2, c.put_taken.ensures.0, c.put_taken.ensures.1)
