use Rattle.std.proofs.Common.{◌++◌, ap, List, ℕ}
use Rattle.std.proofs.lemmas.Result.{IfOk-equal}
use Rattle.console.proofs.Answered.{rows_put, refusal_put}
use Rattle.console.proofs.program.put_answer.Goals as goal

pub returns-in-Ok : goal.returns-in-Ok
returns-in-Ok c =
    let a = c.args in
    IfOk-equal _ _ _ _ c.put_rows.ensures (ap (λ (t : List ℕ). a.out.now.items ++ t) (rows_put a.book.now a.message.now a.index.now c.requires _ _ c.in-Ok.ensures.told c.in-Ok.ensures.index))

pub returns-in-Err : goal.returns-in-Err
returns-in-Err c =
    let a = c.args in
    IfOk-equal _ _ _ _ c.put_refusal.ensures (ap (λ (t : List ℕ). a.out.now.items ++ t) (refusal_put a.book.now a.message.now a.index.now c.requires c.in-Err.field-0 _ _ c.in-Err.ensures.told c.into.ensures c.tag.ensures))
