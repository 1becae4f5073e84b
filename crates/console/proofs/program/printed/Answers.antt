use Rattle.std.proofs.Common.{◌∙◌, ap}
use Rattle.console.proofs.Inputs.{printed_ok, printed_err}
use Rattle.console.proofs.program.printed.Goals as goal
use Rattle.console.proofs.program.printed.Goals.{in-Ok+in_ok-index-in-Ok+in_ok-put_answer-in-Ok, in-Err+in_ok-put_refusal-in-Err}

pub returns : goal.returns
returns c =
    elim c.match-split.branch [
      | in-Ok+in_ok-index-in-Ok+in_ok-put_answer-in-Ok w ↦ printed_ok _ _ _ _ _ w.in-Ok.ensures c.new-out.ensures.items (ap (λ v. v.items) w.out-is ∙ w.in_ok-put_answer-in-Ok.ensures)
      | in-Err+in_ok-put_refusal-in-Err w ↦ printed_err _ _ _ _ _ w.in-Err.ensures w.into.ensures c.new-out.ensures.items (ap (λ v. v.items) w.out-is ∙ w.in_ok-put_refusal-in-Err.ensures)
    ]
