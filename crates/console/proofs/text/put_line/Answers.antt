use Rattle.std.proofs.Common.{◌≡◌, ◌∙◌, arith, ◌++◌, [], ◌∷◌, get_or}
use Rattle.numbers.specs.Decimal.{render}
use Rattle.console.proofs.Lines.{put_first, put_next, put_end}
use Rattle.console.proofs.text.put_line.Goals as goal
use Rattle.console.proofs.text.put_line.Goals.{then-i-gt0+in_ok-push, else-i-gt0}

pub loop-i-preserved : goal.loop-i-preserved
loop-i-preserved c =
    let n = get_or c.args.numbers.now c.loop-i.i 0 in
    elim c.if-i-gt0.branch [
      | then-i-gt0+in_ok-push w ↦
          let e : c.put_number.new.out.items ≡ (c.loop-i.out.items ++ 32 ∷ []) ++ render n = cc (c.in_ok-put_number.ensures, w.in_ok-push.ensures.items) in
          rw e (put_next _ _ _ _ c.loop-i.invariant w.if-i-gt0.true c.loop-i-test.true)
      | else-i-gt0 w ↦
          let e : c.put_number.new.out.items ≡ c.loop-i.out.items ++ render n = cc c.in_ok-put_number.ensures in
          rw e (put_first _ _ _ _ c.loop-i.invariant (omega arith) c.loop-i-test.true)
    ]

pub returns : goal.returns
returns c = c.in_ok-push-2.ensures.items ∙ put_end _ _ _ _ c.loop-i.invariant c.loop-i-test.false
