use mathlib.Core.Path.{sym, ◌∙◌}
use Rattle.reader.proofs.Fielding.{tagged_good, torn_zero, torn_empty, torn_other}
use Rattle.reader.proofs.fields.tag_at.Goals as goal
use Rattle.reader.proofs.fields.tag_at.Goals.{else-byte_at-ne48-via-then-byte_at-ne48+then-at-n+else-byte_at-eq61, else-byte_at-ne48-via-then-byte_at-ne48+else-at-n, else-byte_at-ne48-via-else-byte_at-ne48}

pub returns-then-byte_at-eq61 : goal.returns-then-byte_at-eq61
returns-then-byte_at-eq61 c =
    let n = c.number_at-n in
    tagged_good c.args.m.now c.args.at n.result.value n.result.end n.ensures.0 n.ensures.1 (λ x. c.if-byte_at-ne48.true (c.byte_at.ensures ∙ x)) c.if-at-n.true (sym c.byte_at-then-at-n.ensures ∙ c.if-byte_at-eq61.true)

pub returns : goal.returns
returns c =
    let n = c.number_at-n in
    elim c.else-byte_at-ne48.branch [
      | else-byte_at-ne48-via-then-byte_at-ne48+then-at-n+else-byte_at-eq61 w ↦
          torn_other c.args.m.now c.args.at n.result.value n.result.end n.ensures.0 n.ensures.1 (λ x. w.if-byte_at-eq61.false (w.byte_at-then-at-n.ensures ∙ x))
      | else-byte_at-ne48-via-then-byte_at-ne48+else-at-n w ↦ torn_empty c.args.m.now c.args.at n.result.value n.result.end n.ensures.0 n.ensures.1 w.if-at-n.false
      | else-byte_at-ne48-via-else-byte_at-ne48 w ↦ torn_zero c.args.m.now c.args.at n.result.value n.result.end n.ensures.0 n.ensures.1 (sym c.byte_at.ensures ∙ w.if-byte_at-ne48.false)
    ]
