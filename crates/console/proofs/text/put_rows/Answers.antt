use Rattle.std.proofs.Common.{◌++◌, [], ◌∷◌, ap, ◌∙◌, List, ℕ, rules}
use Rattle.std.proofs.lemmas.Result.{IfOk-equal}
use Rattle.console.specs.Program.{line, row_lines}
use Rattle.console.proofs.Lines.{rows_start, row_long, rows_next, rows_end, map_same}
use Rattle.console.proofs.text.put_rows.Goals as goal

pub loop-row-init : goal.loop-row-init
loop-row-init c = ap (λ q. c.args.out.now.items ++ row_lines c.args.count q) (rows_start _ _ _ _ c.as_chunks.ensures.front c.min.ensures)

pub loop-row-preserved : goal.loop-row-preserved
loop-row-preserved c =
    let chunks = c.as_chunks.ensures.front in
    rows_next _ _ _ _ chunks _ _ _ _ _ c.loop-row.invariant c.loop-row-test.true
    (map_same _ _ _ _ _ c.map.ensures.items (row_long c.args.count _ _ _ chunks _ c.loop-row-test.true) (λ p q k y ran. search rules)) (c.in_ok-put_line.ensures)

pub returns : goal.returns
returns c = IfOk-equal _ _ _ _ c.put_line-2.ensures (ap (λ (o : List ℕ). o ++ line (c.args.count ∷ [])) c.in_ok-extend_from_slice.ensures.items ∙ rows_end _ _ _ _ c.as_chunks.ensures.front _ _ _ c.loop-row.invariant c.loop-row-test.false)
