use mathlib.Core.Path.{sym, ◌∙◌}
use native.Mathlib.Omega.{arith}
use Rattle.reader.proofs.ListLaws.{listed_low}
use Rattle.reader.proofs.lists.lists_tag.Goals as goal

pub returns : goal.returns
returns c = (c.has_tag.ensures, λ e. listed_low c.args.tag c.args.list.now (λ i. omega (arith, c.type_inv.list i)) (sym c.has_tag.ensures ∙ e))
