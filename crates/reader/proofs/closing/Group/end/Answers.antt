use mathlib.Core.Path.{refl}
use Rattle.std.proofs.Common.{◌≡◌, sym, ◌∙◌, true, false}
use Rattle.reader.specs.Fields.{peek}
use Rattle.reader.specs.Items.{is_first}
use Rattle.reader.specs.Filling.{f_closed}
use Rattle.reader.specs.Met.{list_of}
use Rattle.reader.proofs.closing.Group.end.Goals as goal

pub returns-then-is_first : goal.returns-then-is_first
unfolding f_closed
returns-then-is_first c = λ s w p. let e : is_first (list_of c.args.self.now) (peek s) ≡ true = rw p (sym c.is_first.ensures ∙ c.if-is_first.true) in rw (e, c.at.ensures) (refl, (refl, refl, refl))

pub returns : goal.returns
unfolding f_closed
returns c = λ s w p. let e : is_first (list_of c.args.self.now) (peek s) ≡ false = rw p (sym c.is_first.ensures ∙ c.if-is_first.false) in rw e (refl, refl, refl, refl)
