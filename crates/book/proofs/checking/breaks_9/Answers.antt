use Rattle.std.proofs.Common.{rules}
use Rattle.book.proofs.Checks.{seen_start, rule9_else, rule9_message}
use Rattle.book.proofs.checking.breaks_9.Goals as goal

pub returns-then-not-is : goal.returns-then-not-is
returns-then-not-is c = rule9_else _ _ _ c.is.ensures c.if-not-is.true

pub returns : goal.returns
returns c = rule9_message _ _ _ c.is.ensures c.if-not-is.false _ _ _ c.list.ensures (c.open_list.ensures _ (seen_start _ _ (search rules) (c.fill.ensures.after (λ y e. search rules))))
