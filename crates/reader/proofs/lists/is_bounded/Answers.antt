use Rattle.std.proofs.Common.{arith}
use Rattle.reader.proofs.ListLaws.{large_free}
use Rattle.reader.proofs.lists.is_bounded.Goals as goal

pub returns-in_default : goal.returns-in_default
returns-in_default c = large_free _ _ (λ i. (c.type_inv.book i).fits) (omega (arith, c.in_default.ensures))
