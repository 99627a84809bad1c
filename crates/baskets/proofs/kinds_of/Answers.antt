-- `baskets::kinds_of` meets its contract: the table's rows, and no basket beyond them. Assumes nothing.
use Rattle.std.proofs.Common.{arith}
use Rattle.lists.specs.Tests.{member}
use Rattle.rule.specs.Baskets.{composition}
use Rattle.baskets.proofs.CompositionLaws.{composed, no-kinds, kinds-are}
use Rattle.baskets.proofs.kinds_of.Goals as goal

pub returns-then-basket-gt6 : goal.returns-then-basket-gt6
returns-then-basket-gt6 c = no-kinds _ (omega arith)

pub returns : goal.returns
unfolding composed composition member
returns c = kinds-are _ (omega arith) _
