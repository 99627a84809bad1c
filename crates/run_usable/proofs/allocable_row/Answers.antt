use Rattle.std.proofs.Common.{arith}
use Rattle.lists.proofs.RowLaws.{changed-more}
use Rattle.run_usable.proofs.StockLaws.{allocable-cell}
use Rattle.run_usable.proofs.allocable_row.Goals as goal

pub loop-i-preserved : goal.loop-i-preserved
loop-i-preserved c =
    changed-more _ _ (omega arith)
    (allocable-cell _ _ _ (omega arith) c.terms-issues.ensures.cells _ c.lots-notices.ensures.cells c.lots-receipts.ensures.cells c.of.ensures c.allocable-lots.ensures) c.loop-i.invariant
