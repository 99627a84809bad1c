use Rattle.std.proofs.Common.{arith, refl}
use Rattle.run_usable.proofs.StockLaws.{allocable-more}
use Rattle.run_usable.proofs.allocable_rows.Goals as goal

pub loop-p-preserved : goal.loop-p-preserved
loop-p-preserved c =
    let s = c.requires in
    allocable-more _ _ c.row_start-at.ensures (omega (arith, s.participants, c.loop-p-test.true)) refl s.issues c.allocable_row.ensures c.loop-p.invariant
