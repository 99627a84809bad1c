-- `run_usable::allocable_rows` meets its contract. Assumes nothing.
use Rattle.std.proofs.Common.{◌-◌}
use Rattle.run_usable.proofs.StockLaws.{AllocableTo}
use Rattle.run_usable.proofs.allocable_rows.Given as goal

abbrev pub invariant-loop-p : goal.invariant-loop-p
invariant-loop-p l = AllocableTo l.book l.cells l.p

abbrev pub decreases-loop-p : goal.decreases-loop-p
decreases-loop-p l = l.participants - l.p
