-- `run_usable::mark_issues` meets its contract. Assumes nothing.
use Rattle.std.proofs.Common.{◌-◌, length}
use Rattle.run_usable.proofs.StockLaws.{MarkedTo}
use Rattle.run_usable.proofs.mark_issues.Given as goal

abbrev pub invariant-loop-i : goal.invariant-loop-i
invariant-loop-i l = MarkedTo l.book l.basket l.initial.row l.row l.i

abbrev pub decreases-loop-i : goal.decreases-loop-i
decreases-loop-i l = length l.initial.row - l.i
