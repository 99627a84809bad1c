-- `run_usable::usable_row` meets its contract. Assumes nothing.
use Rattle.std.proofs.Common.{◌-◌, length}
use Rattle.run_usable.proofs.StockLaws.{UsableTo}
use Rattle.run_usable.proofs.usable_row.Given as goal

abbrev pub invariant-loop-i : goal.invariant-loop-i
invariant-loop-i l = UsableTo l.inside l.allocable l.used l.quotes l.initial.row l.row l.all.0 l.i

abbrev pub decreases-loop-i : goal.decreases-loop-i
decreases-loop-i l = length l.initial.row - l.i
