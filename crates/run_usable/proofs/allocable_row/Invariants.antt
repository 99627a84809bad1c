-- `run_usable::allocable_row` meets its contract. Assumes nothing.
use Rattle.std.proofs.Common.{◌≡◌, ◌-◌, length}
use Rattle.lists.proofs.RowLaws.{Changed}
use Rattle.run_usable.specs.Stock.{allocable_in}
use Rattle.run_usable.proofs.allocable_row.Given as goal

abbrev pub invariant-loop-i : goal.invariant-loop-i
invariant-loop-i l = Changed (λ j c. c ≡ allocable_in l.book l.participant j) l.initial.row l.row l.i

abbrev pub decreases-loop-i : goal.decreases-loop-i
decreases-loop-i l = length l.initial.row - l.i
