-- `run::whole::clear_notices` meets its contract. Assumes nothing.
use Rattle.std.proofs.Common.{◌-◌}
use Rattle.run.proofs.RanLaws.{ClearedTo}
use Rattle.run.proofs.whole.clear_notices.Given as goal

abbrev pub invariant-loop-p : goal.invariant-loop-p
invariant-loop-p l = ClearedTo l.initial.book l.book l.p

abbrev pub decreases-loop-p : goal.decreases-loop-p
decreases-loop-p l = l.participants - l.p
