-- `run_order::rank_issues` meets its contract: so many issues are numbered. Assumes nothing.
use Rattle.std.proofs.Common.{◌-◌, length}
use Rattle.run_order.proofs.OrderLaws.{NumberedTo}
use Rattle.run_order.proofs.rank_issues.Given as goal

abbrev pub invariant-loop-issue : goal.invariant-loop-issue
invariant-loop-issue l = NumberedTo l.ranks.items l.issue

abbrev pub decreases-loop-issue : goal.decreases-loop-issue
decreases-loop-issue l = length l.notified - l.issue
