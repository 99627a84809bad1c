-- `run_post::issues::write_issues` meets its contract. Assumes nothing.
use Rattle.std.proofs.Common.{◌-◌}
use Rattle.run_post.proofs.IssueLaws.{WrittenTo}
use Rattle.run_post.proofs.issues.write_issues.Given as goal

abbrev pub invariant-loop-issue : goal.invariant-loop-issue
invariant-loop-issue l = WrittenTo l.initial.book l.initial.used l.initial.lists l.m l.lots l.issue l.book l.used l.lists

abbrev pub decreases-loop-issue : goal.decreases-loop-issue
decreases-loop-issue l = l.issue-end - l.issue
