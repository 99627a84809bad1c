-- `notice::all_distinct` meets its contract. Assumes nothing.
use Rattle.notice.proofs.NoticeLaws.{Marked}
use Rattle.notice.proofs.all_distinct.Given as goal

abbrev pub invariant-loop-issue : goal.invariant-loop-issue
invariant-loop-issue l = Marked l.named l.met l.issue-index
