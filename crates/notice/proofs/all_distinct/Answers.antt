use Rattle.std.proofs.Common.{arith}
use Rattle.notice.proofs.NoticeLaws.{marked-none, marked_more, marked-twice, marked_all}
use Rattle.notice.proofs.all_distinct.Goals as goal

pub loop-issue-init : goal.loop-issue-init
loop-issue-init c = marked-none _

pub bounds-met-place : goal.bounds-met-place
bounds-met-place c = c.requires.below c.loop-issue.issue-index (omega arith)

pub returns-then-met-place : goal.returns-then-met-place
returns-then-met-place c = marked-twice _ (omega arith) (c.requires.below c.loop-issue.issue-index (omega arith)) c.loop-issue.invariant c.if-met-place.true

pub bounds-met-place-in-loop-issue : goal.bounds-met-place-in-loop-issue
bounds-met-place-in-loop-issue c = c.requires.below c.loop-issue.issue-index (omega arith)

pub loop-issue-preserved : goal.loop-issue-preserved
loop-issue-preserved c = marked_more _ (omega arith) (c.requires.below c.loop-issue.issue-index (omega arith)) c.loop-issue.invariant c.if-met-place.false

pub returns : goal.returns
returns c = marked_all _ (omega arith) c.loop-issue.invariant
