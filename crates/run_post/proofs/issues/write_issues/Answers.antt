use Rattle.std.proofs.Common.{arith}
use Rattle.run_post.proofs.IssueLaws.{issues-none, issue-asks, issues-more, issues-all}
use Rattle.run_post.proofs.issues.write_issues.Goals as goal

pub loop-issue-init : goal.loop-issue-init
loop-issue-init c = issues-none _ _ _ _ _

pub write_issue-requires : goal.write_issue-requires
write_issue-requires c = issue-asks _ _ _ _ _ c.requires c.loop-issue.invariant (omega arith)

pub loop-issue-preserved : goal.loop-issue-preserved
loop-issue-preserved c =
    issues-more _ _ _ _ _ c.requires c.loop-issue.invariant (omega arith) c.write_issue.ensures

pub shape_of-book : goal.shape_of-book
shape_of-book c = c.loop-issue.invariant.moved.size

pub shape_of-used : goal.shape_of-used
shape_of-used c = c.loop-issue.invariant.gone.size

pub returns : goal.returns
returns c = issues-all _ _ _ _ _ c.requires c.loop-issue.invariant (omega arith)
