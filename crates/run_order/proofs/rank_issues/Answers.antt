use Rattle.std.proofs.Common.{arith}
use Rattle.run_order.proofs.OrderLaws.{numbered-room, numbered-more, numbered-sortable}
use Rattle.run_order.proofs.rank_issues.Goals as goal

pub push-requires : goal.push-requires
push-requires c = (omega arith, numbered-room c.loop-issue.invariant (omega (arith, c.requires.few)))

pub loop-issue-preserved : goal.loop-issue-preserved
loop-issue-preserved c = numbered-more c.loop-issue.invariant c.push.ensures.items

pub sort-requires : goal.sort-requires
sort-requires c = numbered-sortable c.loop-issue.invariant c.args.notified.now (omega arith) c.as_mut_slice.ensures.value
