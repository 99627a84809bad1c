use Rattle.std.proofs.Common.{rules}
use Rattle.run.proofs.RanLaws.{cleared_more, cleared-all}
use Rattle.run.proofs.whole.clear_notices.Goals as goal

pub loop-p-preserved : goal.loop-p-preserved
loop-p-preserved c = cleared_more _ c.requires c.loop-p.invariant c.loop-p-test.true c.lots_row-at.ensures _ (c.fill.ensures.after (λ y e. search rules))

pub returns : goal.returns
returns c = cleared-all _ c.requires c.loop-p.invariant c.loop-p-test.false
