use Rattle.std.proofs.Common.{arith}
use Rattle.forced.proofs.ChoiceLaws.{best-more, best-all}
use Rattle.forced.proofs.most_notified.Goals as goal

pub loop-i-preserved : goal.loop-i-preserved
loop-i-preserved c = best-more _ _ (omega arith) (omega arith) c.loop-i.invariant c.with_notified-best.ensures

pub returns : goal.returns
returns c = best-all _ _ (omega arith) c.loop-i.invariant
