use Rattle.std.proofs.Common.{arith}
use Rattle.run.proofs.RanLaws.{baskets-none, baskets-more, baskets-all}
use Rattle.run.proofs.whole.run_baskets.Goals as goal

pub loop-k-init : goal.loop-k-init
loop-k-init c = baskets-none _ _ _ _ c.requires c.default-orders.ensures

pub loop-k-preserved : goal.loop-k-preserved
loop-k-preserved c =
    baskets-more _ _ _ _ c.requires c.loop-k.invariant (omega (arith, c.loop-k-test.true)) c.run_basket.ensures.done c.run_basket.ensures.same

pub returns-clause-done : goal.returns-clause-done
returns-clause-done c = baskets-all _ _ _ _ c.requires c.loop-k.invariant c.loop-k-test.false
