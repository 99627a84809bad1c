use Rattle.std.proofs.Common.{arith}
use Rattle.close.proofs.CloseLaws.{received_none, received_more, received-all}
use Rattle.close.proofs.write_receipts.Goals as goal

pub loop-p-init : goal.loop-p-init
loop-p-init c = received_none _ _ c.requires

pub loop-p-preserved : goal.loop-p-preserved
loop-p-preserved c =
    let tally = c.lots-tally.ensures in
    received_more _ _ c.requires c.loop-p-test.true c.loop-p.invariant tally.cells tally.size _ c.copy_with.auto.cells c.copy_with.ensures

pub returns : goal.returns
returns c = received-all _ _ c.requires (omega arith) c.loop-p.invariant
