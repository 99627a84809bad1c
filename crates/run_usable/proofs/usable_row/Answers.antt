-- `run_usable::usable_row` meets its contract. Assumes nothing.
use Rattle.std.proofs.Common.{arith}
use Rattle.run_usable.proofs.StockLaws.{usable-none, few, small, usable-more, usable-all}
use Rattle.run_usable.proofs.usable_row.Goals as goal

pub loop-i-init : goal.loop-i-init
loop-i-init c = usable-none _ _ _ _ _

pub add_value-all-requires-clause-few : goal.add_value-all-requires-clause-few
add_value-all-requires-clause-few c = few c.requires c.loop-i.invariant (omega arith) c.usable-lots.ensures

pub add_value-all-requires-clause-small : goal.add_value-all-requires-clause-small
add_value-all-requires-clause-small c = small c.requires c.loop-i.invariant (omega arith) c.usable-lots.ensures

pub loop-i-preserved : goal.loop-i-preserved
loop-i-preserved c = usable-more c.requires c.loop-i.invariant (omega arith) c.usable-lots.ensures c.index-quotes-i.is c.add_value-all.ensures

pub returns : goal.returns
returns c = usable-all c.requires c.loop-i.invariant (omega arith)
