-- `ranges::bits_of_four` meets its contract. Assumes nothing.
use Rattle.ranges.proofs.RangeLaws.{four_is}
use Rattle.ranges.proofs.bits_of_four.Goals as goal

pub returns : goal.returns
returns c = let a = c.args in four_is a.row.now a.at
