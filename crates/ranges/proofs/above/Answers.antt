-- `ranges::above` meets its contract. Assumes nothing.
use Rattle.std.proofs.Common.{refl, arith}
use Rattle.ranges.proofs.ScanLaws.{above-is}
use Rattle.ranges.proofs.above.Goals as goal

pub returns : goal.returns
returns c = above-is _ _ (omega arith) (omega arith) refl
