-- `turns::Standing::further_lots` meets its contract. Assumes nothing.
use Rattle.std.proofs.Common.{arith}
use Rattle.turns.proofs.TurnLaws.{rest_below, further-most, further}
use Rattle.turns.proofs.Standing.further_lots.Goals as goal

pub sub-requires : goal.sub-requires
sub-requires c = omega (arith, rest_below c.args.self.part c.requires c.others-rest.ensures)

pub sub-requires-2 : goal.sub-requires-2
sub-requires-2 c = further-most c.args.self.part c.requires c.others-rest.ensures c.sub.ensures c.fewest.ensures

pub returns : goal.returns
returns c = further c.args.self.part c.requires c.others-rest.ensures c.sub.ensures c.fewest.ensures c.sub-2.ensures
