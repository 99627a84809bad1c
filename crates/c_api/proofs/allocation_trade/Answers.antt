-- `c_api::allocation_trade` meets its contract. Assumes nothing.
use Rattle.std.proofs.Common.{rules}
use Rattle.c_api.proofs.ReturnLaws.{for-c}
use Rattle.c_api.proofs.allocation_trade.Goals as goal

pub returns : goal.returns
returns c = search (for-c, rules)
