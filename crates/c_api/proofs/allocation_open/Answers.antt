-- `c_api::allocation_open` meets its contract. Assumes nothing.
use Rattle.std.proofs.Common.{rules}
use Rattle.c_api.proofs.ReturnLaws.{for-c}
use Rattle.c_api.proofs.allocation_open.Goals as goal

pub returns : goal.returns
returns c = search (for-c, rules)
