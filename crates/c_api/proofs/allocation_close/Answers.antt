-- `c_api::allocation_close` meets its contract. Assumes nothing.
use Rattle.std.proofs.Common.{rules}
use Rattle.c_api.proofs.ReturnLaws.{for-c}
use Rattle.c_api.proofs.allocation_close.Goals as goal

pub returns : goal.returns
returns c = search (for-c, rules)
