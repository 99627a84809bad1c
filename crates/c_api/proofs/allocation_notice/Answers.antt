-- `c_api::allocation_notice` meets its contract. Assumes nothing.
use Rattle.std.proofs.Common.{rules}
use Rattle.c_api.proofs.ReturnLaws.{for-c}
use Rattle.c_api.proofs.allocation_notice.Goals as goal

pub returns : goal.returns
returns c = search (for-c, rules)
