-- `c_api::allocation_run` meets its contract. Assumes nothing.
use Rattle.std.proofs.Common.{rules}
use Rattle.c_api.proofs.ReturnLaws.{for-c, run_fits}
use Rattle.c_api.proofs.allocation_run.Goals as goal

pub returned_run-requires : goal.returned_run-requires
returned_run-requires c =
    run_fits _ _ _ _ (λ j. search rules) _ _ c.run.ensures

pub returns : goal.returns
returns c = search (for-c, rules)
