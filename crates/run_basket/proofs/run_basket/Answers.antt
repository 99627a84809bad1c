-- `run_basket::run_basket` meets its contract. Assumes nothing.
use Rattle.run_basket.proofs.BasketLaws.{allocate-asked}
use Rattle.run_basket.proofs.BasketLaws.{basket-done}
use Rattle.run_basket.proofs.run_basket.Goals as goal

pub allocate-requires : goal.allocate-requires
allocate-requires c =
    allocate-asked _ _ _ _ _ _ _ c.requires _ _ c.mark_issues.ensures c.copy_from_slice.ensures.after c.plan_basket.ensures c.as_slice.ensures.value

pub returns-clause-done : goal.returns-clause-done
returns-clause-done c = λ s.
    basket-done _ _ _ _ _ _ _ s _ _ c.mark_issues.ensures c.copy_from_slice.ensures.after c.plan_basket.ensures c.as_slice.ensures.value c.allocate.ensures.done
