-- `run::whole::run` meets its contract. Assumes nothing.
use Rattle.std.proofs.Common.{arith, refl, rules}
use Rattle.run.proofs.RanLaws.{quotes-lent, run-done, runs-few}
use Rattle.run.proofs.whole.run.Goals as goal

pub fill-requires : goal.fill-requires
fill-requires c = quotes-lent _ _ _ _ c.requires _ refl c.terms.ensures.size c.terms.ensures.cells

pub overflow_add-book : goal.overflow_add-book
overflow_add-book c = omega (arith, runs-few _ _ _ _ c.requires c.run_baskets.ensures.done c.clear_notices.ensures)

pub returns : goal.returns
returns c = run-done _ _ _ _ c.requires c.run_baskets.ensures.done c.clear_notices.ensures (search rules) (search rules)
