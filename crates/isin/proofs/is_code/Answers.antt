-- `isin::is_code` meets its contract. Two tests in a row. Assumes nothing.
use Rattle.std.proofs.Common.{arith}
use Rattle.rule.specs.Isin.{is_code}
use Rattle.isin.proofs.is_code.Goals as goal

pub returns-then-of_japan : goal.returns-then-of_japan
unfolding is_code
returns-then-of_japan c = grind arith

pub returns-else-of_japan : goal.returns-else-of_japan
unfolding is_code
returns-else-of_japan c = grind arith
