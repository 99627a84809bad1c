-- `isin::Sums::with_capital` meets its contract. Assumes nothing.
use Rattle.std.proofs.Common.{arith}
use Rattle.isin.proofs.CodeLaws.{at_once}
use Rattle.isin.proofs.Sums.with_capital.Goals as goal

pub returns : goal.returns
returns c = (at_once _ _ c.requires.0 c.requires.1, record { twice = omega arith; once = omega arith })
