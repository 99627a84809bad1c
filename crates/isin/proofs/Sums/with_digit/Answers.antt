-- `isin::Sums::with_digit` meets its contract. The digits of the double are what `crossed` ensures. Assumes nothing.
use Rattle.std.proofs.Common.{rules}
use Rattle.isin.specs.Summing.{with_digit}
use Rattle.isin.proofs.Sums.with_digit.Goals as goal

pub returns : goal.returns
unfolding with_digit
returns c = (rw (← c.crossed-doubled.ensures), search rules)
