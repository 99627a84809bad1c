-- `ranges::terms_are_in_range` meets its contract: where a test failed, so does the conjunction. Assumes nothing.
use Rattle.std.proofs.Common.{arith}
use Rattle.std.proofs.lemmas.Bool.Decides.{nat_tests}
use Rattle.rule.specs.Sound.{terms_fit, marks_fit}
use Rattle.ranges.proofs.terms_are_in_range.Goals as goal

pub returns-else-redeemed-le1 : goal.returns-else-redeemed-le1
unfolding terms_fit marks_fit
returns-else-redeemed-le1 c = grind (arith, nat_tests)
