-- `ranges::bits_of` meets its contract. Assumes nothing.
use Rattle.std.proofs.Common.{ℕ, leb, rules}
use Rattle.ranges.proofs.bits_of.Goals as goal

pub returns : goal.returns
returns c = c.joined.ensures 1 (λ (x : ℕ). leb x 1) (λ x y l p. search rules)
