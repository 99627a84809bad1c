-- `ranges::row_at_most` meets its contract. Assumes nothing.
use Rattle.std.proofs.Common.{ℕ, leb, rules}
use Rattle.ranges.proofs.row_at_most.Goals as goal

pub returns : goal.returns
returns c = c.joined.ensures 63 (λ (x : ℕ). leb x c.args.bound) (λ x y l p. search rules)
