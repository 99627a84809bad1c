-- `sound::Limit::holds_for` meets its contract. Assumes nothing.
use Rattle.std.proofs.Common.{rules}
use Rattle.sound.specs.Sized.{is_within}
use Rattle.sound.proofs.Limit.holds_for.Goals as goal

pub returns : goal.returns
returns c = c.joined.ensures 63 (is_within c.args.self.most) (λ x y l p. search rules)
