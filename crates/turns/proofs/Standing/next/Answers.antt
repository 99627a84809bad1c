-- `turns::Standing::next` meets its contract: each arm is the rule's, by the pass that led there. Assumes nothing.
use Rattle.rule.specs.Filling.{target}
use Rattle.turns.proofs.TurnLaws.{rounding}
use Rattle.turns.proofs.Standing.next.Goals as goal

pub take_units-requires : goal.take_units-requires
unfolding target
take_units-requires c = rw c.rounded_down.ensures (rounding (rw c.in-Units.is at c.requires))

pub returns-in-Units : goal.returns-in-Units
unfolding target
returns-in-Units c = λ t q. rw (c.in-Units.is, ← c.rounded_down.ensures) (c.take_units.ensures t q)
