use Rattle.matching.proofs.TurnLaws.{drawn-asks, drawn-stop}
use Rattle.matching.proofs.Left.meet_drawn.Goals as goal

pub meet-requires : goal.meet-requires
meet-requires c = drawn-asks c.requires c.loop-r.invariant c.loop-r-test.true

pub returns-then-self-d-eq0-clause-left : goal.returns-then-self-d-eq0-clause-left
returns-then-self-d-eq0-clause-left c = drawn-stop c.requires c.loop-r.invariant c.if-self-d-eq0.true
