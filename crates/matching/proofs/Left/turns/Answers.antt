use Rattle.matching.proofs.TurnLaws.{turns-begin, turns-ask, turns-on, turns-end}
use Rattle.matching.proofs.Left.turns.Goals as goal

pub loop-d-init : goal.loop-d-init
loop-d-init c = turns-begin _ _ _

pub turn-requires : goal.turn-requires
turn-requires c = turns-ask c.requires c.rank.ensures c.loop-d.invariant c.loop-d-test.true

pub loop-d-preserved : goal.loop-d-preserved
loop-d-preserved c = turns-on c.requires c.rank.ensures c.loop-d.invariant c.loop-d-test.true c.turn.ensures.left c.turn.ensures.same

pub returns-clause-left : goal.returns-clause-left
returns-clause-left c = turns-end c.requires c.rank.ensures c.loop-d.invariant c.loop-d-test.false

pub returns-clause-same : goal.returns-clause-same
returns-clause-same c = c.loop-d.invariant.same
