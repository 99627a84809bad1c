-- `matching::Left::turns` meets its contract: the turns left lead to the whole. Assumes nothing.
use Rattle.std.proofs.Common.{◌-◌, length}
use Rattle.matching.proofs.TurnLaws.{Turns}
use Rattle.matching.proofs.Left.turns.Given as goal

abbrev pub invariant-loop-d : goal.invariant-loop-d
invariant-loop-d l = Turns l.draw l.d-items l.initial.self l.self l.d-index

abbrev pub decreases-loop-d : goal.decreases-loop-d
decreases-loop-d l = length l.d-items - l.d-index
