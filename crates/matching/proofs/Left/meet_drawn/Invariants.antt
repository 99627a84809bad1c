-- `matching::Left::meet_drawn` meets its contract: the receivers left to meet lead to the whole. Assumes nothing.
use Rattle.std.proofs.Common.{◌-◌, length}
use Rattle.matching.proofs.TurnLaws.{Drawn}
use Rattle.matching.proofs.Left.meet_drawn.Given as goal

abbrev pub invariant-loop-r : goal.invariant-loop-r
invariant-loop-r l = Drawn l.fn.draw l.d l.initial.self l.self l.r-index

abbrev pub decreases-loop-r : goal.decreases-loop-r
decreases-loop-r l = length l.draw - l.r-index
