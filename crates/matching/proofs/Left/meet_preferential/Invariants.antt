-- `matching::Left::meet_preferential` meets its contract: the pairs left to meet lead to the whole. Assumes nothing.
use Rattle.std.proofs.Common.{◌-◌}
use Rattle.matching.proofs.PairLaws.{Rows}
use Rattle.matching.proofs.Left.meet_preferential.Given as goal

abbrev pub invariant-loop-d : goal.invariant-loop-d
invariant-loop-d l = Rows l.runs l.marks l.initial.self l.self l.d

abbrev pub decreases-loop-d : goal.decreases-loop-d
decreases-loop-d l = l.d-end - l.d
