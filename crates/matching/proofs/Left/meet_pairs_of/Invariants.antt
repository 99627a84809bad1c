-- `matching::Left::meet_pairs_of` meets its contract: the receivers left to meet lead to the whole. Assumes nothing.
use Rattle.std.proofs.Common.{◌-◌}
use Rattle.matching.proofs.PairLaws.{Row}
use Rattle.matching.proofs.Left.meet_pairs_of.Given as goal

abbrev pub invariant-loop-r : goal.invariant-loop-r
invariant-loop-r l = Row l.marks l.d l.initial.self l.self l.r

abbrev pub decreases-loop-r : goal.decreases-loop-r
decreases-loop-r l = l.r-end - l.r
