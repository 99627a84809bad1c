-- `forced::fifth_largest` meets its contract. Assumes nothing.
use Rattle.forced.proofs.ChoiceLaws.{FifthLeft}
use Rattle.forced.proofs.fifth_largest.Given as goal

abbrev pub invariant-loop-i : goal.invariant-loop-i
invariant-loop-i l = FifthLeft l.issues l.kinds l.i-iterator.iter.iter.rest.now l.i-iterator.iter.count l.ten l.any
