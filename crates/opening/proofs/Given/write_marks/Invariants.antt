-- `opening::Given::write_marks` meets its contract: the marks of the baskets below k are copied. Assumes nothing.
use Rattle.opening.proofs.OpenLaws.{Marked}
use Rattle.opening.proofs.Given.write_marks.Given as goal

abbrev pub invariant-loop-k : goal.invariant-loop-k
invariant-loop-k l = Marked l.initial.book l.self.participants l.self.pairs.now l.book l.k
