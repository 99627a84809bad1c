-- `close::write_pairs` meets its contract: the marks of the baskets below k are written. Assumes nothing.
use Rattle.close.proofs.CloseLaws.{Covered}
use Rattle.close.proofs.write_pairs.Given as goal

abbrev pub invariant-loop-k : goal.invariant-loop-k
invariant-loop-k l = Covered l.book l.initial.pairs l.pairs l.k
