-- `forced::most_notified` meets its contract. Assumes nothing.
use Rattle.forced.proofs.ChoiceLaws.{BestDown}
use Rattle.forced.proofs.most_notified.Given as goal

abbrev pub invariant-loop-i : goal.invariant-loop-i
invariant-loop-i l = BestDown l.issues l.kinds l.notified l.i l.best
