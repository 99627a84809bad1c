-- `opening::widen` meets its contract: the bytes below the index are cells. Assumes nothing.
use Rattle.std.proofs.Common.{◌≡◌, get_or}
use Rattle.lists.proofs.RowLaws.{Changed}
use Rattle.opening.proofs.widen.Given as goal

abbrev pub invariant-loop-i : goal.invariant-loop-i
invariant-loop-i l = Changed (λ k x. x ≡ get_or l.codes k 0) l.initial.cells l.cells l.i
