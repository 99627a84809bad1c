-- `lists::copy_with` meets its contract: the cells below the index are what f made. Assumes nothing.
use Rattle.std.proofs.Common.{slice_index}
use Rattle.lists.proofs.RowLaws.{Changed}
use Rattle.lists.proofs.copy_with.Given as goal

abbrev pub invariant-loop-i : goal.invariant-loop-i
invariant-loop-i g l = Changed (λ k x. goal.F-post g l.f (slice_index l.source k) x) l.initial.cells l.cells l.i
