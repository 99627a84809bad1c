-- `lists::Rows::copy_to` meets its contract: the rows below p are copied. Assumes nothing.
use Rattle.lists.proofs.CopyLaws.{Copied}
use Rattle.lists.proofs.Rows.copy_to.Given as goal

abbrev pub invariant-loop-p : goal.invariant-loop-p
invariant-loop-p l = Copied l.initial.cells 0 l.stride l.self.n l.self.m l.self.cells.now 0 l.self.apart l.cells l.p
