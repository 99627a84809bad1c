-- `close::write_receipts` meets its contract: the rows below p are written. Assumes nothing.
use Rattle.close.proofs.CloseLaws.{Received}
use Rattle.close.proofs.write_receipts.Given as goal

abbrev pub invariant-loop-p : goal.invariant-loop-p
invariant-loop-p l = Received l.book l.initial.receipts l.receipts l.p
