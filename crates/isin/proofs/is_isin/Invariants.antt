-- `isin::is_isin` meets its contract. Invariant: the characters below i may stand where they do, and both sums are those of their digits. Assumes nothing.
use Rattle.isin.proofs.CodeLaws.{Read}
use Rattle.isin.proofs.is_isin.Given as goal

abbrev pub invariant-loop-i : goal.invariant-loop-i
invariant-loop-i l = Read l.code l.i l.sums
