-- `ranges::Square::none_on_oneself` meets its contract. Bits gathered, of rows a stride apart. Assumes nothing.
use Rattle.std.proofs.Common.{◌+◌, ◌*◌, eqb, get_or}
use Rattle.ranges.proofs.ScanLaws.{Gathered}
use Rattle.ranges.proofs.Square.none_on_oneself.Given as goal

abbrev pub invariant-loop-p : goal.invariant-loop-p
invariant-loop-p l = Gathered (λ q. eqb (get_or l.self.marks.now (0 + l.self.stride * q + q) 0) 0) l.self.n l.p (eqb l.bits 0)
