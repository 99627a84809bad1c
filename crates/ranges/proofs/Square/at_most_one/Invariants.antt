-- `ranges::Square::at_most_one` meets its contract. Bits gathered, of rows a stride apart. Assumes nothing.
use Rattle.std.proofs.Common.{◌≡◌, ℕ, ◌+◌, ◌*◌, leb}
use Rattle.std.specs.Slice.Iter.{chunks_exact_rest, chunks_exact_size}
use Rattle.ranges.specs.Ranges.{row_passes}
use Rattle.ranges.proofs.ScanLaws.{Gathered}
use Rattle.ranges.proofs.RangeLaws.{Left}
use Rattle.ranges.proofs.Square.at_most_one.Given as goal

abbrev pub invariant-loop-row : goal.invariant-loop-row
invariant-loop-row l =
    (p : ℕ) × Left l.self.marks.now l.self.stride l.self.n (chunks_exact_rest l.row-iterator) p × (chunks_exact_size l.row-iterator ≡ l.self.stride)
    × Gathered (λ q. row_passes (λ c. leb c 1) l.self.marks.now (0 + l.self.stride * q) l.self.n) l.self.n p (leb l.bits 1)
