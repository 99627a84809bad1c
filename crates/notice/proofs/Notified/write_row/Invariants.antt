-- `notice::Notified::write_row` meets its contract: the entries below j are written, and the others are left. Assumes nothing.
use Rattle.std.proofs.Common.{◌≡◌, ℕ, drop}
use Rattle.std.specs.Iterator.Adapters.{zip_first, zip_second}
use Rattle.std.specs.Slice.Iter.{iter_rest}
use Rattle.notice.proofs.NoticeLaws.{Entered}
use Rattle.notice.proofs.Notified.write_row.Given as goal

abbrev pub invariant-loop-issue : goal.invariant-loop-issue
invariant-loop-issue l =
    (j : ℕ) × Entered l.initial.row l.self.named.now l.self.lots.now l.row j
    × (iter_rest (zip_first l.issue-iterator) ≡ drop j l.self.named.now) × (iter_rest (zip_second l.issue-iterator) ≡ drop j l.self.lots.now)
