-- `ranges::joined` meets its contract. Bits gathered. Assumes nothing.
use Rattle.std.proofs.Common.{◌≡◌, ℕ, ◌-◌, ◌^◌, ◌<◌, Bool, leb, length, get_or}
use Rattle.ranges.proofs.ScanLaws.{Gathered}
use Rattle.ranges.proofs.joined.Given as goal

abbrev pub invariant-loop-cell : goal.invariant-loop-cell
invariant-loop-cell g l =
    (k : ℕ) (test : ℕ → Bool) → ((x y : ℕ) → x < 2 ^ 64 → goal.F-post g l.bits_of x y → leb y (2 ^ k - 1) ≡ test x)
    → Gathered (λ i. test (get_or l.cells i 0)) (length l.cells) l.cell-index (leb l.bits (2 ^ k - 1))
