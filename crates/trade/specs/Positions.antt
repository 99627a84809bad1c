-- What moving yen between two positions of the book asks. Assumes nothing.
use Rattle.std.specs.Prelude.{ℕ, ◌+◌, ◌≤◌, List, set, slice_index, slice_set}
use Rattle.rule.specs.Layout.{trades_at, plus, minus}
use Rattle.rule.specs.Sound.{position_limit}
use Rattle.signed.specs.Sums.{cell_more, cell_less}

-- a position within its limit, and yen of a trade
pub record Movable (cell yen : ℕ) : Type 0 where
  pub owed : plus cell ≤ position_limit
  pub due : minus cell ≤ position_limit
  pub most : yen ≤ 1000000000000

-- the cells of the two positions become these, and one trade cell_more is counted
abbrev pub moved_to : List ℕ → ℕ → ℕ → ℕ → ℕ → List ℕ
moved_to b seller buyer sold bought = set (slice_set (slice_set b seller sold) buyer bought) trades_at (slice_index b trades_at + 1)

-- yen are added to the one and taken from the other
unfoldable pub moved_of : List ℕ → ℕ → ℕ → ℕ → List ℕ
moved_of b seller buyer yen = moved_to b seller buyer (cell_more (slice_index b seller) yen) (cell_less (slice_index b buyer) yen)
