-- A filled match in the book: what booking it asks and leaves. Assumes nothing.
use Rattle.std.specs.Prelude.{◌≡◌, ℕ, ◌<◌, ◌≢◌, List, length, nat_lt, slice_index, slice_index_or}
use Rattle.lists.specs.Tests.{pick}
use Rattle.rule.specs.Day.{baskets}
use Rattle.rule.specs.Layout.{most_participants, most_issues, today_at, tally_at, book_length, lots_cell, position_cell, mark_cell}
use Rattle.signed.specs.Sums.{cell_more, cell_less}

-- a book, and a match between two participants
pub record MoveYenAsks (b : List ℕ) (k d r : ℕ) : Type 0 where
  pub cells : length b ≡ book_length
  pub basket : k < baskets
  pub deliverer : d < most_participants
  pub receiver : r < most_participants
  pub apart : d ≢ r

-- and an issue
pub record MoveLotsAsks (b : List ℕ) (d r i : ℕ) : Type 0 where
  pub cells : length b ≡ book_length
  pub deliverer : d < most_participants
  pub receiver : r < most_participants
  pub apart : d ≢ r
  pub issue : i < most_issues

-- two cells of a book
pub record ShiftAsks (b : List ℕ) (from to : ℕ) : Type 0 where
  pub from_within : from < length b
  pub to_within : to < length b
  pub apart : from ≢ to

-- the one is cell_less by an amount, the other cell_more, in 64 bits
pub record ShiftGives (b c : List ℕ) (from to amount : ℕ) : Type 0 where
  pub size : length c ≡ length b
  pub cell_less : slice_index_or c from 0 ≡ cell_less (slice_index b from) amount
  pub cell_more : slice_index_or c to 0 ≡ cell_more (slice_index b to) amount
  pub kept : (j : ℕ) → j ≢ from → j ≢ to → slice_index c j ≡ slice_index b j

-- yen left two positions, and a pair is marked if they are above 0
pub record MoveYenGives (b c : List ℕ) (k d r yen : ℕ) : Type 0 where
  pub size : length c ≡ length b
  pub from : slice_index_or c (position_cell k d) 0 ≡ cell_less (slice_index b (position_cell k d)) yen
  pub to : slice_index_or c (position_cell k r) 0 ≡ cell_more (slice_index b (position_cell k r)) yen
  pub pair : slice_index_or c (mark_cell today_at k d r) 0 ≡ pick (nat_lt 0 yen) 1 (slice_index b (mark_cell today_at k d r))
  pub kept : (j : ℕ) → j ≢ position_cell k d → j ≢ position_cell k r → j ≢ mark_cell today_at k d r → slice_index c j ≡ slice_index b j

-- an issue's lots moved in two tallies
pub record MoveLotsGives (b c : List ℕ) (d r i lots : ℕ) : Type 0 where
  pub size : length c ≡ length b
  pub delivered : slice_index_or c (lots_cell tally_at d i) 0 ≡ cell_more (slice_index b (lots_cell tally_at d i)) lots
  pub received : slice_index_or c (lots_cell tally_at r i) 0 ≡ cell_less (slice_index b (lots_cell tally_at r i)) lots
  pub kept : (j : ℕ) → j ≢ lots_cell tally_at d i → j ≢ lots_cell tally_at r i → slice_index c j ≡ slice_index b j

-- the first n issues' lots
pub record LotsMovedTo (n : ℕ) (b c : List ℕ) (d r : ℕ) (lots : List ℕ) : Type 0 where
  pub size : length c ≡ length b
  pub delivered : (i : ℕ) → i < n → slice_index c (lots_cell tally_at d i) ≡ cell_more (slice_index b (lots_cell tally_at d i)) (slice_index lots i)
  pub received : (i : ℕ) → i < n → slice_index c (lots_cell tally_at r i) ≡ cell_less (slice_index b (lots_cell tally_at r i)) (slice_index lots i)
  pub kept : (j : ℕ) → ((i : ℕ) → i < n → j ≢ lots_cell tally_at d i) → ((i : ℕ) → i < n → j ≢ lots_cell tally_at r i) → slice_index c j ≡ slice_index b j

abbrev pub LotsMoved : List ℕ → List ℕ → ℕ → ℕ → List ℕ → Type 0
LotsMoved b c d r lots = LotsMovedTo (length lots) b c d r lots
