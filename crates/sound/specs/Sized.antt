-- Soundness as tests on the book's cells, in the order in which the code looks at them. Assumes nothing.
use Rattle.std.specs.Prelude.{◌≡◌, ℕ, ◌+◌, ◌*◌, ◌≤◌, Bool, ◌&&◌, ◌||◌, List, [], ◌∷◌, length, ◌==◌, nat_le, nat_lt, slice_index, slice_index_or}
use Rattle.lists.specs.Tests.{pick, all_below, holds}
use Rattle.lists.specs.Folds.{total}
use Rattle.lists.specs.Parts.{block, grid}
use Rattle.rule.specs.Isin.{codes_right}
use Rattle.rule.specs.Day.{baskets, code_size}
use Rattle.rule.specs.Sound.{all_terms_fit, receipts_fit, at_most, pairs_fit, tradable, position_limit, notice_limit, tally_limit, trade_limit}
use Rattle.rule.specs.Layout.{most_participants, most_issues, participants_at, issues_at, runs_at, trades_at, book_length, lots_row, position_row, codes_at, receipts_at, pairs_at, notices_at, today_at, tally_at, plus, minus, cube}
use Rattle.layout.specs.InBook.{book_terms, book_marks}
use Rattle.ranges.specs.Ranges.{row_passes}

-- the book has its length, and its day's sizes are in range
pub record Sized (b : List ℕ) : Type 0 where
  pub cells : length b ≡ book_length
  pub participants : slice_index_or b participants_at 0 ≤ most_participants
  pub issues : slice_index_or b issues_at 0 ≤ most_issues

-- a signed cell is within a limit: neither of its two sides is above it
abbrev pub is_within : ℕ → ℕ → Bool
is_within limit c = nat_le (plus c) limit && nat_le (minus c) limit

-- "after three runs positions and notices are zero": a limit on them by the runs done
abbrev pub while_runs : ℕ → ℕ → ℕ
while_runs runs limit = pick (nat_lt runs 3) limit 0

-- basket k's positions, of n participants, from a place on
unfoldable pub basket_fits : List ℕ → ℕ → ℕ → ℕ → ℕ → Bool
basket_fits b limit n k at =
    row_passes (is_within limit) b at n
    && total plus (block b at n) == total minus (block b at n)
    && (total plus (block b at n) + total minus (block b at n) == 0 || tradable k (book_terms b) (book_marks b))

abbrev pub positions_fit : List ℕ → ℕ → Bool
positions_fit b limit = all_below baskets (λ k. basket_fits b limit (slice_index b participants_at) k (position_row k))

abbrev pub tally_fits : List ℕ → ℕ → Bool
tally_fits b limit = all_below (slice_index b participants_at) (λ p. row_passes (is_within limit) b (lots_row tally_at p) (slice_index b issues_at))

abbrev pub codes_fit : List ℕ → Bool
codes_fit b = codes_right (grid b codes_at code_size (slice_index b issues_at) code_size)

-- what opening brought
unfoldable pub given_fits : List ℕ → Bool
given_fits b =
    let n : ℕ = slice_index_or b participants_at 0 in
    let m : ℕ = slice_index_or b issues_at 0 in
    holds (
    codes_fit b
    ∷ all_terms_fit m (book_terms b) (book_marks b)
    ∷ receipts_fit n m (grid b receipts_at most_issues n m)
    ∷ pairs_fit n (cube b pairs_at n)
    ∷ [])

-- what the other calls change, with the limits of notices and of positions
unfoldable pub state_within : List ℕ → ℕ → ℕ → Bool
state_within b lots yen =
    let n : ℕ = slice_index_or b participants_at 0 in
    let m : ℕ = slice_index_or b issues_at 0 in
    let runs : ℕ = slice_index_or b runs_at 0 in
    holds (
    nat_le runs 3
    ∷ nat_le (slice_index b trades_at) trade_limit
    ∷ at_most lots n m (grid b notices_at most_issues n m)
    ∷ positions_fit b yen
    ∷ tally_fits b (tally_limit * runs)
    ∷ pairs_fit n (cube b today_at n)
    ∷ [])

unfoldable pub state_fits : List ℕ → Bool
state_fits b = state_within b (while_runs (slice_index b runs_at) notice_limit) (while_runs (slice_index b runs_at) position_limit)
