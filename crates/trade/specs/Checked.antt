-- What a trade answers on a book that it has found sound, and after its first checks. Assumes nothing.
use Rattle.std.specs.Prelude.{ℕ, ◌<◌, ◌≤◌, ◌≢◌, List, slice_index, slice_index_or}
use Rattle.lists.specs.Tests.{first}
use Rattle.rule.specs.Day.{baskets, traded}
use Rattle.rule.specs.Calls.{Reply, accepted, answer, trade_checks, position_checks}
use Rattle.rule.specs.Layout.{participants_at, runs_at, view, stored}
use Rattle.rule.proofs.BookLaws.{SoundBook}

unfoldable pub trade_sound : List ℕ → ℕ → ℕ → ℕ → ℕ → Reply × List ℕ
trade_sound b seller buyer k yen =
    answer (first (trade_checks (view b) seller buyer k yen)) accepted (stored b (traded (view b) seller buyer k yen)) b

-- what the first checks of a trade, on the parties and the amount, have shown
pub record Between (b : List ℕ) (seller buyer k yen : ℕ) : Type 0 where
  pub sound : SoundBook b
  pub runs : slice_index_or b runs_at 0 < 3
  pub sells : seller < slice_index b participants_at
  pub buys : buyer < slice_index b participants_at
  pub basket : k < baskets
  pub apart : seller ≢ buyer
  pub most : yen ≤ 1000000000000

unfoldable pub trade_between : List ℕ → ℕ → ℕ → ℕ → ℕ → Reply × List ℕ
trade_between b seller buyer k yen =
    answer (first (position_checks (view b) seller buyer k yen)) accepted (stored b (traded (view b) seller buyer k yen)) b
