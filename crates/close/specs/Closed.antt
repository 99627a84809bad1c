-- What closing asks of the lent lists, what it writes, and what it answers on a sound book. Assumes nothing.
use Rattle.std.specs.Prelude.{◌≡◌, ℕ, ◌*◌, ◌≤◌, List, map, length, get_or}
use Rattle.lists.specs.Tests.{first}
use Rattle.lists.specs.Folds.{joined}
use Rattle.lists.specs.Parts.{grid, over}
use Rattle.rule.specs.Day.{baskets}
use Rattle.rule.specs.Calls.{Reply, accepted, answer, close_checks, tomorrow_receipts, tomorrow_pairs}
use Rattle.rule.specs.Layout.{most_participants, most_issues, participants_at, issues_at, book_length, tally_at, today_at, plus, cube, view}

pub record WriteReceiptsAsks (b receipts : List ℕ) : Type 0 where
  pub size : length b ≡ book_length
  pub few : get_or b participants_at 0 ≤ most_participants
  pub most : get_or b issues_at 0 ≤ most_issues
  pub room : get_or b participants_at 0 * get_or b issues_at 0 ≤ length receipts

pub record WritePairsAsks (b pairs : List ℕ) : Type 0 where
  pub size : length b ≡ book_length
  pub few : get_or b participants_at 0 ≤ most_participants
  pub room : baskets * (get_or b participants_at 0 * get_or b participants_at 0) ≤ length pairs

-- the tally where positive, row after row
unfoldable pub receipts_written : List ℕ → List ℕ → List ℕ
receipts_written b receipts = over receipts 0 (joined (map (map plus) (grid b tally_at most_issues (get_or b participants_at 0) (get_or b issues_at 0))))

-- today's marks, basket after basket
unfoldable pub pairs_written : List ℕ → List ℕ → List ℕ
pairs_written b pairs = over pairs 0 (joined (map joined (cube b today_at (get_or b participants_at 0))))

unfoldable pub close_sound : List ℕ → List ℕ → List ℕ → Reply × (List ℕ × List ℕ)
close_sound b receipts pairs =
    answer (first (close_checks (view b) (length receipts) (length pairs))) accepted
    (over receipts 0 (joined (tomorrow_receipts (view b))), over pairs 0 (joined (map joined (tomorrow_pairs (view b)))))
    (receipts, pairs)
