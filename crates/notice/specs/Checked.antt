-- What a notice answers on a book that it has found sound, and what its writer asks and leaves. Assumes nothing.
use Rattle.std.specs.Prelude.{◌≡◌, ℕ, ◌≤◌, ◌<◌, List, length, get_or}
use Rattle.lists.specs.Tests.{first}
use Rattle.lists.specs.Parts.{over}
use Rattle.rule.specs.Day.{notice_row, noticed}
use Rattle.rule.specs.Calls.{Reply, accepted, answer, notice_checks}
use Rattle.rule.specs.Layout.{most_participants, most_issues, issues_at, book_length, lots_row, notices_at, view, stored}

-- every entry names a number below `cells`
pub record AllDistinctAsks (cells : ℕ) (issues : List ℕ) : Type 0 where
  pub below : (j : ℕ) → j < length issues → get_or issues j 0 < cells

-- every entry of a notice names a cell of the row, and has its lots
pub record WriteRowAsks (cells : ℕ) (issues lots : List ℕ) : Type 0 where
  pub lengths : length issues ≡ length lots
  pub named : AllDistinctAsks cells issues

unfoldable pub notice_sound : List ℕ → ℕ → List ℕ → List ℕ → Reply × List ℕ
notice_sound b p issues lots =
    answer (first (notice_checks (view b) p issues lots)) accepted (stored b (noticed (view b) p issues lots)) b

-- what the checks of a notice have shown to its writer
pub record WriteAsks (b : List ℕ) (p : ℕ) (issues lots : List ℕ) : Type 0 where
  pub size : length b ≡ book_length
  pub sender : p < most_participants
  pub most : get_or b issues_at 0 ≤ most_issues
  pub entries : WriteRowAsks (get_or b issues_at 0) issues lots

-- the sender's row of the book
unfoldable pub notice_written : List ℕ → ℕ → List ℕ → List ℕ → List ℕ
notice_written b p issues lots = over b (lots_row notices_at p) (notice_row (get_or b issues_at 0) issues lots)
