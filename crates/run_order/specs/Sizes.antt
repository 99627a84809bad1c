-- The sizes of a book's day. Assumes nothing.
use Rattle.std.specs.Prelude.{◌≡◌, List, ℕ, ◌≤◌, length}
use Rattle.layout.specs.InBook.{participants_in, issues_in}
use Rattle.rule.specs.Layout.{most_participants, most_issues, book_length}

-- the book has its length, and the day's sizes are in range
pub record DaySized (b : List ℕ) : Type 0 where
  pub cells : length b ≡ book_length
  pub participants : participants_in b ≤ most_participants
  pub some : 1 ≤ issues_in b
  pub issues : issues_in b ≤ most_issues
