-- What may be used, as it stands in cells. Assumes nothing.
use Rattle.std.specs.Prelude.{◌≡◌, Bool, true, false, List, ℕ, ◌-◌, ◌≤◌, ◌<◌, length, get_or}
use Rattle.lists.specs.Tests.{pick}
use Rattle.lists.specs.Tables.{table}
use Rattle.lists.specs.Parts.{block}
use Rattle.rule.specs.Value.{Terms}
use Rattle.rule.specs.Baskets.{within}
use Rattle.rule.specs.Allocable.{Marks, allocable}
use Rattle.rule.specs.Filling.{worth}
use Rattle.rule.specs.Day.{term_size, terms_of, marks_of}
use Rattle.rule.specs.Layout.{most_participants, most_issues, lots_size, participants_at, issues_at, runs_at, receipts_at, notices_at, book_length, issue_terms, lots_cell, row_cell}
use Rattle.value.specs.Quotes.{Quotes}
use Rattle.value.specs.declared.Quote.{Quote}
use Rattle.rule.specs.Sound.{notice_limit}

-- issue i's terms and marks in the book
unfoldable pub terms_in : List ℕ → ℕ → Terms
terms_in b i = terms_of (block b (issue_terms i) term_size)

unfoldable pub marks_in : List ℕ → ℕ → Marks
marks_in b i = marks_of (block b (issue_terms i) term_size)

-- participant p's allocable quantity of issue i, from the book's cells
unfoldable pub allocable_in : List ℕ → ℕ → ℕ → ℕ
allocable_in b p i =
    allocable (get_or b runs_at 0) (marks_in b i) (get_or b (lots_cell notices_at p i) 0) (get_or b (lots_cell receipts_at p i) 0)

-- issue i is of basket k
unfoldable pub inside_of : List ℕ → ℕ → ℕ → Bool
inside_of b k i = within k (terms_in b i)

-- what may be used of an issue, of which so much is allocable and was used, and which is of the basket or not
unfoldable pub usable_of : Bool → ℕ → ℕ → ℕ
usable_of inside allocable used = pick inside (allocable - used) 0

-- a book, and a row for so many issues
pub record MarkIssuesAsks (b : List ℕ) (issues : ℕ) : Type 0 where
  pub cells : length b ≡ book_length
  pub few : issues ≤ most_issues

-- a book, and a participant's row
pub record AllocableRowAsks (b : List ℕ) (p : ℕ) (row : List ℕ) : Type 0 where
  pub cells : length b ≡ book_length
  pub participant : p < most_participants
  pub few : length row ≤ most_issues

-- a book with its sizes, and a row for each of the most participants
pub record AllocableRowsAsks (b cells : List ℕ) : Type 0 where
  pub book : length b ≡ book_length
  pub participants : get_or b participants_at 0 ≤ most_participants
  pub issues : get_or b issues_at 0 ≤ most_issues
  pub places : length cells ≡ lots_size

-- every allocable quantity of the day stands in its cell
pub record AllocableRowsGives (b cells : List ℕ) : Type 0 where
  pub places : length cells ≡ lots_size
  pub each : (p i : ℕ) → p < get_or b participants_at 0 → i < get_or b issues_at 0 → get_or cells (row_cell p i) 0 ≡ allocable_in b p i

-- of an issue of the basket no more was used than is allocable
pub record UsableAsks (inside : Bool) (allocable used : ℕ) : Type 0 where
  pub enough : inside ≡ true → used ≤ allocable

-- rows of so many issues: which are of the basket, allocable quantities and used lots, no more of the basket's used than allocable, and
-- their quotes
pub record UsableRowAsks (inside : List Bool) (allocable used : List ℕ) (quotes : List Quote) (issues : ℕ) : Type 0 where
  pub few : issues ≤ most_issues
  pub marked : issues ≤ length inside
  pub stock : issues ≤ length allocable
  pub gone : issues ≤ length used
  pub quotes_there : issues ≤ length quotes
  pub allocable_most : (i : ℕ) → i < issues → get_or allocable i 0 ≤ notice_limit
  pub enough : (i : ℕ) → i < issues → get_or inside i false ≡ true → get_or used i 0 ≤ get_or allocable i 0

-- what may be used of issue i
abbrev pub may_use : List Bool → List ℕ → List ℕ → ℕ → ℕ
may_use inside allocable used i = usable_of (get_or inside i false) (get_or allocable i 0) (get_or used i 0)

-- what may be used of each issue, and what all of it is worth
pub record UsableRowGives (inside : List Bool) (allocable used : List ℕ) (quotes : List Quote) (issues : ℕ) (row : List ℕ) (all : ℕ) : Type 0 where
  pub row_is : row ≡ table issues (may_use inside allocable used)
  pub worth_is : (ts : List Terms) → length ts ≡ issues → Quotes ts quotes → all ≡ worth ts row
