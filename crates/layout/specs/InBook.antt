-- What stands in a book's cells: the day's sizes, and its issues. Assumes nothing.
use Rattle.std.specs.Prelude.{List, ℕ, map, get_or}
use Rattle.lists.specs.Parts.{grid}
use Rattle.rule.specs.Value.{Terms}
use Rattle.rule.specs.Allocable.{Marks}
use Rattle.rule.specs.Day.{term_size, terms_of, marks_of}
use Rattle.rule.specs.Layout.{participants_at, issues_at, terms_at}

abbrev pub participants_in : List ℕ → ℕ
participants_in b = get_or b participants_at 0

abbrev pub issues_in : List ℕ → ℕ
issues_in b = get_or b issues_at 0

-- the terms and marks of the day's issues
abbrev pub issue_rows : List ℕ → List (List ℕ)
issue_rows b = grid b terms_at term_size (issues_in b) term_size

abbrev pub book_terms : List ℕ → List Terms
book_terms b = map terms_of (issue_rows b)

abbrev pub book_marks : List ℕ → List Marks
book_marks b = map marks_of (issue_rows b)
