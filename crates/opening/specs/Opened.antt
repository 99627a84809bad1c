-- What opening has found of its arrays, what it writes, and what it answers once all lengths are right. Assumes nothing.
use Rattle.std.specs.Prelude.{◌≡◌, true, ℕ, ◌*◌, ◌≤◌, ◌<◌, List, length, set}
use Rattle.lists.specs.Tests.{first}
use Rattle.lists.specs.Tables.{table, zeros}
use Rattle.lists.specs.Folds.{joined}
use Rattle.lists.specs.Parts.{grid, rows_at, written}
use Rattle.rule.specs.Day.{baskets, code_size, term_size, given_of, opened}
use Rattle.rule.specs.Sound.{sizes_fit}
use Rattle.rule.specs.Calls.{Reply, accepted, answer, data_checks}
use Rattle.rule.specs.Layout.{most_participants, most_issues, participants_at, issues_at, mark_square, book_length, codes_at, terms_at, receipts_at, pairs_at, stored}

-- basket k's marks go to its square
unfoldable pub marks_written : List ℕ → ℕ → List ℕ → List ℕ
marks_written b n pairs = written b (joined (table baskets (λ k. rows_at (mark_square pairs_at k) most_participants (grid pairs (n * n * k) n n n))))

unfoldable pub open_written : ℕ → ℕ → List ℕ → List ℕ → List ℕ → List ℕ → List ℕ
open_written n m codes terms receipts pairs =
    marks_written
    (written
    (written (written (set (set (zeros book_length) participants_at n) issues_at m) (rows_at codes_at code_size (grid codes 0 code_size m code_size)))
    (rows_at terms_at term_size (grid terms 0 term_size m term_size)))
    (rows_at receipts_at most_issues (grid receipts 0 m n m)))
    n pairs

-- what the first row of the check table has shown of what is given
pub record Lengths (n m : ℕ) (codes terms receipts pairs : List ℕ) : Type 0 where
  pub sizes : sizes_fit n m ≡ true
  pub some : 0 < n × 0 < m
  pub few : n ≤ most_participants
  pub most : m ≤ most_issues
  pub codes_size : length codes ≡ code_size * m
  pub terms_size : length terms ≡ term_size * m
  pub receipts_size : length receipts ≡ n * m
  pub pairs_size : length pairs ≡ baskets * (n * n)

unfoldable pub open_lengths : ℕ → ℕ → List ℕ → List ℕ → List ℕ → List ℕ → List ℕ → Reply × List ℕ
open_lengths n m codes terms receipts pairs b =
    answer (first (data_checks n m (given_of n m codes terms receipts pairs))) accepted
    (stored (zeros book_length) (opened (given_of n m codes terms receipts pairs))) b
