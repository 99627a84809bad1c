-- The book: one list of cells of a fixed length, read as a day and written back, and the calls on it. Only this file has an offset.
-- Assumes nothing.
use Rattle.std.specs.Prelude.{ℕ, ◌+◌, ◌-◌, ◌*◌, ◌%◌, Bool, ◌&&◌, List, [], ◌∷◌, ◌++◌, map, length, get_or, ltb, eqb}
use Rattle.lists.specs.Tests.{pick, first}
use Rattle.lists.specs.Tables.{table, zeros, row, cell}
use Rattle.lists.specs.Folds.{joined}
use Rattle.lists.specs.Parts.{grid, over, rows_at, written}
use Rattle.rule.specs.Value.{Terms, no_terms}
use Rattle.rule.specs.Allocable.{Marks, no_marks}
use Rattle.rule.specs.Day.{Given, State, Day, baskets, code_size, term_size, terms_of, marks_of, given_of, opened, traded, noticed}
use Rattle.rule.specs.Run.{Allocation, allocations, ran, match_list, line_list}
use Rattle.rule.specs.Sound.{sound}
use Rattle.rule.specs.Calls.{Reply, accepted, answer, open_checks, refusal, trade_checks, notice_checks, run_checks, run_reply, close_checks, tomorrow_receipts, tomorrow_pairs}

-- ---- offsets: each is the last plus a size. Rows are as far apart as in the largest day

abbrev pub most_participants : ℕ
most_participants = 12

abbrev pub most_issues : ℕ
most_issues = 32

-- the cells of a table by participant and issue, and of a basket's pair marks
abbrev pub lots_size : ℕ
lots_size = most_issues * most_participants

abbrev pub square : ℕ
square = most_participants * most_participants

abbrev pub participants_at : ℕ
participants_at = 0

abbrev pub issues_at : ℕ
issues_at = 1

abbrev pub runs_at : ℕ
runs_at = 2

abbrev pub trades_at : ℕ
trades_at = 3

abbrev pub codes_at : ℕ
codes_at = 4

abbrev pub terms_at : ℕ
terms_at = codes_at + code_size * most_issues

abbrev pub receipts_at : ℕ
receipts_at = terms_at + term_size * most_issues

abbrev pub pairs_at : ℕ
pairs_at = receipts_at + lots_size

abbrev pub positions_at : ℕ
positions_at = pairs_at + square * baskets

abbrev pub notices_at : ℕ
notices_at = positions_at + most_participants * baskets

abbrev pub today_at : ℕ
today_at = notices_at + lots_size

abbrev pub tally_at : ℕ
tally_at = today_at + square * baskets

abbrev pub book_length : ℕ
book_length = tally_at + lots_size

-- ---- places: of an issue's terms; of lots, by participant and issue, in a table that begins at some cell; of a position; of a pair's mark,
-- in yesterday's or today's

abbrev pub issue_terms : ℕ → ℕ
issue_terms i = terms_at + term_size * i

-- of participant p among rows of lots that stand by themselves, and of issue i in it
abbrev pub row_start : ℕ → ℕ
row_start p = most_issues * p

abbrev pub row_cell : ℕ → ℕ → ℕ
row_cell p i = row_start p + i

abbrev pub lots_row : ℕ → ℕ → ℕ
lots_row at p = at + row_start p

abbrev pub lots_cell : ℕ → ℕ → ℕ → ℕ
lots_cell at p i = lots_row at p + i

abbrev pub position_row : ℕ → ℕ
position_row k = positions_at + most_participants * k

abbrev pub position_cell : ℕ → ℕ → ℕ
position_cell k p = position_row k + p

abbrev pub mark_square : ℕ → ℕ → ℕ
mark_square at k = at + square * k

abbrev pub mark_cell : ℕ → ℕ → ℕ → ℕ → ℕ
mark_cell at k d r = mark_square at k + most_participants * d + r

-- ---- a signed number is kept in its cell as its two's complement: a below 2^63 is a, less b is 2^64 - b

abbrev pub plus : ℕ → ℕ
plus c = pick (ltb c 9223372036854775808) c 0

abbrev pub minus : ℕ → ℕ
minus c = pick (ltb c 9223372036854775808) 0 (18446744073709551616 - c)

-- the cell of a - b
abbrev pub signed : ℕ → ℕ → ℕ
signed a b = (a + (18446744073709551616 - b)) % 18446744073709551616

abbrev pub signed_rows : List (List ℕ) → List (List ℕ) → List (List ℕ)
signed_rows out back = table (length out) (λ p. table (length (row out p)) (λ i. signed (cell out p i) (cell back p i)))

-- ---- the book read as a day

-- pair marks: for each basket a table of as many rows as there are participants at most
abbrev pub cube : List ℕ → ℕ → ℕ → List (List (List ℕ))
cube b at n = table baskets (λ k. grid b (mark_square at k) most_participants n n)

unfoldable pub view : List ℕ → Day
view b =
    let n : ℕ = get_or b participants_at 0 in
    let m : ℕ = get_or b issues_at 0 in
    let positions : List (List ℕ) = grid b positions_at most_participants baskets n in
    let terms : List (List ℕ) = grid b terms_at term_size m term_size in
    let tally : List (List ℕ) = grid b tally_at most_issues n m in
    record {
      given = record {
        participants = n;
        issues = m;
        codes = grid b codes_at code_size m code_size;
        terms = map terms_of terms;
        marks = map marks_of terms;
        receipts = grid b receipts_at most_issues n m;
        pairs = cube b pairs_at n;
      };
      state = record {
        runs = get_or b runs_at 0;
        trades = get_or b trades_at 0;
        owed = map (map plus) positions;
        due = map (map minus) positions;
        notices = grid b notices_at most_issues n m;
        today = cube b today_at n;
        delivered = map (map plus) tally;
        received = map (map minus) tally;
      };
    }

-- ---- a day written into the book: places beyond the day's sizes stay

abbrev pub terms_row : Terms → Marks → List ℕ
terms_row t m = t.kind ∷ t.price ∷ t.coupon ∷ t.days ∷ m.redeemed ∷ m.interest ∷ []

abbrev pub terms_rows : Given → List (List ℕ)
terms_rows g = table g.issues (λ i. terms_row (get_or g.terms i no_terms) (get_or g.marks i no_marks))

abbrev pub cube_rows : ℕ → List (List (List ℕ)) → List (ℕ × List ℕ)
cube_rows at marks = joined (table baskets (λ k. rows_at (mark_square at k) most_participants (row marks k)))

-- the tables of a day, rows with their places; the sizes and counts are one row
abbrev pub given_tables : Given → List (List (ℕ × List ℕ))
given_tables g =
    rows_at codes_at code_size g.codes
    ∷ rows_at terms_at term_size (terms_rows g)
    ∷ rows_at receipts_at most_issues g.receipts
    ∷ cube_rows pairs_at g.pairs
    ∷ []

abbrev pub state_tables : State → List (List (ℕ × List ℕ))
state_tables s =
    rows_at positions_at most_participants (signed_rows s.owed s.due)
    ∷ rows_at notices_at most_issues s.notices
    ∷ cube_rows today_at s.today
    ∷ rows_at tally_at most_issues (signed_rows s.delivered s.received)
    ∷ []

abbrev pub tables_of : Day → List (List (ℕ × List ℕ))
tables_of y =
    ((0, y.given.participants ∷ y.given.issues ∷ y.state.runs ∷ y.state.trades ∷ []) ∷ []) ∷ (given_tables y.given ++ state_tables y.state)

unfoldable pub stored : List ℕ → Day → List ℕ
stored b y = written b (joined (tables_of y))

-- ---- the public calls: the reply, and the book and the lent lists afterwards

unfoldable pub book_fits : List ℕ → Bool
book_fits b = eqb (length b) book_length

unfoldable pub sound_book : List ℕ → Bool
sound_book b = book_fits b && sound (view b)

-- "places beyond the day's sizes too"
unfoldable pub open_of : ℕ → ℕ → List ℕ → List ℕ → List ℕ → List ℕ → List ℕ → Reply × List ℕ
open_of n m codes terms receipts pairs b =
    answer (first (open_checks (book_fits b) n m codes terms receipts pairs)) accepted
    (stored (zeros book_length) (opened (given_of n m codes terms receipts pairs))) b

unfoldable pub trade_of : List ℕ → ℕ → ℕ → ℕ → ℕ → Reply × List ℕ
trade_of b seller buyer k yen =
    let y : Day = view b in
    answer (refusal (sound_book b) (trade_checks y seller buyer k yen)) accepted (stored b (traded y seller buyer k yen)) b

unfoldable pub notice_of : List ℕ → ℕ → List ℕ → List ℕ → Reply × List ℕ
notice_of b p issues lots =
    let y : Day = view b in
    answer (refusal (sound_book b) (notice_checks y p issues lots)) accepted (stored b (noticed y p issues lots)) b

-- "Entries past the counts stay"
unfoldable pub run_of : List ℕ → List ℕ → List ℕ → List ℕ → Reply × (List ℕ × List ℕ × List ℕ)
run_of b draw matches lines =
    let y : Day = view b in
    let done : List Allocation = allocations y draw in
    answer (refusal (sound_book b) (run_checks y draw (length matches) (length lines))) (run_reply done)
    (stored b (ran y done), over matches 0 (joined (match_list done)), over lines 0 (joined (line_list done)))
    (b, matches, lines)

-- "The book stays"
unfoldable pub close_of : List ℕ → List ℕ → List ℕ → Reply × (List ℕ × List ℕ)
close_of b receipts pairs =
    let y : Day = view b in
    answer (refusal (sound_book b) (close_checks y (length receipts) (length pairs))) accepted
    (over receipts 0 (joined (tomorrow_receipts y)), over pairs 0 (joined (map joined (tomorrow_pairs y))))
    (receipts, pairs)
