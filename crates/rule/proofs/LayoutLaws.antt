-- Laws of the book: what is stored is what is viewed, and a book that has a day's cells, and elsewhere those of another book, is that
-- book with the day stored. Assumes nothing.
use mathlib.Core.Path.{◌≡◌, refl, sym, ap, ap₂, ◌∙◌, subst}
use mathlib.Core.Logic.{◌⊎◌, inl, inr}
use Prim.Native.Nat.{ℕ, zero, suc, ◌+◌, ◌-◌, ◌*◌, ◌≤◌, ◌<◌, min}
use native.Mathlib.Nat.{le_refl}
use native.Mathlib.Decide.{dec_lt}
use native.Mathlib.Omega.{arith}
use mathlib.Core.List.{List, [], ◌∷◌, map}
use lib.ListN.{length, get_or, length-map}
use lib.Seq.{ext_get_or}
use lib.Dec.{ltb}
use borrow.Author.Tests.{lt-ltb, le-ltb}
use Rattle.lists.specs.Tables.{table, row, cell}
use Rattle.lists.specs.Folds.{joined, Every}
use Rattle.lists.specs.Parts.{block, grid, rows_at, written}
use Rattle.lists.proofs.TestLaws.{pick_yes, pick_no}
use Rattle.lists.proofs.FoldLaws.{every-left, every-right, every_append, every-join, every-parts, every-joined, joined_at}
use Rattle.lists.proofs.TableLaws.{length-table, get_or-table, get_d_map}
use Rattle.lists.proofs.PartLaws.{Inside, Outside, Reads, Rising, length-written, written_is, written_out, written-reads, Chain, rising-chain, rising-joined, Shape, Stands, stands-reads, reads-stands, rows_inside, rows-rise, rows-at, stands-agree, stands-grid, grid-shape, grid-stands}
use Rattle.rule.specs.Value.{Terms, no_terms}
use Rattle.rule.specs.Allocable.{Marks, no_marks}
use Rattle.rule.specs.Day.{Given, State, Day, baskets, terms_of, marks_of, code_size, term_size}
use Rattle.rule.specs.Layout.{issues_at, participants_at, runs_at, trades_at, codes_at, terms_at, receipts_at, pairs_at, positions_at, notices_at, today_at, tally_at, book_length, plus, minus, signed, signed_rows, cube, view, terms_row, terms_rows, cube_rows, given_tables, state_tables, tables_of, stored, lots_cell, lots_row, square, mark_square, mark_cell, most_issues, most_participants, position_cell, position_row}

-- ---- a signed number and its cell

abbrev half : ℕ
half = 9223372036854775808

abbrev whole : ℕ
whole = 18446744073709551616

-- a cell is its two parts
pub signed-split : (c : ℕ) → c < whole → signed (plus c) (minus c) ≡ c
signed-split c h = go (dec_lt c half)
  where
    go : Dec (c < half) → signed (plus c) (minus c) ≡ c
    go (yes l) = rw (pick_yes (ltb c half) c 0 (lt-ltb c half l), pick_yes (ltb c half) 0 (whole - c) (lt-ltb c half l)) (omega arith)
    go (no l) = rw (pick_no (ltb c half) c 0 (le-ltb c half (omega arith)), pick_no (ltb c half) 0 (whole - c) (le-ltb c half (omega arith))) (omega arith)

-- two numbers of which one is 0 are the parts of their cell
pub record Signs (a b : ℕ) : Type 0 where
  pub one : min a b ≡ 0
  pub out : a < half
  pub back : b ≤ half

signed-out : (a b : ℕ) → a < half → b ≡ 0 → signed a b ≡ a
signed-out a b h e = omega arith

signed_back : (a b : ℕ) → a ≡ 0 → 0 < b → b ≤ half → signed a b ≡ whole - b
signed_back a b e h l = omega arith

pub plus-out : (c : ℕ) → c < half → plus c ≡ c
plus-out c h = pick_yes (ltb c half) c 0 (lt-ltb c half h)

pub plus-back : (c : ℕ) → half ≤ c → plus c ≡ 0
plus-back c h = pick_no (ltb c half) c 0 (le-ltb c half h)

pub minus-out : (c : ℕ) → c < half → minus c ≡ 0
minus-out c h = pick_yes (ltb c half) 0 (whole - c) (lt-ltb c half h)

pub minus-back : (c : ℕ) → half ≤ c → minus c ≡ whole - c
minus-back c h = pick_no (ltb c half) 0 (whole - c) (le-ltb c half h)

module _ {a b : ℕ} (s : Signs a b) where
  pub plus-signed : plus (signed a b) ≡ a
  plus-signed = go (dec_lt 0 b)
    where
      go : Dec (0 < b) → plus (signed a b) ≡ a
      go (yes h) = rw (signed_back a b (omega (arith, s.one)) h s.back) (plus-back (whole - b) (omega (arith, s.back)) ∙ omega (arith, s.one))
      go (no h) = rw (signed-out a b s.out (omega arith)) (plus-out a s.out)

  pub minus-signed : minus (signed a b) ≡ b
  minus-signed = go (dec_lt 0 b)
    where
      go : Dec (0 < b) → minus (signed a b) ≡ b
      go (yes h) = rw (signed_back a b (omega (arith, s.one)) h s.back) (minus-back (whole - b) (omega (arith, s.back)) ∙ omega (arith, s.back))
      go (no h) = rw (signed-out a b s.out (omega arith)) (minus-out a s.out ∙ omega arith)

-- a cell's parts are signs
pub cell-signs : (c : ℕ) → c < whole → Signs (plus c) (minus c)
cell-signs c h = go (dec_lt c half)
  where
    go : Dec (c < half) → Signs (plus c) (minus c)
    go (yes l) = rw (plus-out c l, minus-out c l) (record { one = omega arith; out = l; back = omega arith })
    go (no l) = rw (plus-back c (omega arith), minus-back c (omega arith)) (record { one = omega arith; out = omega arith; back = omega arith })

-- ---- the shape of a day

pub record ShapedGiven (g : Given) : Type 0 where
  pub few : g.participants ≤ most_participants
  pub most : g.issues ≤ most_issues
  pub codes : Shape g.codes g.issues code_size
  pub terms : length g.terms ≡ g.issues
  pub marks : length g.marks ≡ g.issues
  pub receipts : Shape g.receipts g.participants g.issues
  pub pairs : (k : ℕ) → k < baskets → Shape (row g.pairs k) g.participants g.participants
  pub pair_baskets : length g.pairs ≡ baskets

pub record Shaped (y : Day) : Type 0 where
  pub given : ShapedGiven y.given
  pub owed : Shape y.state.owed baskets y.given.participants
  pub due : Shape y.state.due baskets y.given.participants
  pub notices : Shape y.state.notices y.given.participants y.given.issues
  pub today : (k : ℕ) → k < baskets → Shape (row y.state.today k) y.given.participants y.given.participants
  pub today_baskets : length y.state.today ≡ baskets
  pub delivered : Shape y.state.delivered y.given.participants y.given.issues
  pub received : Shape y.state.received y.given.participants y.given.issues

-- the book has the tables that opening brought
pub record HoldsGiven (b : List ℕ) (g : Given) : Type 0 where
  pub codes : Stands b codes_at code_size g.issues code_size g.codes
  pub terms : Stands b terms_at term_size g.issues term_size (terms_rows g)
  pub receipts : Stands b receipts_at most_issues g.participants g.issues g.receipts
  pub pairs : (k : ℕ) → k < 7 → Stands b (mark_square pairs_at k) most_participants g.participants g.participants (row g.pairs k)

-- the book has the day's cells
pub record Holds (b : List ℕ) (y : Day) : Type 0 where
  pub participants : get_or b participants_at 0 ≡ y.given.participants
  pub issues : get_or b issues_at 0 ≡ y.given.issues
  pub runs : get_or b runs_at 0 ≡ y.state.runs
  pub trades : get_or b trades_at 0 ≡ y.state.trades
  pub given : HoldsGiven b y.given
  pub positions : Stands b positions_at most_participants 7 y.given.participants (signed_rows y.state.owed y.state.due)
  pub notices : Stands b notices_at most_issues y.given.participants y.given.issues y.state.notices
  pub today : (k : ℕ) → k < 7 → Stands b (mark_square today_at k) most_participants y.given.participants y.given.participants (row y.state.today k)
  pub tally : Stands b tally_at most_issues y.given.participants y.given.issues (signed_rows y.state.delivered y.state.received)

signed-shape : (out back : List (List ℕ)) (n m : ℕ) → Shape out n m → Shape (signed_rows out back) n m
signed-shape out back n m s = record {
  rows = length-table (length out) _ ∙ s.rows;
  cells = λ p l.
      rw (get_or-table (length out) (λ p. table (length (row out p)) (λ i. signed (cell out p i) (cell back p i))) p [] (omega (arith, s.rows)))
      (length-table (length (row out p)) _ ∙ s.cells p l);
}

pub signed-cell : (out back : List (List ℕ)) (n m p i : ℕ) → Shape out n m → p < n → i < m → cell (signed_rows out back) p i ≡ signed (cell out p i) (cell back p i)
signed-cell out back n m p i s l k =
    rw (get_or-table (length out) (λ p. table (length (row out p)) (λ i. signed (cell out p i) (cell back p i))) p [] (omega (arith, s.rows)))
    (get_or-table (length (row out p)) (λ i. signed (cell out p i) (cell back p i)) i 0 (omega (arith, s.cells p l)))

pub terms-at : (g : Given) (i : ℕ) → i < g.issues → row (terms_rows g) i ≡ terms_row (get_or g.terms i no_terms) (get_or g.marks i no_marks)
terms-at g i l = get_or-table g.issues (λ i. terms_row (get_or g.terms i no_terms) (get_or g.marks i no_marks)) i [] l

pub terms-length : (g : Given) → length (terms_rows g) ≡ g.issues
terms-length g = length-table g.issues _

terms-shape : (g : Given) → Shape (terms_rows g) g.issues term_size
terms-shape g = record { rows = terms-length g; cells = λ p l. rw (terms-at g p l) refl }

-- f on every cell of a table
pub map-shape : (f : ℕ → ℕ) (t : List (List ℕ)) (n m : ℕ) → Shape t n m → Shape (map (map f) t) n m
map-shape f t n m s = record {
  rows = length-map t (map f) ∙ s.rows;
  cells = λ p l. rw (get_d_map (map f) t p [] [] (omega (arith, s.rows))) (length-map (row t p) f ∙ s.cells p l);
}

pub map-cell : (f : ℕ → ℕ) (t : List (List ℕ)) (n m p i : ℕ) → Shape t n m → p < n → i < m → cell (map (map f) t) p i ≡ f (cell t p i)
map-cell f t n m p i s l k =
    rw (get_d_map (map f) t p [] [] (omega (arith, s.rows))) (get_d_map f (row t p) i 0 0 (omega (arith, s.cells p l)))

-- two tables of one shape whose cells agree
pub same-cells : (t u : List (List ℕ)) (n m : ℕ) → Shape t n m → Shape u n m → ((p i : ℕ) → p < n → i < m → cell t p i ≡ cell u p i) → t ≡ u
same-cells t u n m s r h = ext_get_or [] t u (s.rows ∙ sym r.rows) (λ p l.
    let p' : p < n = omega (arith, s.rows) in
    ext_get_or 0 (row t p) (row u p) (s.cells p p' ∙ sym (r.cells p p')) (λ i k. h p i p' (omega (arith, s.cells p p'))))

-- one of the two parts of signed cells
parts-of : (f : ℕ → ℕ) (out back t : List (List ℕ)) (n m : ℕ) → Shape out n m → Shape t n m
    → ((p i : ℕ) → p < n → i < m → f (signed (cell out p i) (cell back p i)) ≡ cell t p i) → map (map f) (signed_rows out back) ≡ t
parts-of f out back t n m s r h =
    let u : Shape (signed_rows out back) n m = signed-shape out back n m s in
    same-cells (map (map f) (signed_rows out back)) t n m (map-shape f (signed_rows out back) n m u) r (λ p i l k.
    map-cell f (signed_rows out back) n m p i u l k ∙ ap f (signed-cell out back n m p i s l k) ∙ h p i l k)

terms-back : (g : Given) → length g.terms ≡ g.issues → map terms_of (terms_rows g) ≡ g.terms
terms-back g e =
    ext_get_or no_terms (map terms_of (terms_rows g)) g.terms (length-map (terms_rows g) terms_of ∙ terms-length g ∙ sym e) (λ p l.
    let k : p < g.issues = omega (arith, length-map (terms_rows g) terms_of, terms-length g) in
    get_d_map terms_of (terms_rows g) p [] no_terms (omega (arith, terms-length g)) ∙ ap terms_of (terms-at g p k))

marks-back : (g : Given) → length g.marks ≡ g.issues → map marks_of (terms_rows g) ≡ g.marks
marks-back g e =
    ext_get_or no_marks (map marks_of (terms_rows g)) g.marks (length-map (terms_rows g) marks_of ∙ terms-length g ∙ sym e) (λ p l.
    let k : p < g.issues = omega (arith, length-map (terms_rows g) marks_of, terms-length g) in
    get_d_map marks_of (terms_rows g) p [] no_marks (omega (arith, terms-length g)) ∙ ap marks_of (terms-at g p k))

-- the first four cells
four : (b : List ℕ) → codes_at ≤ length b → block b 0 codes_at ≡ get_or b participants_at 0 ∷ get_or b issues_at 0 ∷ get_or b runs_at 0 ∷ get_or b trades_at 0 ∷ []
four [] h = absurd (omega arith)
four (a ∷ []) h = absurd (omega arith)
four (a ∷ b ∷ []) h = absurd (omega arith)
four (a ∷ b ∷ c ∷ []) h = absurd (omega arith)
four (a ∷ b ∷ c ∷ d ∷ l) h = refl

-- ---- the tables of a day, by name

abbrev count_rows : Day → List (ℕ × List ℕ)
count_rows y = (0, y.given.participants ∷ y.given.issues ∷ y.state.runs ∷ y.state.trades ∷ []) ∷ []

abbrev code_rows : Given → List (ℕ × List ℕ)
code_rows g = rows_at codes_at code_size g.codes

abbrev issue_rows : Given → List (ℕ × List ℕ)
issue_rows g = rows_at terms_at term_size (terms_rows g)

abbrev receipt_rows : Given → List (ℕ × List ℕ)
receipt_rows g = rows_at receipts_at most_issues g.receipts

abbrev pair_rows : Given → List (ℕ × List ℕ)
pair_rows g = cube_rows pairs_at g.pairs

abbrev position_rows : State → List (ℕ × List ℕ)
position_rows s = rows_at positions_at most_participants (signed_rows s.owed s.due)

abbrev notice_rows : State → List (ℕ × List ℕ)
notice_rows s = rows_at notices_at most_issues s.notices

abbrev today_rows : State → List (ℕ × List ℕ)
today_rows s = cube_rows today_at s.today

abbrev tally_rows : State → List (ℕ × List ℕ)
tally_rows s = rows_at tally_at most_issues (signed_rows s.delivered s.received)

-- P holds of every row with its place
pub record GivenTables (P : ℕ × List ℕ → Type 0) (g : Given) : Type 0 where
  pub codes : Every P (code_rows g)
  pub terms : Every P (issue_rows g)
  pub receipts : Every P (receipt_rows g)
  pub pairs : Every P (pair_rows g)

pub record DayTables (P : ℕ × List ℕ → Type 0) (y : Day) : Type 0 where
  pub counts : Every P (count_rows y)
  pub given : GivenTables P y.given
  pub positions : Every P (position_rows y.state)
  pub notices : Every P (notice_rows y.state)
  pub today : Every P (today_rows y.state)
  pub tally : Every P (tally_rows y.state)

module _ (P : ℕ × List ℕ → Type 0) where
  pub given-tables-of : (g : Given) → Every P (joined (given_tables g)) → GivenTables P g
  given-tables-of g h = shown (every-parts P (given_tables g) h)
    where
      shown : Every (Every P) (given_tables g) → GivenTables P g
      shown (codes, (terms, (receipts, (pairs, _)))) = record {
        codes = codes;
        terms = terms;
        receipts = receipts;
        pairs = pairs;
      }

  each-given : (g : Given) → GivenTables P g → Every (Every P) (given_tables g)
  each-given g t = (t.codes, (t.terms, (t.receipts, (t.pairs, tt))))

  pub of-given-tables : (g : Given) → GivenTables P g → Every P (joined (given_tables g))
  of-given-tables g t = every-join P (given_tables g) (each-given g t)

  pub tables-of : (y : Day) → Every P (joined (tables_of y)) → DayTables P y
  tables-of y h = shown (every-parts P (tables_of y) h)
    where
      shown_state : Every (Every P) (count_rows y ∷ given_tables y.given) → Every (Every P) (state_tables y.state) → DayTables P y
      shown_state (counts, given) (positions, (notices, (today, (tally, _)))) = record {
        counts = counts;
        given = given-tables-of y.given (every-join P (given_tables y.given) given);
        positions = positions;
        notices = notices;
        today = today;
        tally = tally;
      }

      shown : Every (Every P) (tables_of y) → DayTables P y
      shown e =
          shown_state (every-left (Every P) (count_rows y ∷ given_tables y.given) (state_tables y.state) e) (every-right (Every P) (count_rows y ∷ given_tables y.given) (state_tables y.state) e)

  pub of-tables : (y : Day) → DayTables P y → Every P (joined (tables_of y))
  of-tables y t =
      every-join P (tables_of y) (every_append (Every P) (count_rows y ∷ given_tables y.given) (state_tables y.state)
      (t.counts, each-given y.given t.given)
      (t.positions, (t.notices, (t.today, (t.tally, tt)))))

-- ---- the rows of a day

module _ (y : Day) (s : Shaped y) where
  abbrev n : ℕ
  n = y.given.participants

  abbrev m : ℕ
  m = y.given.issues

  abbrev terms : List (List ℕ)
  terms = terms_rows y.given

  abbrev positions : List (List ℕ)
  positions = signed_rows y.state.owed y.state.due

  abbrev tally : List (List ℕ)
  tally = signed_rows y.state.delivered y.state.received

  term-shape : Shape terms m term_size
  term-shape = terms-shape y.given

  position-shape : Shape positions baskets n
  position-shape = signed-shape y.state.owed y.state.due baskets n s.owed

  tally-shape : Shape tally n m
  tally-shape = signed-shape y.state.delivered y.state.received n m s.delivered

  cube-inside : (e at : ℕ) (t : List (List (List ℕ))) → ((k : ℕ) → k < 7 → Shape (row t k) n n) → mark_square at 7 ≤ e → Every (Inside e) (cube_rows at t)
  cube-inside e at t c h = every-joined (Inside e) 7 (λ k. rows_at (mark_square at k) most_participants (row t k)) (λ k l.
      rows_inside [] (mark_square at k) most_participants n n (row t k) (c k l) e s.given.few (omega (arith, s.given.few)))

  cube-rise : (at : ℕ) (t : List (List (List ℕ))) → ((k : ℕ) → k < 7 → Shape (row t k) n n) → Rising at (cube_rows at t)
  cube-rise at t c = rising-joined 7 (λ k. rows_at (mark_square at k) most_participants (row t k)) at 144 (λ k l. (
    rows-rise [] (mark_square at k) most_participants n n (row t k) (c k l) s.given.few,
    rows_inside [] (mark_square at k) most_participants n n (row t k) (c k l) (mark_square at (suc k)) s.given.few (omega (arith, s.given.few)),
  ))

  -- every table ends before the next begins
  codes-in : (e : ℕ) → terms_at ≤ e → Every (Inside e) (code_rows y.given)
  codes-in e h = rows_inside [] codes_at code_size m code_size y.given.codes s.given.codes e (omega arith) (omega (arith, s.given.most))

  terms-in : (e : ℕ) → receipts_at ≤ e → Every (Inside e) (issue_rows y.given)
  terms-in e h = rows_inside [] terms_at term_size m term_size terms term-shape e (omega arith) (omega (arith, s.given.most))

  receipts-in : (e : ℕ) → pairs_at ≤ e → Every (Inside e) (receipt_rows y.given)
  receipts-in e h = rows_inside [] receipts_at most_issues n m y.given.receipts s.given.receipts e s.given.most (omega (arith, s.given.few))

  pairs-in : (e : ℕ) → positions_at ≤ e → Every (Inside e) (pair_rows y.given)
  pairs-in e h = cube-inside e pairs_at y.given.pairs s.given.pairs (omega arith)

  positions-in : (e : ℕ) → notices_at ≤ e → Every (Inside e) (position_rows y.state)
  positions-in e h = rows_inside [] positions_at most_participants baskets n positions position-shape e s.given.few (omega arith)

  notices-in : (e : ℕ) → today_at ≤ e → Every (Inside e) (notice_rows y.state)
  notices-in e h = rows_inside [] notices_at most_issues n m y.state.notices s.notices e s.given.most (omega (arith, s.given.few))

  today-in : (e : ℕ) → tally_at ≤ e → Every (Inside e) (today_rows y.state)
  today-in e h = cube-inside e today_at y.state.today s.today (omega arith)

  tally-in : (e : ℕ) → book_length ≤ e → Every (Inside e) (tally_rows y.state)
  tally-in e h = rows_inside [] tally_at most_issues n m tally tally-shape e s.given.most (omega (arith, s.given.few))

  given-in : (e : ℕ) → positions_at ≤ e → GivenTables (Inside e) y.given
  given-in e h = record {
    codes = codes-in e (omega arith);
    terms = terms-in e (omega arith);
    receipts = receipts-in e (omega arith);
    pairs = pairs-in e h;
  }

  pub given_inside : (e : ℕ) → positions_at ≤ e → Every (Inside e) (joined (given_tables y.given))
  given_inside e h = of-given-tables (Inside e) y.given (given-in e h)

  rows-of-inside : Every (Inside book_length) (joined (tables_of y))
  rows-of-inside = of-tables (Inside book_length) y (record {
    counts = (omega arith, tt);
    given = given-in book_length (omega arith);
    positions = positions-in book_length (omega arith);
    notices = notices-in book_length (omega arith);
    today = today-in book_length (omega arith);
    tally = tally-in book_length (omega arith);
  })

  -- and their rows rise: each table with the place at which the next begins
  abbrev state_chain : List (ℕ × List (ℕ × List ℕ))
  state_chain = (notices_at, position_rows y.state) ∷ (today_at, notice_rows y.state) ∷ (tally_at, today_rows y.state) ∷ (book_length, tally_rows y.state) ∷ []

  abbrev given_chain : List (ℕ × List (ℕ × List ℕ)) → List (ℕ × List (ℕ × List ℕ))
  given_chain ts = (terms_at, code_rows y.given) ∷ (receipts_at, issue_rows y.given) ∷ (pairs_at, receipt_rows y.given) ∷ (positions_at, pair_rows y.given) ∷ ts

  state-chain : Chain positions_at state_chain
  state-chain = (
    rows-rise [] positions_at most_participants baskets n positions position-shape s.given.few,
    positions-in _ (le_refl _),
    omega arith,
    (
      rows-rise [] notices_at most_issues n m y.state.notices s.notices s.given.most,
      notices-in _ (le_refl _),
      omega arith,
      (
        cube-rise today_at y.state.today s.today,
        today-in _ (le_refl _),
        omega arith,
        (rows-rise [] tally_at most_issues n m tally tally-shape s.given.most, tally-in _ (le_refl _), omega arith, tt),
      ),
    ),
  )

  given-chain : (ts : List (ℕ × List (ℕ × List ℕ))) → Chain positions_at ts → Chain codes_at (given_chain ts)
  given-chain ts c = (
    rows-rise [] codes_at code_size m code_size y.given.codes s.given.codes (omega arith),
    codes-in _ (le_refl _),
    omega arith,
    (
      rows-rise [] terms_at term_size m term_size terms term-shape (omega arith),
      terms-in _ (le_refl _),
      omega arith,
      (
        rows-rise [] receipts_at most_issues n m y.given.receipts s.given.receipts s.given.most,
        receipts-in _ (le_refl _),
        omega arith,
        (cube-rise pairs_at y.given.pairs s.given.pairs, pairs-in _ (le_refl _), omega arith, c),
      ),
    ),
  )

  pub given-rise : Rising codes_at (joined (given_tables y.given))
  given-rise = rising-chain codes_at (given_chain []) (given-chain [] tt)

  rows-of-rise : Rising 0 (joined (tables_of y))
  rows-of-rise = rising-chain 0 ((codes_at, count_rows y) ∷ given_chain state_chain) ((omega arith, tt), (omega arith, tt), omega arith, given-chain state_chain state-chain)

  -- ---- rows that are read, and cells

  cube-reads : (b : List ℕ) (at : ℕ) (t : List (List (List ℕ))) → ((k : ℕ) → k < 7 → Shape (row t k) n n) → mark_square at 7 ≤ length b
      → ((k : ℕ) → k < 7 → Stands b (mark_square at k) most_participants n n (row t k)) → Every (Reads b) (cube_rows at t)
  cube-reads b at t c fit h = every-joined (Reads b) 7 (λ k. rows_at (mark_square at k) most_participants (row t k)) (λ k l.
      stands-reads b (mark_square at k) most_participants n n (row t k) (c k l) s.given.few (omega (arith, s.given.few)) (h k l))

  cube-stands : (b : List ℕ) (at : ℕ) (t : List (List (List ℕ))) → ((k : ℕ) → k < 7 → Shape (row t k) n n) → Every (Reads b) (cube_rows at t)
      → (k : ℕ) → k < 7 → Stands b (mark_square at k) most_participants n n (row t k)
  cube-stands b at t c h k l = reads-stands b (mark_square at k) most_participants n n (row t k) (c k l) (joined_at (Reads b) 7 (λ k. rows_at (mark_square at k) most_participants (row t k)) h k l)

  holds-reads : (b : List ℕ) → length b ≡ book_length → Holds b y → Every (Reads b) (joined (tables_of y))
  holds-reads b e h = of-tables (Reads b) y (record {
    counts = (four b (omega arith) ∙ (λ k. h.participants k ∷ h.issues k ∷ h.runs k ∷ h.trades k ∷ []), tt);
    given = record {
      codes = stands-reads b codes_at code_size m code_size y.given.codes s.given.codes (omega arith) (omega (arith, s.given.most)) h.given.codes;
      terms = stands-reads b terms_at term_size m term_size terms term-shape (omega arith) (omega (arith, s.given.most)) h.given.terms;
      receipts = stands-reads b receipts_at most_issues n m y.given.receipts s.given.receipts s.given.most (omega (arith, s.given.few)) h.given.receipts;
      pairs = cube-reads b pairs_at y.given.pairs s.given.pairs (omega arith) h.given.pairs;
    };
    positions = stands-reads b positions_at most_participants baskets n positions position-shape s.given.few (omega arith) h.positions;
    notices = stands-reads b notices_at most_issues n m y.state.notices s.notices s.given.most (omega (arith, s.given.few)) h.notices;
    today = cube-reads b today_at y.state.today s.today (omega arith) h.today;
    tally = stands-reads b tally_at most_issues n m tally tally-shape s.given.most (omega (arith, s.given.few)) h.tally;
  })

  given-stands : (b : List ℕ) → GivenTables (Reads b) y.given → HoldsGiven b y.given
  given-stands b r = record {
    codes = reads-stands b codes_at code_size m code_size y.given.codes s.given.codes r.codes;
    terms = reads-stands b terms_at term_size m term_size terms term-shape r.terms;
    receipts = reads-stands b receipts_at most_issues n m y.given.receipts s.given.receipts r.receipts;
    pairs = cube-stands b pairs_at y.given.pairs s.given.pairs r.pairs;
  }

  pub reads-given : (b : List ℕ) → Every (Reads b) (joined (given_tables y.given)) → HoldsGiven b y.given
  reads-given b h = given-stands b (given-tables-of (Reads b) y.given h)

  reads-holds : (b : List ℕ) → length b ≡ book_length → Every (Reads b) (joined (tables_of y)) → Holds b y
  reads-holds b e h =
      let r : DayTables (Reads b) y = tables-of (Reads b) y h in
      let cells : List ℕ = get_or b participants_at 0 ∷ get_or b issues_at 0 ∷ get_or b runs_at 0 ∷ get_or b trades_at 0 ∷ [] in
      let head : cells ≡ n ∷ m ∷ y.state.runs ∷ y.state.trades ∷ [] = sym (four b (omega arith)) ∙ r.counts.0 in
      record {
        participants = ap (λ (l : List ℕ). get_or l 0 0) head;
        issues = ap (λ (l : List ℕ). get_or l 1 0) head;
        runs = ap (λ (l : List ℕ). get_or l 2 0) head;
        trades = ap (λ (l : List ℕ). get_or l 3 0) head;
        given = given-stands b r.given;
        positions = reads-stands b positions_at most_participants baskets n positions position-shape r.positions;
        notices = reads-stands b notices_at most_issues n m y.state.notices s.notices r.notices;
        today = cube-stands b today_at y.state.today s.today r.today;
        tally = reads-stands b tally_at most_issues n m tally tally-shape r.tally;
      }

  -- ---- the laws

  module _ (b : List ℕ) (size : length b ≡ book_length) where
    inside : Every (Inside (length b)) (joined (tables_of y))
    inside = subst (λ (k : ℕ). Every (Inside k) (joined (tables_of y))) (sym size) rows-of-inside

    pub length-stored : length (stored b y) ≡ book_length
    unfolding stored
    length-stored = length-written (joined (tables_of y)) b inside ∙ size

    -- the book has what was stored
    pub stored-holds : Holds (stored b y) y
    unfolding stored
    stored-holds = reads-holds (written b (joined (tables_of y))) (length-written (joined (tables_of y)) b inside ∙ size) (written-reads (joined (tables_of y)) b 0 inside rows-of-rise)

    -- a book that has the day's cells, and elsewhere those of b, is b with the day stored
    pub stored_is : (c : List ℕ) → length c ≡ book_length → Holds c y → ((j : ℕ) → Every (Outside j) (joined (tables_of y)) → get_or c j 0 ≡ get_or b j 0) → stored b y ≡ c
    unfolding stored
    stored_is c e h same = written_is (joined (tables_of y)) b c (e ∙ sym size) inside (holds-reads c e h) same

    -- places beyond the day's sizes stay
    pub stored-out : (j : ℕ) → Every (Outside j) (joined (tables_of y)) → get_or (stored b y) j 0 ≡ get_or b j 0
    unfolding stored
    stored-out j h = written_out (joined (tables_of y)) b j inside h

    -- a place outside the day's tables is outside each row
    module _ (j : ℕ) (q : Every (Outside j) (joined (tables_of y))) where
      parts : DayTables (Outside j) y
      parts = tables-of (Outside j) y q

      pub outside-sizes : codes_at ≤ j
      outside-sizes = past parts.counts.0
        where
          past : (j < 0) ⊎ (codes_at ≤ j) → codes_at ≤ j
          past (inl h) = absurd (omega arith)
          past (inr h) = h

      of_row : (at stride p k l : ℕ) (t : List (List ℕ)) → Shape t k l → p < k → Every (Outside j) (rows_at at stride t) → (j < at + stride * p) ⊎ (at + stride * p + l ≤ j)
      of_row at stride p k l t c h v =
          subst (λ (i : ℕ). (j < at + stride * p) ⊎ (at + stride * p + i ≤ j)) (c.cells p h) (rows-at (Outside j) stride t at v p (omega (arith, c.rows)))

      pub outside-position : (k : ℕ) → k < 7 → (j < position_row k) ⊎ (position_cell k n ≤ j)
      outside-position k h = of_row positions_at most_participants k baskets n positions position-shape h parts.positions

      pub outside-notice : (p : ℕ) → p < n → (j < lots_row notices_at p) ⊎ (lots_cell notices_at p m ≤ j)
      outside-notice p h = of_row notices_at most_issues p n m y.state.notices s.notices h parts.notices

      pub outside-pair : (k p : ℕ) → k < 7 → p < n → (j < mark_square today_at k + most_participants * p) ⊎ (mark_cell today_at k p n ≤ j)
      outside-pair k p l h =
          of_row (mark_square today_at k) most_participants p n n (row y.state.today k) (s.today k l) h
          (joined_at (Outside j) 7 (λ k. rows_at (mark_square today_at k) most_participants (row y.state.today k)) parts.today k l)

      pub outside-tally : (p : ℕ) → p < n → (j < lots_row tally_at p) ⊎ (lots_row tally_at p + m ≤ j)
      outside-tally p h = of_row tally_at most_issues p n m tally tally-shape h parts.tally

  -- ---- what a book that has the day's cells is viewed as

  pub record Signed : Type 0 where
    pub positions : (k p : ℕ) → k < 7 → p < n → Signs (cell y.state.owed k p) (cell y.state.due k p)
    pub tally : (p i : ℕ) → p < n → i < m → Signs (cell y.state.delivered p i) (cell y.state.received p i)

  cube-view : (b : List ℕ) (at : ℕ) (t : List (List (List ℕ))) → length t ≡ 7 → ((k : ℕ) → k < 7 → Shape (row t k) n n) → mark_square at 7 ≤ length b
      → ((k : ℕ) → k < 7 → Stands b (mark_square at k) most_participants n n (row t k)) → cube b at n ≡ t
  cube-view b at t e c fit h = ext_get_or [] (cube b at n) t (length-table 7 (λ k. grid b (mark_square at k) most_participants n n) ∙ sym e) (λ k l.
      let k' : k < 7 = omega (arith, length-table 7 (λ k. grid b (mark_square at k) most_participants n n)) in
      get_or-table 7 (λ k. grid b (mark_square at k) most_participants n n) k [] k'
      ∙ stands-grid b (mark_square at k) most_participants n n (row t k) (c k k') s.given.few (omega (arith, s.given.few)) (h k k'))

  module _ (b : List ℕ) (size : length b ≡ book_length) (h : Holds b y) (g : Signed) where
    position-grid : grid b positions_at most_participants baskets n ≡ positions
    position-grid = stands-grid b positions_at most_participants baskets n positions position-shape s.given.few (omega arith) h.positions

    tally-grid : grid b tally_at most_issues n m ≡ tally
    tally-grid = stands-grid b tally_at most_issues n m tally tally-shape s.given.most (omega (arith, s.given.few)) h.tally

    term-grid : grid b terms_at term_size m term_size ≡ terms
    term-grid = stands-grid b terms_at term_size m term_size terms term-shape (omega arith) (omega (arith, s.given.most)) h.given.terms

    pub holds-view : view b ≡ y
    unfolding view
    holds-view =
        let en : get_or b participants_at 0 ≡ n = h.participants in
        let em : get_or b issues_at 0 ≡ m = h.issues in
        let codes : grid b codes_at code_size (get_or b issues_at 0) code_size ≡ y.given.codes =
        ap (λ (j : ℕ). grid b codes_at code_size j code_size) em ∙ stands-grid b codes_at code_size m code_size y.given.codes s.given.codes (omega arith) (omega (arith, s.given.most)) h.given.codes in
        let issue_terms : map terms_of (grid b terms_at term_size (get_or b issues_at 0) term_size) ≡ y.given.terms =
        ap (λ (j : ℕ). map terms_of (grid b terms_at term_size j term_size)) em
        ∙ ap (map terms_of) term-grid ∙ terms-back y.given s.given.terms in
        let marks : map marks_of (grid b terms_at term_size (get_or b issues_at 0) term_size) ≡ y.given.marks =
        ap (λ (j : ℕ). map marks_of (grid b terms_at term_size j term_size)) em ∙ ap (map marks_of) term-grid ∙ marks-back y.given s.given.marks in
        let receipts : grid b receipts_at most_issues (get_or b participants_at 0) (get_or b issues_at 0) ≡ y.given.receipts =
        ap₂ (grid b receipts_at most_issues) en em ∙ stands-grid b receipts_at most_issues n m y.given.receipts s.given.receipts s.given.most (omega (arith, s.given.few)) h.given.receipts in
        let pairs : cube b pairs_at (get_or b participants_at 0) ≡ y.given.pairs =
        ap (cube b pairs_at) en ∙ cube-view b pairs_at y.given.pairs s.given.pair_baskets s.given.pairs (omega arith) h.given.pairs in
        let side_positions : (f : ℕ → ℕ) → map (map f) (grid b positions_at most_participants baskets (get_or b participants_at 0)) ≡ map (map f) positions =
        λ f. ap (λ (j : ℕ). map (map f) (grid b positions_at most_participants baskets j)) en ∙ ap (map (map f)) position-grid in
        let notices : grid b notices_at most_issues (get_or b participants_at 0) (get_or b issues_at 0) ≡ y.state.notices =
        ap₂ (grid b notices_at most_issues) en em ∙ stands-grid b notices_at most_issues n m y.state.notices s.notices s.given.most (omega (arith, s.given.few)) h.notices in
        let today : cube b today_at (get_or b participants_at 0) ≡ y.state.today =
        ap (cube b today_at) en ∙ cube-view b today_at y.state.today s.today_baskets s.today (omega arith) h.today in
        let side_tally : (f : ℕ → ℕ) → map (map f) (grid b tally_at most_issues (get_or b participants_at 0) (get_or b issues_at 0)) ≡ map (map f) tally =
        λ f. ap (map (map f)) (ap₂ (grid b tally_at most_issues) en em ∙ tally-grid) in
        let owed : map (map plus) (grid b positions_at most_participants baskets (get_or b participants_at 0)) ≡ y.state.owed =
        side_positions plus ∙ parts-of plus y.state.owed y.state.due y.state.owed 7 n s.owed s.owed (λ k p l j. plus-signed (g.positions k p l j)) in
        let due : map (map minus) (grid b positions_at most_participants baskets (get_or b participants_at 0)) ≡ y.state.due =
        side_positions minus ∙ parts-of minus y.state.owed y.state.due y.state.due 7 n s.owed s.due (λ k p l j. minus-signed (g.positions k p l j)) in
        let delivered : map (map plus) (grid b tally_at most_issues (get_or b participants_at 0) (get_or b issues_at 0)) ≡ y.state.delivered =
        side_tally plus ∙ parts-of plus y.state.delivered y.state.received y.state.delivered n m s.delivered s.delivered (λ p i l j. plus-signed (g.tally p i l j)) in
        let received : map (map minus) (grid b tally_at most_issues (get_or b participants_at 0) (get_or b issues_at 0)) ≡ y.state.received =
        side_tally minus ∙ parts-of minus y.state.delivered y.state.received y.state.received n m s.delivered s.received (λ p i l j. minus-signed (g.tally p i l j)) in
        λ i. record {
          given = record { participants = en i; issues = em i; codes = codes i; terms = issue_terms i; marks = marks i; receipts = receipts i; pairs = pairs i };
          state = record {
            runs = h.runs i;
            trades = h.trades i;
            owed = owed i;
            due = due i;
            notices = notices i;
            today = today i;
            delivered = delivered i;
            received = received i;
          };
        }

-- what is stored is what is viewed
pub view-stored : (y : Day) (s : Shaped y) → Signed y s → (b : List ℕ) → length b ≡ book_length → view (stored b y) ≡ y
view-stored y s g b size = holds-view y s (stored b y) (length-stored y s b size) (stored-holds y s b size) g

-- ---- what a book is viewed as, it has

terms-cell : (l : List ℕ) (i : ℕ) → i < 6 → get_or (terms_row (terms_of l) (marks_of l)) i 0 ≡ get_or l i 0
terms-cell l zero h = refl
terms-cell l (suc zero) h = refl
terms-cell l (suc (suc zero)) h = refl
terms-cell l (suc (suc (suc zero))) h = refl
terms-cell l (suc (suc (suc (suc zero)))) h = refl
terms-cell l (suc (suc (suc (suc (suc zero))))) h = refl
terms-cell l (suc (suc (suc (suc (suc (suc i)))))) h = absurd (omega arith)

-- rows of six cells, read as terms and marks and written again
row-again : (t : List (List ℕ)) (i : ℕ) → i < length t
    → terms_row (get_or (map terms_of t) i no_terms) (get_or (map marks_of t) i no_marks) ≡ terms_row (terms_of (row t i)) (marks_of (row t i))
row-again t i l = ap₂ terms_row (get_d_map terms_of t i [] no_terms l) (get_d_map marks_of t i [] no_marks l)

pub terms-rows : (g : Given) (t : List (List ℕ)) → g.terms ≡ map terms_of t → g.marks ≡ map marks_of t → Shape t g.issues term_size → terms_rows g ≡ t
terms-rows g t e q s =
    ext_get_or [] (terms_rows g) t (terms-length g ∙ sym s.rows) (λ p l.
    let k : p < g.issues = omega (arith, terms-length g) in
    terms-at g p k
    ∙ ap₂ (λ (ts : List Terms) (ms : List Marks). terms_row (get_or ts p no_terms) (get_or ms p no_marks)) e q
    ∙ row-again t p (omega (arith, s.rows))
    ∙ ext_get_or 0 (terms_row (terms_of (row t p)) (marks_of (row t p))) (row t p) (sym (s.cells p k)) (terms-cell (row t p)))

-- the cells of a signed table, split and joined again
split-stands : (b : List ℕ) (at stride n m : ℕ) → ((j : ℕ) → get_or b j 0 < whole) → Shape (grid b at stride n m) n m
    → Stands b at stride n m (signed_rows (map (map plus) (grid b at stride n m)) (map (map minus) (grid b at stride n m)))
split-stands b at stride n m words s p i l k =
    let g : List (List ℕ) = grid b at stride n m in
    let e : cell g p i ≡ get_or b (at + stride * p + i) 0 = sym (grid-stands b at stride n m p i l k) in
    sym (signed-cell (map (map plus) g) (map (map minus) g) n m p i (map-shape plus g n m s) l k
    ∙ ap₂ signed (map-cell plus g n m p i s l k ∙ ap plus e) (map-cell minus g n m p i s l k ∙ ap minus e)
    ∙ signed-split (get_or b (at + stride * p + i) 0) (words (at + stride * p + i)))

split-signs : (b : List ℕ) (at stride n m : ℕ) → ((j : ℕ) → get_or b j 0 < whole) → Shape (grid b at stride n m) n m
    → (p i : ℕ) → p < n → i < m → Signs (cell (map (map plus) (grid b at stride n m)) p i) (cell (map (map minus) (grid b at stride n m)) p i)
split-signs b at stride n m words s p i l k =
    let g : List (List ℕ) = grid b at stride n m in
    let e : cell g p i ≡ get_or b (at + stride * p + i) 0 = sym (grid-stands b at stride n m p i l k) in
    rw (map-cell plus g n m p i s l k, map-cell minus g n m p i s l k, e) (cell-signs (get_or b (at + stride * p + i) 0) (words (at + stride * p + i)))

pub record Readable (b : List ℕ) : Type 0 where
  pub size : length b ≡ book_length
  pub few : get_or b participants_at 0 ≤ 12
  pub most : get_or b issues_at 0 ≤ 32
  pub words : (j : ℕ) → get_or b j 0 < 18446744073709551616

module _ (b : List ℕ) (r : Readable b) where
  position-read : Shape (grid b positions_at most_participants 7 (get_or b participants_at 0)) 7 (get_or b participants_at 0)
  position-read = grid-shape b positions_at most_participants 7 (get_or b participants_at 0) r.few (omega (arith, r.size))

  tally-read : Shape (grid b tally_at most_issues (get_or b participants_at 0) (get_or b issues_at 0)) (get_or b participants_at 0) (get_or b issues_at 0)
  tally-read = grid-shape b tally_at most_issues (get_or b participants_at 0) (get_or b issues_at 0) r.most (omega (arith, r.size, r.few))

  cube-row : (at k : ℕ) → k < 7 → row (cube b at (get_or b participants_at 0)) k ≡ grid b (mark_square at k) most_participants (get_or b participants_at 0) (get_or b participants_at 0)
  cube-row at k l = get_or-table 7 (λ k. grid b (mark_square at k) most_participants (get_or b participants_at 0) (get_or b participants_at 0)) k [] l

  cube-read : (at : ℕ) → mark_square at 7 ≤ book_length → (k : ℕ) → k < 7 → Shape (row (cube b at (get_or b participants_at 0)) k) (get_or b participants_at 0) (get_or b participants_at 0)
  cube-read at fit k l = rw (cube-row at k l) (grid-shape b (mark_square at k) most_participants (get_or b participants_at 0) (get_or b participants_at 0) r.few (omega (arith, r.size, r.few)))

  pub view-shaped : Shaped (view b)
  unfolding view
  view-shaped = record {
    given = record {
      few = r.few;
      most = r.most;
      codes = grid-shape b codes_at code_size (get_or b issues_at 0) code_size (omega arith) (omega (arith, r.size, r.most));
      terms = length-map (grid b terms_at term_size (get_or b issues_at 0) term_size) terms_of ∙ length-table (get_or b issues_at 0) _;
      marks = length-map (grid b terms_at term_size (get_or b issues_at 0) term_size) marks_of ∙ length-table (get_or b issues_at 0) _;
      receipts = grid-shape b receipts_at most_issues (get_or b participants_at 0) (get_or b issues_at 0) r.most (omega (arith, r.size, r.few));
      pairs = cube-read pairs_at (omega arith);
      pair_baskets = length-table baskets (λ k. grid b (mark_square pairs_at k) most_participants (get_or b participants_at 0) (get_or b participants_at 0));
    };
    owed = map-shape plus (grid b positions_at most_participants 7 (get_or b participants_at 0)) 7 (get_or b participants_at 0) position-read;
    due = map-shape minus (grid b positions_at most_participants 7 (get_or b participants_at 0)) 7 (get_or b participants_at 0) position-read;
    notices = grid-shape b notices_at most_issues (get_or b participants_at 0) (get_or b issues_at 0) r.most (omega (arith, r.size, r.few));
    today = cube-read today_at (omega arith);
    today_baskets = length-table 7 (λ k. grid b (mark_square today_at k) most_participants (get_or b participants_at 0) (get_or b participants_at 0));
    delivered = map-shape plus (grid b tally_at most_issues (get_or b participants_at 0) (get_or b issues_at 0)) (get_or b participants_at 0) (get_or b issues_at 0) tally-read;
    received = map-shape minus (grid b tally_at most_issues (get_or b participants_at 0) (get_or b issues_at 0)) (get_or b participants_at 0) (get_or b issues_at 0) tally-read;
  }

  pub view-signed : Signed (view b) view-shaped
  unfolding view
  view-signed = record {
    positions = split-signs b positions_at most_participants 7 (get_or b participants_at 0) r.words position-read;
    tally = split-signs b tally_at most_issues (get_or b participants_at 0) (get_or b issues_at 0) r.words tally-read;
  }

  cube-holds : (at k : ℕ) → k < 7 → Stands b (mark_square at k) most_participants (get_or b participants_at 0) (get_or b participants_at 0) (row (cube b at (get_or b participants_at 0)) k)
  cube-holds at k l = rw (cube-row at k l) (grid-stands b (mark_square at k) most_participants (get_or b participants_at 0) (get_or b participants_at 0))

  term-read : Shape (grid b terms_at term_size (get_or b issues_at 0) term_size) (get_or b issues_at 0) 6
  term-read = grid-shape b terms_at term_size (get_or b issues_at 0) term_size (omega arith) (omega (arith, r.size, r.most))

  terms-holds : Stands b terms_at term_size (get_or b issues_at 0) term_size (terms_rows (view b).given)
  unfolding view
  terms-holds =
      let g : List (List ℕ) = grid b terms_at term_size (get_or b issues_at 0) term_size in
      rw (terms-rows (view b).given g refl refl term-read) (grid-stands b terms_at term_size (get_or b issues_at 0) term_size)

  pub view-holds : Holds b (view b)
  unfolding view
  view-holds = record {
    participants = refl;
    issues = refl;
    runs = refl;
    trades = refl;
    given = record {
      codes = grid-stands b codes_at code_size (get_or b issues_at 0) code_size;
      terms = terms-holds;
      receipts = grid-stands b receipts_at most_issues (get_or b participants_at 0) (get_or b issues_at 0);
      pairs = cube-holds pairs_at;
    };
    positions = split-stands b positions_at most_participants 7 (get_or b participants_at 0) r.words position-read;
    notices = grid-stands b notices_at most_issues (get_or b participants_at 0) (get_or b issues_at 0);
    today = cube-holds today_at;
    tally = split-stands b tally_at most_issues (get_or b participants_at 0) (get_or b issues_at 0) r.words tally-read;
  }

  -- what is viewed, stored again, changes nothing
  pub stored-view : stored b (view b) ≡ b
  stored-view = stored_is (view b) view-shaped b r.size b r.size view-holds (λ j h. refl)

-- ---- tables that stay where their cells have not changed

module _ (y : Day) (s : Shaped y) (b c : List ℕ) where
  abbrev participants : ℕ
  participants = y.given.participants

  abbrev issues : ℕ
  issues = y.given.issues

  square-kept : (at : ℕ) (marks : List (List ℕ)) → ((j : ℕ) → at ≤ j → j < at + square → get_or c j 0 ≡ get_or b j 0)
      → Stands b at most_participants participants participants marks → Stands c at most_participants participants participants marks
  square-kept at marks same v = stands-agree b c at most_participants participants participants marks s.given.few (λ j l k. same j l (omega (arith, s.given.few))) v

  pub given-kept : ((j : ℕ) → codes_at ≤ j → j < positions_at → get_or c j 0 ≡ get_or b j 0) → HoldsGiven b y.given → HoldsGiven c y.given
  given-kept same v = record {
    codes = stands-agree b c codes_at code_size issues code_size y.given.codes (omega arith) (λ j l k. same j (omega arith) (omega (arith, s.given.most))) v.codes;
    terms = stands-agree b c terms_at term_size issues term_size (terms_rows y.given) (omega arith) (λ j l k. same j (omega arith) (omega (arith, s.given.most))) v.terms;
    receipts = stands-agree b c receipts_at most_issues participants issues y.given.receipts s.given.most (λ j l k. same j (omega arith) (omega (arith, s.given.few))) v.receipts;
    pairs = λ q h. square-kept (mark_square pairs_at q) (row y.given.pairs q) (λ j l k. same j (omega arith) (omega (arith, h))) (v.pairs q h);
  }

  pub positions-kept : ((j : ℕ) → positions_at ≤ j → j < notices_at → get_or c j 0 ≡ get_or b j 0) → Holds b y
      → Stands c positions_at most_participants baskets participants (signed_rows y.state.owed y.state.due)
  positions-kept same v =
      stands-agree b c positions_at most_participants baskets participants (signed_rows y.state.owed y.state.due) s.given.few (λ j l k. same j l (omega arith)) v.positions

  pub notices-kept : ((j : ℕ) → notices_at ≤ j → j < today_at → get_or c j 0 ≡ get_or b j 0) → Holds b y
      → Stands c notices_at most_issues participants issues y.state.notices
  notices-kept same v =
      stands-agree b c notices_at most_issues participants issues y.state.notices s.given.most (λ j l k. same j l (omega (arith, s.given.few))) v.notices

  pub today-kept : ((j : ℕ) → today_at ≤ j → j < tally_at → get_or c j 0 ≡ get_or b j 0) → Holds b y
      → (k : ℕ) → k < baskets → Stands c (mark_square today_at k) most_participants participants participants (row y.state.today k)
  today-kept same v q h =
      square-kept (mark_square today_at q) (row y.state.today q) (λ j l k. same j (omega arith) (omega (arith, h))) (v.today q h)

  pub tally-kept : ((j : ℕ) → tally_at ≤ j → get_or c j 0 ≡ get_or b j 0) → Holds b y
      → Stands c tally_at most_issues participants issues (signed_rows y.state.delivered y.state.received)
  tally-kept same v =
      stands-agree b c tally_at most_issues participants issues (signed_rows y.state.delivered y.state.received) s.given.most (λ j l k. same j l) v.tally
