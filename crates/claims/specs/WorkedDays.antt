-- Document 01, "A table of worked days": all ten rows, each through the public calls on a book. proofs/Worked.antt proves them as one
-- theorem. Assumes nothing.
use Rattle.std.specs.Prelude.{◌≡◌, ℕ, ◌-◌, ◌*◌, List, [], ◌∷◌, ◌++◌, map, take}
use Rattle.lists.specs.Tables.{zeros}
use Rattle.rule.specs.Value.{value}
use Rattle.rule.specs.Isin.{check_digit}
use Rattle.rule.specs.Day.{baskets, terms_of}
use Rattle.rule.specs.Calls.{Reply, accepted, counts, refused, most_matches, most_lines}
use Rattle.rule.specs.Layout.{book_length, open_of, run_of}
use Rattle.rule.specs.Entries.{MatchEntry, LineEntry, match_of, line_of, match_size, line_size}
use Rattle.rule.specs.WorkedIssues.{code0, code1, wrong_code, terms}
use Rattle.rule.specs.History.{matches_of, lines_of, Call, trade, notice, run, history}

-- the book that is lent to the opening, and the lists that are lent to a run
abbrev pub blank : List ℕ
blank = zeros book_length

abbrev pub match_places : List ℕ
match_places = zeros (match_size * most_matches)

abbrev pub line_places : List ℕ
line_places = zeros (line_size * most_lines)

-- what a run answers and hands out
pub record Outcome : Type 0 where
  pub reply : Reply
  pub matches : List MatchEntry
  pub lines : List LineEntry

-- an opening of n participants, with participant 0's scheduled receipts of issues 0 and 1, "no .. pairs"; calls; and then a run
unfoldable pub outcome : ℕ → List ℕ → List ℕ → List Call → List ℕ → Outcome
outcome n issue_terms scheduled calls draw =
    let receipts : List ℕ = scheduled ++ zeros (2 * (n - 1)) in
    let o : Reply × List ℕ = open_of n 2 (code0 ++ code1) (issue_terms ++ issue_terms) receipts (zeros (baskets * (n * n))) blank in
    let r : Reply × (List ℕ × List ℕ × List ℕ) = run_of (history o.1 calls).book draw match_places line_places in
    record { reply = r.0; matches = matches_of r.0 r.1.1; lines = lines_of r.0 r.1.2 }

abbrev pub in_order : List ℕ
in_order = 0 ∷ 1 ∷ []

-- "basket C, run 1": participant 0 notifies lots of issues 0 and 1 and sells yen to participant 1
abbrev pub sale : List ℕ → List ℕ → List ℕ → ℕ → Outcome
sale issue_terms notified scheduled yen = outcome 2 issue_terms scheduled (notice 0 (0 ∷ 1 ∷ []) notified ∷ trade 0 1 2 yen ∷ []) in_order

-- "Price 10,000, coupon 0 .. scheduled as notified"
abbrev pub plain_sale : ℕ → ℕ → ℕ → Outcome
plain_sale lots0 lots1 yen = sale (terms 10000 0 0) (lots0 ∷ lots1 ∷ []) (lots0 ∷ lots1 ∷ []) yen

-- "Run 3, no notice"
abbrev pub third_run : ℕ → Outcome
third_run yen =
    let earlier : Call = run in_order match_places line_places in
    outcome 2 (terms 10000 0 0) (0 ∷ 0 ∷ []) (earlier ∷ earlier ∷ trade 0 1 2 yen ∷ []) in_order

-- "Positions 50, 80, −60, −70, draw 3, 2, 0, 1"
abbrev pub four_positions : Outcome
four_positions = outcome 4 (terms 10000 0 0) (0 ∷ 0 ∷ []) (trade 0 2 2 50 ∷ trade 1 2 2 10 ∷ trade 1 3 2 70 ∷ []) (3 ∷ 2 ∷ 0 ∷ 1 ∷ [])

-- basket, deliverer, receiver and matched yen
abbrev pub parties : MatchEntry → List ℕ
parties m = m.basket ∷ m.deliverer ∷ m.receiver ∷ m.matched ∷ []

pub record WorkedDays : Type 0 where
  -- "Coupon 100, 1 day: interest on 7 lots 0, on 8 lots 1"
  pub row1 : map (value (terms_of (terms 10000 100 1))) (7 ∷ 8 ∷ []) ≡ 350000 ∷ 400001 ∷ []
  pub row1_seven : (sale (terms 10000 100 1) (9 ∷ 0 ∷ []) (9 ∷ 0 ∷ []) 350000).lines ≡ map line_of ((0 ∷ 0 ∷ 7 ∷ []) ∷ [])
  pub row1_eight : (sale (terms 10000 100 1) (9 ∷ 0 ∷ []) (9 ∷ 0 ∷ []) 400001).lines ≡ map line_of ((0 ∷ 0 ∷ 8 ∷ []) ∷ [])
  pub row1_nine : (sale (terms 10000 100 1) (9 ∷ 0 ∷ []) (9 ∷ 0 ∷ []) 400002).lines ≡ map line_of ((0 ∷ 0 ∷ 9 ∷ []) ∷ [])
  -- "JP0000000019 gets 2"
  pub row2 : (open_of 2 1 wrong_code (terms 10000 0 0) (zeros 2) (zeros 28) blank).0 ≡ refused 2
  pub row2_right : (open_of 2 1 code0 (terms 10000 0 0) (zeros 2) (zeros 28) blank).0 ≡ accepted
  pub row2_digit : check_digit (take 11 wrong_code) ≡ 8
  -- "Run 1, notified and scheduled 2 and 1 lots, 120,000 yen: lots 2 and 1"
  pub row3 : plain_sale 2 1 120000 ≡ record {
    reply = counts 1 2;
    matches = map match_of ((2 ∷ 0 ∷ 1 ∷ 120000 ∷ 120000 ∷ 0 ∷ 0 ∷ []) ∷ []);
    lines = map line_of ((0 ∷ 0 ∷ 2 ∷ []) ∷ (0 ∷ 1 ∷ 1 ∷ []) ∷ []);
  }
  -- "Same, 160,000 yen: covered 0"
  pub row4 : plain_sale 2 1 160000 ≡ record { reply = counts 1 0; matches = map match_of ((2 ∷ 0 ∷ 1 ∷ 160000 ∷ 0 ∷ 0 ∷ 0 ∷ []) ∷ []); lines = [] }
  -- "400 lots, 20,000,000 yen: 400 lots"
  pub row5 : plain_sale 400 0 20000000 ≡ record {
    reply = counts 1 1;
    matches = map match_of ((2 ∷ 0 ∷ 1 ∷ 20000000 ∷ 20000000 ∷ 0 ∷ 0 ∷ []) ∷ []);
    lines = map line_of ((0 ∷ 0 ∷ 400 ∷ []) ∷ []);
  }
  -- "400 lots, 20,000,001 yen: covered 10,000,001, 201 lots"
  pub row6 : plain_sale 400 0 20000001 ≡ record {
    reply = counts 1 1;
    matches = map match_of ((2 ∷ 0 ∷ 1 ∷ 20000001 ∷ 10000001 ∷ 0 ∷ 0 ∷ []) ∷ []);
    lines = map line_of ((0 ∷ 0 ∷ 201 ∷ []) ∷ []);
  }
  -- "Notified 5 and 9, scheduled 5 and 1, 120,000 yen: 2 and 1"
  pub row7 : (sale (terms 10000 0 0) (5 ∷ 9 ∷ []) (5 ∷ 1 ∷ []) 120000).lines ≡ map line_of ((0 ∷ 0 ∷ 2 ∷ []) ∷ (0 ∷ 1 ∷ 1 ∷ []) ∷ [])
  -- "Price 10,100, 250,000 lots, 10,000,000,000 yen: 198,020 lots"
  pub row8 : (sale (terms 10100 0 0) (250000 ∷ 0 ∷ []) (250000 ∷ 0 ∷ []) 10000000000).lines ≡ map line_of ((0 ∷ 0 ∷ 198020 ∷ []) ∷ [])
  -- "Run 3, no notice, 120,000 yen: 3 forced lots of issue 0"
  pub row9 : third_run 120000 ≡ record {
    reply = counts 1 1;
    matches = map match_of ((2 ∷ 0 ∷ 1 ∷ 120000 ∷ 120000 ∷ 0 ∷ 3 ∷ []) ∷ []);
    lines = map line_of ((0 ∷ 0 ∷ 3 ∷ []) ∷ []);
  }
  -- "1 to 3 for 70, 1 to 2 for 10, 0 to 2 for 50"
  pub row10 : map parties four_positions.matches ≡ (2 ∷ 1 ∷ 3 ∷ 70 ∷ []) ∷ (2 ∷ 1 ∷ 2 ∷ 10 ∷ []) ∷ (2 ∷ 0 ∷ 2 ∷ 50 ∷ []) ∷ []
