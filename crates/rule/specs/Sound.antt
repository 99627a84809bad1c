-- Document 01, the ranges of opening data, and "A book is sound if ..", of a day. Assumes nothing.
use Rattle.std.specs.Prelude.{ℕ, ◌+◌, ◌*◌, Bool, ◌&&◌, ◌||◌, List, [], ◌∷◌, length, get_or, leb, ltb, eqb}
use Rattle.lists.specs.Tests.{all_below, holds}
use Rattle.lists.specs.Tables.{row, cell}
use Rattle.lists.specs.Folds.{sum, joined}
use Rattle.rule.specs.Value.{Terms, no_terms}
use Rattle.rule.specs.Isin.{codes_right}
use Rattle.rule.specs.Allocable.{Marks, no_marks}
use Rattle.rule.specs.Filling.{eligible}
use Rattle.rule.specs.Day.{Given, State, Day, baskets, mark}

-- "A day has 2 to 12 participants and 1 to 32 issues"
unfoldable pub sizes_fit : ℕ → ℕ → Bool
sizes_fit n m = leb 2 n && leb n 12 && leb 1 m && leb m 32

-- "kind, price (.. 1,000 to 30,000), coupon (.. 0 to 20,000), days of accrued interest (0 to 366)"
unfoldable pub terms_fit : Terms → Bool
terms_fit t =
    leb t.kind 6 && leb 1000 t.price && leb t.price 30000 && leb t.coupon 20000 && leb t.days 366

-- ".. and two marks, 0 or 1"
unfoldable pub marks_fit : Marks → Bool
marks_fit m = leb m.redeemed 1 && leb m.interest 1

unfoldable pub all_terms_fit : ℕ → List Terms → List Marks → Bool
all_terms_fit m ts ms = all_below m (λ i. terms_fit (get_or ts i no_terms) && marks_fit (get_or ms i no_marks))

-- every cell of n rows of m is at most a bound
unfoldable pub at_most : ℕ → ℕ → ℕ → List (List ℕ) → Bool
at_most bound n m t = all_below n (λ p. all_below m (λ i. leb (cell t p i) bound))

-- "scheduled receipts (0 to 10^12 lots by participant and issue)"
unfoldable pub receipts_fit : ℕ → ℕ → List (List ℕ) → Bool
receipts_fit n m t = at_most 1000000000000 n m t

-- "pair marks (0 or 1 by basket, deliverer, receiver; never a participant with itself)"
unfoldable pub pairs_fit : ℕ → List (List (List ℕ)) → Bool
pairs_fit n t =
    all_below baskets (λ k. at_most 1 n n (row t k)) && all_below baskets (λ k. all_below n (λ p. eqb (mark t k p p) 0))

-- the basket has an unmarked issue
unfoldable pub tradable : ℕ → List Terms → List Marks → Bool
tradable k ts ms = ltb 0 (length (eligible k ts ms))

-- the limits of positions in yen, and of notified lots; a tally's for each run done; and of trades
abbrev pub position_limit : ℕ
position_limit = 10000000000000

abbrev pub notice_limit : ℕ
notice_limit = 200000000

abbrev pub tally_limit : ℕ
tally_limit = 100000000000

abbrev pub trade_limit : ℕ
trade_limit = 10000

-- ---- "A book is sound if ..": the tests of its day, in groups

-- "runs done are at most 3, .. notice and trade limits hold"
abbrev pub limit_tests : Day → List Bool
limit_tests y =
    let n : ℕ = y.given.participants in
    let m : ℕ = y.given.issues in
    let s : State = y.state in
    leb s.runs 3
    ∷ at_most notice_limit n m s.notices
    ∷ leb s.trades trade_limit
    ∷ []

-- ".. all opening ranges, codes .. hold", "pair marks are 0 or 1 with none on oneself": what opening brought, yesterday's marks with it
abbrev pub given_tests : Given → List Bool
given_tests g =
    let n : ℕ = g.participants in
    let m : ℕ = g.issues in
    sizes_fit n m
    ∷ codes_right g.codes
    ∷ all_terms_fit m g.terms g.marks
    ∷ receipts_fit n m g.receipts
    ∷ pairs_fit n g.pairs
    ∷ []

-- "positions are within 10^13 and sum to zero per basket, a basket with a position has an unmarked issue"
abbrev pub position_tests : Day → List Bool
position_tests y =
    let g : Given = y.given in
    let n : ℕ = g.participants in
    let s : State = y.state in
    at_most position_limit baskets n s.owed
    ∷ at_most position_limit baskets n s.due
    ∷ all_below baskets (λ k. eqb (sum (row s.owed k)) (sum (row s.due k)))
    ∷ all_below baskets (λ k. eqb (sum (row s.owed k) + sum (row s.due k)) 0 || tradable k g.terms g.marks)
    ∷ []

-- "a tally is within 10^11 × runs done"
abbrev pub tally_tests : Day → List Bool
tally_tests y =
    let n : ℕ = y.given.participants in
    let m : ℕ = y.given.issues in
    let s : State = y.state in
    at_most (tally_limit * s.runs) n m s.delivered
    ∷ at_most (tally_limit * s.runs) n m s.received
    ∷ []

-- "pair marks are 0 or 1 with none on oneself": today's
abbrev pub today_tests : Day → List Bool
today_tests y = pairs_fit y.given.participants y.state.today ∷ []

-- "after three runs positions and notices are zero"
abbrev pub end_tests : Day → List Bool
end_tests y =
    let n : ℕ = y.given.participants in
    let m : ℕ = y.given.issues in
    let s : State = y.state in
    (ltb s.runs 3 || (at_most 0 baskets n s.owed && at_most 0 baskets n s.due && at_most 0 n m s.notices))
    ∷ []

abbrev pub sound_tests : Day → List (List Bool)
sound_tests y =
    limit_tests y
    ∷ given_tests y.given
    ∷ position_tests y
    ∷ tally_tests y
    ∷ today_tests y
    ∷ end_tests y
    ∷ []

unfoldable pub sound : Day → Bool
sound y = holds (joined (sound_tests y))
