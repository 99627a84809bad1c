-- Document 01, "Checks, by place": a check table for each call, in the paper's order, and what its answer is made of. Assumes nothing.
use Rattle.std.specs.Prelude.{ℕ, zero, suc, ◌+◌, ◌-◌, ◌*◌, Bool, not, ◌&&◌, List, [], ◌∷◌, ◌++◌, length, get_or, leb, ltb, eqb}
use Rattle.lists.specs.Tests.{pick, all_below, first}
use Rattle.lists.specs.Tables.{cell}
use Rattle.lists.specs.Folds.{total}
use Rattle.rule.specs.Isin.{codes_right}
use Rattle.rule.specs.Day.{Given, State, Day, baskets, code_size, term_size, given_of}
use Rattle.rule.specs.Entries.{match_size, line_size}
use Rattle.rule.specs.Run.{Allocation, line_list}
use Rattle.rule.specs.Sound.{sizes_fit, all_terms_fit, receipts_fit, pairs_fit, tradable, position_limit, notice_limit, trade_limit}

-- what a call answers: accepted, a run's counts of matches and lines, or "A refusal returns its number alone"
pub data Reply : Type 0 where
  accepted : Reply
  counts : ℕ → ℕ → Reply
  refused : ℕ → Reply

-- the reply and what it leaves: with no refusal (0) the new, else "book and lists stay"
abbrev pub answer : {X : Type 0} → ℕ → Reply → X → X → Reply × X
answer zero reply new old = (reply, new)
answer (suc e) reply new old = (refused (suc e), old)

-- ---- opening. The book's length is its caller's to look at

-- "a size, an array length or the book's length is wrong"
abbrev pub size_checks : Bool → ℕ → ℕ → List ℕ → List ℕ → List ℕ → List ℕ → List (ℕ × Bool)
size_checks book_fits n m codes terms receipts pairs =
    (1, not (sizes_fit n m))
    ∷ (1, not (eqb (length codes) (code_size * m)))
    ∷ (1, not (eqb (length terms) (term_size * m)))
    ∷ (1, not (eqb (length receipts) (n * m)))
    ∷ (1, not (eqb (length pairs) (baskets * (n * n))))
    ∷ (1, not book_fits)
    ∷ []

-- the data, each over all items
abbrev pub data_checks : ℕ → ℕ → Given → List (ℕ × Bool)
data_checks n m g =
    -- "a code breaks the rule"
    (2, not (codes_right g.codes))
    -- "a term is outside its range"
    ∷ (3, not (all_terms_fit m g.terms g.marks))
    -- "a receipt or pair mark is outside its range, or a pair is of one participant"
    ∷ (4, not (receipts_fit n m g.receipts))
    ∷ (4, not (pairs_fit n g.pairs))
    ∷ []

unfoldable pub open_checks : Bool → ℕ → ℕ → List ℕ → List ℕ → List ℕ → List ℕ → List (ℕ × Bool)
open_checks book_fits n m codes terms receipts pairs =
    size_checks book_fits n m codes terms receipts pairs ++ data_checks n m (given_of n m codes terms receipts pairs)

-- ---- every other call

-- "unsound book" comes first
unfoldable pub refusal : Bool → List (ℕ × Bool) → ℕ
refusal is_sound checks = first ((5, not is_sound) ∷ checks)

-- ---- trade

-- a position's part of one sign after yen were added to it
abbrev pub afterwards : ℕ → ℕ → ℕ → ℕ
afterwards a b yen = a + yen - b

-- the day, the parties and the amount
abbrev pub party_checks : Day → ℕ → ℕ → ℕ → ℕ → List (ℕ × Bool)
party_checks y seller buyer k yen =
    let g : Given = y.given in
    let s : State = y.state in
    -- "three runs done"
    (6, leb 3 s.runs)
    -- "participant or basket not of this day, or seller is buyer"
    ∷ (7, leb g.participants seller)
    ∷ (7, leb g.participants buyer)
    ∷ (7, leb baskets k)
    ∷ (7, eqb seller buyer)
    -- "amount 0 or above 10^12 yen"
    ∷ (8, eqb yen 0)
    ∷ (8, ltb 1000000000000 yen)
    ∷ []

-- the basket, the positions and the count of trades
abbrev pub position_checks : Day → ℕ → ℕ → ℕ → ℕ → List (ℕ × Bool)
position_checks y seller buyer k yen =
    let g : Given = y.given in
    let s : State = y.state in
    -- "the basket has no unmarked issue"
    (9, not (tradable k g.terms g.marks))
    -- "a position would pass 10^13 yen either way"
    ∷ (10, ltb position_limit (afterwards (cell s.owed k seller) (cell s.due k seller) yen))
    ∷ (10, ltb position_limit (afterwards (cell s.due k buyer) (cell s.owed k buyer) yen))
    -- "10,000 trades accepted already"
    ∷ (11, leb trade_limit s.trades)
    ∷ []

unfoldable pub trade_checks : Day → ℕ → ℕ → ℕ → ℕ → List (ℕ × Bool)
trade_checks y seller buyer k yen = party_checks y seller buyer k yen ++ position_checks y seller buyer k yen

-- ---- notice

-- no number stands twice in the list
unfoldable pub distinct : List ℕ → Bool
distinct l = all_below (length l) (λ j. all_below j (λ i. not (eqb (get_or l i 0) (get_or l j 0))))

unfoldable pub notice_checks : Day → ℕ → List ℕ → List ℕ → List (ℕ × Bool)
notice_checks y p issues lots =
    (6, leb 3 y.state.runs)
    ∷ (7, leb y.given.participants p)
    -- "no entry, two lengths, an issue not of the day, or one twice"
    ∷ (12, eqb (length issues) 0)
    ∷ (12, not (eqb (length issues) (length lots)))
    ∷ (12, not (all_below (length issues) (λ j. ltb (get_or issues j 0) y.given.issues)))
    ∷ (12, not (distinct issues))
    -- "lots above 200,000,000 (0 is allowed)"
    ∷ (13, not (all_below (length lots) (λ j. leb (get_or lots j 0) notice_limit)))
    ∷ []

-- ---- run

-- "the draw .. name[s] each participant once": as many as there are, and each counted once
unfoldable pub each_once : List ℕ → ℕ → Bool
each_once draw n = eqb (length draw) n && all_below n (λ p. eqb (total (λ x. pick (eqb x p) 1 0) draw) 1)

-- the most entries of the two lists
abbrev pub most_matches : ℕ
most_matches = 77

abbrev pub most_lines : ℕ
most_lines = 2464

unfoldable pub run_checks : Day → List ℕ → ℕ → ℕ → List (ℕ × Bool)
run_checks y draw match_places line_places =
    (6, leb 3 y.state.runs)
    -- "the draw does not name each participant once"
    ∷ (14, not (each_once draw y.given.participants))
    -- "a lent list is short: run 77 matches and 2,464 lines"
    ∷ (15, ltb match_places (match_size * most_matches))
    ∷ (15, ltb line_places (line_size * most_lines))
    ∷ []

-- "A run returns its counts"
unfoldable pub run_reply : List Allocation → Reply
run_reply done = counts (length done) (length (line_list done))

-- ---- close

unfoldable pub close_checks : Day → ℕ → ℕ → List (ℕ × Bool)
close_checks y receipt_places pair_places =
    let n : ℕ = y.given.participants in
    -- "fewer than three runs (before 15)"
    (16, ltb y.state.runs 3)
    -- "close participants × issues, and 7 × participants squared"
    ∷ (15, ltb receipt_places (n * y.given.issues))
    ∷ (15, ltb pair_places (baskets * (n * n)))
    ∷ []

-- "tomorrow's scheduled receipts (the tally where positive, else 0) and pairs (covered above 0 today)"
unfoldable pub tomorrow_receipts : Day → List (List ℕ)
tomorrow_receipts y = y.state.delivered

unfoldable pub tomorrow_pairs : Day → List (List (List ℕ))
tomorrow_pairs y = y.state.today
