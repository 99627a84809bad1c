-- Examples of every row of the check table and of both sides of every bound. By computation. Assumes nothing.
use mathlib.Core.Path.{◌≡◌, refl}
use Prim.Native.Nat.{ℕ, ◌*◌, ◌-◌, ◌+◌}
use mathlib.Core.Bool.{true}
use mathlib.Core.List.{List, [], ◌∷◌, ◌++◌, map}
use Rattle.lists.specs.Tests.{first}
use Rattle.lists.specs.Tables.{zeros, table}
use Rattle.lists.specs.Folds.{joined}
use Rattle.rule.specs.Day.{Day}
use Rattle.rule.specs.Calls.{Reply, accepted, counts, refused, open_checks, run_checks, close_checks}
use Rattle.rule.specs.Layout.{book_length, open_of}
use Rattle.rule.specs.WorkedIssues.{wrong_code}
use Rattle.rule.proofs.DayCalls.{open_day, trade_day, notice_day, run_day, close_day}
use Rattle.rule.proofs.ExampleDays.{no_day, codes, issue, open_issues, after_runs}
use Rattle.rule.proofs.WholeRule.{whole_rule, book_rule}

-- ---- opening

-- n participants and m issues, with all lengths right
abbrev sized : ℕ → ℕ → Reply
sized n m = (open_day no_day n m (codes m) (joined (table m (λ i. issue 2 0 0))) (zeros (n * m)) (zeros (7 * (n * n)))).0

-- two participants and one issue, with arrays of these lengths: 12 bytes of a code, 6 terms, 2 receipts, 28 marks
abbrev lengths : ℕ → ℕ → ℕ → ℕ → ℕ
lengths c t r p = first (open_checks true 2 1 (zeros c) (zeros t) (zeros r) (zeros p))

-- two participants and two issues, of which the second has these terms
abbrev second : List ℕ → Reply
second terms = (open_day no_day 2 2 (codes 2) (issue 2 0 0 ++ terms) (zeros 4) (zeros 28)).0

-- a book of this length
abbrev booked : ℕ → Reply
booked l = (open_of 2 1 (codes 1) (issue 2 0 0) (zeros 2) (zeros 28) (zeros l)).0

-- receipts of two participants and two issues
abbrev receipts : List ℕ → Reply
receipts r = (open_day no_day 2 2 (codes 2) (issue 2 0 0 ++ issue 2 0 0) r (zeros 28)).0

-- marks of two participants: basket, deliverer, receiver
abbrev marks : List ℕ → Reply
marks p = (open_day no_day 2 1 (codes 1) (issue 2 0 0) (zeros 2) p).0

record Openings : Type 0 where
  -- "A day has 2 to 12 participants and 1 to 32 issues"
  sizes : sized 1 1 ∷ sized 2 1 ∷ sized 12 1 ∷ sized 13 1 ∷ sized 2 0 ∷ sized 2 32 ∷ sized 2 33 ∷ []
      ≡ refused 1 ∷ accepted ∷ accepted ∷ refused 1 ∷ refused 1 ∷ accepted ∷ refused 1 ∷ []
  -- "an array length .. is wrong": one too few and one too many; with all right the code of zeros gets 2
  right : lengths 12 6 2 28 ≡ 2
  codes_length : lengths 11 6 2 28 ∷ lengths 13 6 2 28 ∷ [] ≡ 1 ∷ 1 ∷ []
  terms_length : lengths 12 5 2 28 ∷ lengths 12 7 2 28 ∷ [] ≡ 1 ∷ 1 ∷ []
  receipts_length : lengths 12 6 1 28 ∷ lengths 12 6 3 28 ∷ [] ≡ 1 ∷ 1 ∷ []
  marks_length : lengths 12 6 2 27 ∷ lengths 12 6 2 29 ∷ [] ≡ 1 ∷ 1 ∷ []
  -- "or the book's length is wrong": before the codes
  book_first : (open_of 2 1 wrong_code (issue 2 0 0) (zeros 2) (zeros 28) (zeros (book_length - 1))).0 ≡ refused 1
  book_length : booked (book_length - 1) ∷ booked book_length ∷ booked (book_length + 1) ∷ [] ≡ refused 1 ∷ accepted ∷ refused 1 ∷ []
  -- kinds to 6
  kind : second (issue 6 0 0) ∷ second (issue 7 0 0) ∷ [] ≡ accepted ∷ refused 3 ∷ []
  -- "price (.. 1,000 to 30,000)"
  price : map (λ x. second (2 ∷ x ∷ 0 ∷ 0 ∷ 0 ∷ 0 ∷ [])) (999 ∷ 1000 ∷ 30000 ∷ 30001 ∷ []) ≡ refused 3 ∷ accepted ∷ accepted ∷ refused 3 ∷ []
  -- "coupon (.. 0 to 20,000)"
  coupon : map (λ x. second (2 ∷ 10000 ∷ x ∷ 0 ∷ 0 ∷ 0 ∷ [])) (20000 ∷ 20001 ∷ []) ≡ accepted ∷ refused 3 ∷ []
  -- "days of accrued interest (0 to 366)"
  days : map (λ x. second (2 ∷ 10000 ∷ 0 ∷ x ∷ 0 ∷ 0 ∷ [])) (366 ∷ 367 ∷ []) ≡ accepted ∷ refused 3 ∷ []
  -- "two marks, 0 or 1"
  redeemed : map (λ x. second (issue 2 x 0)) (1 ∷ 2 ∷ []) ≡ accepted ∷ refused 3 ∷ []
  interest : map (λ x. second (issue 2 0 x)) (1 ∷ 2 ∷ []) ≡ accepted ∷ refused 3 ∷ []
  -- "scheduled receipts (0 to 10^12 lots by participant and issue)"
  receipt : map (λ x. receipts (0 ∷ 0 ∷ 0 ∷ x ∷ [])) (1000000000000 ∷ 1000000000001 ∷ []) ≡ accepted ∷ refused 4 ∷ []
  -- "pair marks (0 or 1 by basket, deliverer, receiver; never a participant with itself)": in basket G of 1 and 0, and of 1 with itself
  mark : map (λ x. marks (zeros 26 ++ (x ∷ 0 ∷ []))) (1 ∷ 2 ∷ []) ≡ accepted ∷ refused 4 ∷ []
  self : marks (zeros 27 ++ (1 ∷ [])) ≡ refused 4

openings : Openings
unfolding book_rule
openings = record {
  sizes = refl;
  right = refl;
  codes_length = refl;
  terms_length = refl;
  receipts_length = refl;
  marks_length = refl;
  book_first = refl;
  book_length = refl;
  kind = refl;
  price = refl;
  coupon = refl;
  days = refl;
  redeemed = refl;
  interest = refl;
  receipt = refl;
  mark = refl;
  self = refl;
}

-- ---- trade

-- three participants and two kind 2 issues, so that basket A has no issue
unfoldable fresh : Day
fresh = open_issues 3 (issue 2 0 0 ∷ issue 2 0 0 ∷ []) (zeros 6)

abbrev traded : ℕ → ℕ → ℕ → ℕ → Reply
traded seller buyer k yen = (trade_day fresh seller buyer k yen).0

-- the same with this many trades accepted already
abbrev counted : ℕ → Day
counted n = record fresh { state = record fresh.state { trades = n } }

-- positions in basket C
abbrev positions : List ℕ → List ℕ → ℕ → Day
positions owed due trades =
    let none : List ℕ = zeros 3 in
    record {
      given = fresh.given;
      state = record {
        runs = 0;
        trades = trades;
        owed = none ∷ none ∷ owed ∷ none ∷ none ∷ none ∷ none ∷ [];
        due = none ∷ none ∷ due ∷ none ∷ none ∷ none ∷ none ∷ [];
        notices = fresh.state.notices;
        today = fresh.state.today;
        delivered = fresh.state.delivered;
        received = fresh.state.received;
      };
    }

-- 0 owes 9,999,999,999,999 yen, due to 1 and 2; 2 has as much due, owed by 0 and 1
abbrev owing : ℕ → Day
owing trades = positions (9999999999999 ∷ 0 ∷ 0 ∷ []) (0 ∷ 5000000000000 ∷ 4999999999999 ∷ []) trades

abbrev awaiting : Day
awaiting = positions (5000000000000 ∷ 4999999999999 ∷ 0 ∷ []) (0 ∷ 0 ∷ 9999999999999 ∷ []) 0

abbrev draw : List ℕ
draw = 0 ∷ 1 ∷ 2 ∷ []

unfoldable done : Day
done = after_runs 3 draw fresh

record Trades : Type 0 where
  -- "participant or basket not of this day, or seller is buyer": 3 participants, baskets 0 to 6
  seller : map (λ p. traded p 0 2 1) (2 ∷ 3 ∷ []) ≡ accepted ∷ refused 7 ∷ []
  buyer : map (λ p. traded 0 p 2 1) (2 ∷ 3 ∷ []) ≡ accepted ∷ refused 7 ∷ []
  basket : map (λ k. traded 0 1 k 1) (6 ∷ 7 ∷ []) ≡ accepted ∷ refused 7 ∷ []
  oneself : traded 2 2 2 1 ≡ refused 7
  -- "amount 0 or above 10^12 yen"
  amount : map (traded 0 1 2) (0 ∷ 1 ∷ 1000000000000 ∷ 1000000000001 ∷ []) ≡ refused 8 ∷ accepted ∷ accepted ∷ refused 8 ∷ []
  -- 8 before 9, 9 before 11, 10 before 11
  amount_first : traded 0 1 0 1000000000001 ≡ refused 8
  issue_first : (trade_day (counted 10000) 0 1 0 1).0 ≡ refused 9
  position_first : (trade_day (owing 10000) 0 1 2 2).0 ≡ refused 10
  -- "a position would pass 10^13 yen either way": the seller's, the buyer's
  owed : map (λ yen. (trade_day (owing 0) 0 1 2 yen).0) (1 ∷ 2 ∷ []) ≡ accepted ∷ refused 10 ∷ []
  due : map (λ yen. (trade_day awaiting 0 2 2 yen).0) (1 ∷ 2 ∷ []) ≡ accepted ∷ refused 10 ∷ []
  -- only the two positions touched are looked at, and each goes its own way
  back : (trade_day (owing 0) 1 0 2 1000000000000).0 ≡ accepted
  -- "10,000 trades accepted already"
  count : map (λ n. (trade_day (counted n) 0 1 2 1).0) (9999 ∷ 10000 ∷ []) ≡ accepted ∷ refused 11 ∷ []
  -- an accepted trade counts as one
  counts_one : (trade_day fresh 0 1 2 1).1.state.trades ≡ 1
  -- and the count goes over the whole day
  counts_day : (after_runs 2 draw (trade_day fresh 0 1 2 1).1).state.trades ≡ 1
  -- "three runs done": after two runs each is accepted
  two_runs : let y : Day = after_runs 2 draw fresh in
      (trade_day y 0 1 2 1).0 ∷ (notice_day y 0 (0 ∷ []) (0 ∷ [])).0 ∷ (run_day y draw).0 ∷ [] ≡ accepted ∷ accepted ∷ counts 0 0 ∷ []

trades : Trades
unfolding whole_rule fresh done
trades = record {
  seller = refl;
  buyer = refl;
  basket = refl;
  oneself = refl;
  amount = refl;
  amount_first = refl;
  issue_first = refl;
  position_first = refl;
  owed = refl;
  due = refl;
  back = refl;
  count = refl;
  counts_one = refl;
  counts_day = refl;
  two_runs = refl;
}

-- ---- notice, run and close

abbrev notified : ℕ → List ℕ → List ℕ → Reply
notified p issues lots = (notice_day fresh p issues lots).0

record Others : Type 0 where
  -- "participant .. not of this day"
  participant : map (λ p. notified p (0 ∷ []) (1 ∷ [])) (2 ∷ 3 ∷ []) ≡ accepted ∷ refused 7 ∷ []
  -- "no entry, two lengths, an issue not of the day, or one twice"
  no_entry : notified 0 [] [] ≡ refused 12
  fewer_lots : notified 0 (0 ∷ 1 ∷ []) (1 ∷ []) ≡ refused 12
  more_lots : notified 0 (0 ∷ []) (1 ∷ 1 ∷ []) ≡ refused 12
  issues : map (λ i. notified 0 (i ∷ []) (1 ∷ [])) (1 ∷ 2 ∷ []) ≡ accepted ∷ refused 12 ∷ []
  twice : map (λ issues. notified 0 issues (1 ∷ 1 ∷ 1 ∷ [])) ((0 ∷ 1 ∷ 0 ∷ []) ∷ (0 ∷ 1 ∷ 1 ∷ []) ∷ []) ≡ refused 12 ∷ refused 12 ∷ []
  -- all of 12 before any of 13
  entries_first : notified 0 (0 ∷ 2 ∷ []) (200000001 ∷ 1 ∷ []) ∷ notified 0 (0 ∷ 0 ∷ []) (200000001 ∷ 1 ∷ []) ∷ [] ≡ refused 12 ∷ refused 12 ∷ []
  -- "lots above 200,000,000 (0 is allowed)"
  lots : map (λ n. notified 0 (1 ∷ []) (n ∷ [])) (0 ∷ 200000000 ∷ 200000001 ∷ []) ≡ accepted ∷ accepted ∷ refused 13 ∷ []
  -- "A notice replaces its sender's earlier one .. unnamed issues counting 0", and no one else's
  replaced : (notice_day (notice_day (notice_day fresh 0 (0 ∷ 1 ∷ []) (5 ∷ 6 ∷ [])).1 1 (0 ∷ []) (7 ∷ [])).1 0 (1 ∷ []) (8 ∷ [])).1.state.notices
      ≡ (0 ∷ 8 ∷ []) ∷ (7 ∷ 0 ∷ []) ∷ (0 ∷ 0 ∷ []) ∷ []
  -- "the draw does not name each participant once", before the lists
  draw_first : first (run_checks fresh (0 ∷ 1 ∷ 1 ∷ []) 0 0) ≡ 14
  -- "a lent list is short: run 77 matches and 2,464 lines": of 7 and of 3 numbers; longer ones are taken
  matches : map (λ l. first (run_checks fresh draw l 7392)) (538 ∷ 539 ∷ 540 ∷ []) ≡ 15 ∷ 0 ∷ 0 ∷ []
  lines : map (λ l. first (run_checks fresh draw 539 l)) (7391 ∷ 7392 ∷ 7393 ∷ []) ≡ 15 ∷ 0 ∷ 0 ∷ []
  -- "close participants × issues, and 7 × participants squared": 3 × 2, and 63
  tomorrow_receipts : map (λ l. first (close_checks done l 63)) (5 ∷ 6 ∷ 7 ∷ []) ≡ 15 ∷ 0 ∷ 0 ∷ []
  tomorrow_pairs : map (λ l. first (close_checks done 6 l)) (62 ∷ 63 ∷ 64 ∷ []) ≡ 15 ∷ 0 ∷ 0 ∷ []
  -- "fewer than three runs (before 15)"
  runs_first : first (close_checks (after_runs 2 draw fresh) 0 0) ≡ 16
  three_runs : (close_day done).0 ≡ accepted
  -- "unsound book" before all else, in each place
  unsound : (notice_day no_day 9 [] []).0 ∷ (run_day no_day []).0 ∷ (close_day no_day).0 ∷ [] ≡ refused 5 ∷ refused 5 ∷ refused 5 ∷ []

others : Others
unfolding whole_rule fresh done
others = record {
  participant = refl;
  no_entry = refl;
  fewer_lots = refl;
  more_lots = refl;
  issues = refl;
  twice = refl;
  entries_first = refl;
  lots = refl;
  replaced = refl;
  draw_first = refl;
  matches = refl;
  lines = refl;
  tomorrow_receipts = refl;
  tomorrow_pairs = refl;
  runs_first = refl;
  three_runs = refl;
  unsound = refl;
}
