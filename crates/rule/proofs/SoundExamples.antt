-- Each part of "A book is sound if ..": a day at the bound is sound, and one that differs in that place alone is not. By computation.
-- Assumes nothing.
use mathlib.Core.Path.{◌≡◌, refl}
use Prim.Native.Nat.{ℕ, ◌+◌, ◌-◌, ◌*◌}
use mathlib.Core.Bool.{true, false}
use mathlib.Core.List.{List, [], ◌∷◌, ◌++◌, map}
use lib.ListN.{set}
use Rattle.lists.specs.Tables.{zeros, zero_rows, table, put}
use Rattle.lists.specs.Folds.{joined}
use Rattle.rule.specs.Day.{State, Day, given_of, opened}
use Rattle.rule.specs.Sound.{sound}
use Rattle.rule.specs.Layout.{terms_at, book_length, sound_book}
use Rattle.rule.specs.WorkedIssues.{wrong_code}
use Rattle.rule.proofs.ExampleDays.{on_book, codes, issue, open_issues}
use Rattle.rule.proofs.WholeRule.{book_rule}

-- ---- what opening brought

-- n participants and m issues
abbrev sized : ℕ → ℕ → Day
sized n m = opened (given_of n m (codes m) (joined (table m (λ i. issue 2 0 0))) (zeros (n * m)) (zeros (7 * (n * n))))

-- two participants and one issue
abbrev given : List ℕ → List ℕ → List ℕ → List ℕ → Day
given code terms receipts pairs = opened (given_of 2 1 code terms receipts pairs)

-- ---- what the other calls leave. Three participants; issues 0 and 1 are of kind 2; issue 2, the only one of baskets A and B, pays interest on
-- the following day

unfoldable fresh : Day
fresh = open_issues 3 (issue 2 0 0 ∷ issue 2 0 0 ∷ issue 0 0 1 ∷ []) (zeros 9)

abbrev with : State → Day
with s = record { given = fresh.given; state = s }

-- participants by issues, and participants by participants
abbrev none : List (List ℕ)
none = zero_rows 3 3

abbrev no_positions : List (List ℕ)
no_positions = zero_rows 7 3

abbrev no_pairs : List (List (List ℕ))
no_pairs = table 7 (λ k. none)

-- after some runs, with positions, today's pairs and the tally
abbrev after : ℕ → List (List ℕ) → List (List ℕ) → List (List (List ℕ)) → List (List ℕ) → List (List ℕ) → State
after runs owed due today delivered received = record {
  runs = runs;
  trades = 0;
  owed = owed;
  due = due;
  notices = none;
  today = today;
  delivered = delivered;
  received = received;
}

abbrev ended : ℕ → State
ended runs = after runs no_positions no_positions no_pairs none none

-- after some runs 0 owes 5 yen in basket k, due to 1 in basket j
abbrev positions : ℕ → ℕ → ℕ → Day
positions runs k j = with (after runs (set no_positions k (5 ∷ 0 ∷ 0 ∷ [])) (set no_positions j (0 ∷ 5 ∷ 0 ∷ [])) no_pairs none none)

abbrev in_basket : ℕ → List ℕ → List ℕ → Day
in_basket k owed due = with (after 0 (set no_positions k owed) (set no_positions k due) no_pairs none none)

abbrev in_c : List ℕ → List ℕ → Day
in_c owed due = in_basket 2 owed due

-- 0 owes 5 yen in basket k, due to 1, on a day on which each issue has a mark
abbrev all_marked : ℕ → Day
all_marked k =
    record { given = (open_issues 3 (issue 2 0 1 ∷ issue 2 1 0 ∷ issue 0 0 1 ∷ []) (zeros 9)).given; state = (positions 0 k k).state }

-- participant 2 delivered, or received, lots of issue 2
abbrev delivered : ℕ → ℕ → Day
delivered runs lots = with (after runs no_positions no_positions no_pairs (put none 2 2 lots) none)

abbrev received : ℕ → ℕ → Day
received runs lots = with (after runs no_positions no_positions no_pairs none (put none 2 2 lots))

-- a mark of today in basket G
abbrev today : ℕ → ℕ → ℕ → Day
today d r mark = with (after 0 no_positions no_positions (set no_pairs 6 (put none d r mark)) none none)

-- participant 2 has notified lots of issue 2
abbrev notified : ℕ → ℕ → Day
notified runs lots = with (record (ended runs) { notices = put none 2 2 lots })

-- a book of n cells with two participants and one issue: sizes and counts, codes, terms, and zeros
abbrev booked : ℕ → List ℕ
booked n = 2 ∷ 1 ∷ 0 ∷ 0 ∷ (codes 1 ++ (zeros (terms_at - 16) ++ (issue 2 0 0 ++ zeros (n - (terms_at + 6)))))

record Soundness : Type 0 where
  -- "its length is right"
  length : map (λ n. on_book (booked n) sound_book) (book_length ∷ (book_length + 1) ∷ []) ≡ true ∷ false ∷ []
  -- "runs done are at most 3"
  runs : map (λ n. sound (with (ended n))) (3 ∷ 4 ∷ []) ≡ true ∷ false ∷ []
  -- "all opening ranges": sizes, terms, receipts
  sizes : map sound (sized 1 1 ∷ sized 2 1 ∷ sized 12 1 ∷ sized 13 1 ∷ sized 2 0 ∷ sized 2 32 ∷ sized 2 33 ∷ [])
      ≡ false ∷ true ∷ true ∷ false ∷ false ∷ true ∷ false ∷ []
  terms : map (λ k. sound (given (codes 1) (issue k 0 0) (zeros 2) (zeros 28))) (6 ∷ 7 ∷ []) ≡ true ∷ false ∷ []
  receipts : map (λ x. sound (given (codes 1) (issue 2 0 0) (0 ∷ x ∷ []) (zeros 28))) (1000000000000 ∷ 1000000000001 ∷ []) ≡ true ∷ false ∷ []
  -- "codes"
  code : sound (given wrong_code (issue 2 0 0) (zeros 2) (zeros 28)) ≡ false
  -- "notice and trade limits"
  notices : map (λ n. sound (notified 0 n)) (200000000 ∷ 200000001 ∷ []) ≡ true ∷ false ∷ []
  trades : map (λ n. sound (with (record (ended 0) { trades = n }))) (10000 ∷ 10001 ∷ []) ≡ true ∷ false ∷ []
  -- "positions are within 10^13", either way
  owed : map sound (in_c (10000000000000 ∷ 0 ∷ 0 ∷ []) (0 ∷ 5000000000000 ∷ 5000000000000 ∷ []) ∷ in_c (10000000000001 ∷ 0 ∷ 0 ∷ []) (0 ∷ 5000000000001 ∷ 5000000000000 ∷ []) ∷ [])
      ≡ true ∷ false ∷ []
  due : map sound (in_c (0 ∷ 5000000000000 ∷ 5000000000000 ∷ []) (10000000000000 ∷ 0 ∷ 0 ∷ []) ∷ in_c (0 ∷ 5000000000001 ∷ 5000000000000 ∷ []) (10000000000001 ∷ 0 ∷ 0 ∷ []) ∷ [])
      ≡ true ∷ false ∷ []
  -- "and sum to zero per basket": in C, in G; not over two baskets
  sum : map sound (positions 0 2 2 ∷ positions 0 6 6 ∷ positions 0 2 6 ∷ positions 0 6 2 ∷ []) ≡ true ∷ true ∷ false ∷ false ∷ []
  sum_alone : map (λ k. sound (in_basket k (5 ∷ 0 ∷ 0 ∷ []) (0 ∷ 4 ∷ 0 ∷ []))) (2 ∷ 6 ∷ []) ≡ false ∷ false ∷ []
  -- "a basket with a position has an unmarked issue": A has a marked one. With no position it needs none
  unmarked : map sound (positions 0 0 0 ∷ fresh ∷ []) ≡ false ∷ true ∷ []
  all_marked : map (λ k. sound (all_marked k)) (2 ∷ 6 ∷ []) ≡ false ∷ false ∷ []
  -- "a tally is within 10^11 × runs done", either way
  tally_none : map sound (delivered 0 1 ∷ received 0 1 ∷ []) ≡ false ∷ false ∷ []
  tally_delivered : map (λ n. sound (delivered 1 n)) (100000000000 ∷ 100000000001 ∷ []) ≡ true ∷ false ∷ []
  tally_received : map (λ n. sound (received 1 n)) (100000000000 ∷ 100000000001 ∷ []) ≡ true ∷ false ∷ []
  tally_three : map (λ n. sound (delivered 3 n)) (300000000000 ∷ 300000000001 ∷ []) ≡ true ∷ false ∷ []
  -- "pair marks are 0 or 1 with none on oneself": yesterday's in basket G, today's in basket G
  yesterday : map (λ p. sound (given (codes 1) (issue 2 0 0) (zeros 2) (zeros 24 ++ p))) ((0 ∷ 0 ∷ 1 ∷ 0 ∷ []) ∷ (0 ∷ 0 ∷ 2 ∷ 0 ∷ []) ∷ (0 ∷ 0 ∷ 0 ∷ 1 ∷ []) ∷ [])
      ≡ true ∷ false ∷ false ∷ []
  marks : map sound (today 2 1 1 ∷ today 2 1 2 ∷ today 2 2 1 ∷ []) ≡ true ∷ false ∷ false ∷ []
  -- "after three runs positions and notices are zero"; after two they need not be
  positions_end : map (λ n. sound (positions n 2 2)) (2 ∷ 3 ∷ []) ≡ true ∷ false ∷ []
  notices_end : map (λ n. sound (notified n 1)) (2 ∷ 3 ∷ []) ≡ true ∷ false ∷ []

soundness : Soundness
unfolding book_rule fresh
soundness = record {
  length = refl;
  runs = refl;
  sizes = refl;
  terms = refl;
  receipts = refl;
  code = refl;
  notices = refl;
  trades = refl;
  owed = refl;
  due = refl;
  sum = refl;
  sum_alone = refl;
  unmarked = refl;
  all_marked = refl;
  tally_none = refl;
  tally_delivered = refl;
  tally_received = refl;
  tally_three = refl;
  yesterday = refl;
  marks = refl;
  positions_end = refl;
  notices_end = refl;
}
