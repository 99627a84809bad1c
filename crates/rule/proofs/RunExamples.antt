-- Examples of whole runs and of close, each worked out by hand. A lot is worth 50,000 yen. By computation. Assumes nothing.
use mathlib.Core.Path.{◌≡◌, refl}
use Prim.Native.Nat.{ℕ}
use mathlib.Core.List.{List, [], ◌∷◌, ◌++◌, map}
use lib.ListN.{take, drop}
use Rattle.lists.specs.Tables.{zeros, zero_rows, row}
use Rattle.rule.specs.Day.{State, Day}
use Rattle.rule.specs.Calls.{Reply, accepted, counts}
use Rattle.rule.specs.WorkedIssues.{terms}
use Rattle.rule.proofs.DayCalls.{trade_day, notice_day, run_day, close_day}
use Rattle.rule.proofs.ExampleDays.{Handed, open_with, outcome, sale, issue, open_pairs, open_issues, after_runs}
use Rattle.rule.proofs.WholeRule.{whole_rule}

abbrev two : List (List ℕ)
two = issue 2 0 0 ∷ issue 2 0 0 ∷ []

abbrev draw : List ℕ
draw = 0 ∷ 1 ∷ 2 ∷ []

-- participant 0 sells yen in basket k
abbrev sell : ℕ → ℕ → Day → Day
sell k yen y = (trade_day y 0 1 k yen).1

-- participant 0 notifies lots of issues 0 and 1
abbrev notify : ℕ → ℕ → Day → Day
notify a b y = (notice_day y 0 (0 ∷ 1 ∷ []) (a ∷ b ∷ [])).1

-- ---- issue orders. Participant 0 has 9 and 9 lots scheduled and 5 and 4 notified. In basket C it uses 2 lots of issue 0, so that 3 and 4 are
-- left; then it sells 4 lots' worth in basket D, with yesterday's pairs as given

unfoldable two_baskets : List ℕ → Handed
two_baskets pairs =
    outcome (sell 3 200000 (sell 2 100000 (notify 5 4 (open_pairs 3 two (9 ∷ 9 ∷ zeros 4) pairs)))) draw

-- of basket D a mark of deliverer 0 and receiver 1: 3 × 9 marks stand before the basket's
abbrev pair_in_d : List ℕ
pair_in_d = zeros 28 ++ (1 ∷ zeros 34)

-- in basket C to receivers 1 and 2, for 3 lots and 2
unfoldable two_receivers : Handed
two_receivers = outcome (trade_day (sell 2 150000 (notify 5 4 (open_issues 3 two (9 ∷ 9 ∷ zeros 4)))) 0 2 2 100000).1 draw

-- in run 1 1 lot of issue 0 is scheduled, so 1 and 5 may be used of 9 and 5 notified; a pair of yesterday in basket C
unfoldable pair_by_smaller : Handed
pair_by_smaller = outcome (sell 2 100000 (notify 9 5 (open_pairs 3 two (1 ∷ 9 ∷ zeros 4) (zeros 19 ++ (1 ∷ zeros 43))))) draw

-- 5 and 4 notified by 0 and by 1 too: 0 sells 2 lots' worth in basket C, and 1 in basket D
unfoldable others_used : Handed
others_used =
    let y : Day = notify 5 4 (open_issues 3 two (9 ∷ 9 ∷ 9 ∷ 9 ∷ 0 ∷ 0 ∷ [])) in
    outcome (trade_day (trade_day (notice_day y 1 (0 ∷ 1 ∷ []) (5 ∷ 4 ∷ [])).1 0 2 2 100000).1 1 2 3 100000).1 draw

-- a pair of yesterday in basket C
unfoldable pair_by_notified : ℕ → ℕ → Handed
pair_by_notified a b = outcome (sell 2 100000 (notify a b (open_pairs 3 two (9 ∷ 9 ∷ zeros 4) (zeros 19 ++ (1 ∷ zeros 43))))) draw

-- ---- baskets. An issue of kind 0 is in all of them: 4 lots notified, sold for yen in G and, later in the day, in A

unfoldable bills_sold : ℕ → ℕ → Day
bills_sold in_g in_a = sell 0 in_a (sell 6 in_g (notice_day (open_issues 3 (issue 0 0 0 ∷ []) (9 ∷ zeros 2)) 0 (0 ∷ []) (4 ∷ [])).1)

unfoldable bills : ℕ → ℕ → Handed
bills in_g in_a = outcome (bills_sold in_g in_a) draw

-- participants 0 and 1 deliver the same issue, each its own lots
unfoldable two_deliverers : Handed
two_deliverers =
    let y : Day = open_issues 3 (issue 2 0 0 ∷ []) (3 ∷ 3 ∷ 0 ∷ []) in
    let notified : Day = (notice_day (notice_day y 0 (0 ∷ []) (3 ∷ [])).1 1 (0 ∷ []) (3 ∷ [])).1 in
    outcome (trade_day (trade_day notified 0 2 2 150000).1 1 2 2 100000).1 draw

-- 0 and 1 have scheduled and notify lots of an issue, and 1 sells 3 lots' worth
unfoldable second_delivers : List ℕ → List ℕ → Handed
second_delivers scheduled notified =
    let y : Day = open_issues 3 (issue 2 0 0 ∷ []) (scheduled ++ (0 ∷ [])) in
    let told : Day = (notice_day (notice_day y 0 (0 ∷ []) (take 1 notified)).1 1 (0 ∷ []) (drop 1 notified)).1 in
    outcome (trade_day told 1 2 2 150000).1 draw

-- 0 delivers its 2 lots to 1 in basket C, receives 2 from 1 in D, and has sold one more in E
unfoldable sent_back : Handed
sent_back =
    let y : Day = open_issues 3 (issue 2 0 0 ∷ []) (2 ∷ 2 ∷ 0 ∷ []) in
    let notified : Day = (notice_day (notice_day y 0 (0 ∷ []) (2 ∷ [])).1 1 (0 ∷ []) (2 ∷ [])).1 in
    outcome (sell 4 50000 (trade_day (sell 2 100000 notified) 1 0 3 100000).1) draw

-- in run 2 0 and 1 sell to 2 in basket C, 1 the less; a mark of 1 and 2
unfoldable second_run : Handed
second_run =
    let y : Day = after_runs 1 draw (open_pairs 3 two (zeros 6) (zeros 23 ++ (1 ∷ zeros 39))) in
    outcome (trade_day (trade_day y 0 2 2 70).1 1 2 2 50).1 draw

-- 0 and 1 sell to 2 in baskets C and D, 1 the less; a mark of 1 and 2 in basket D
unfoldable pairs_of_d : Handed
pairs_of_d =
    let y : Day = open_pairs 3 two (zeros 6) (zeros 32 ++ (1 ∷ zeros 30)) in
    let in_c : Day = (trade_day (trade_day y 0 2 2 70).1 1 2 2 50).1 in
    outcome (trade_day (trade_day in_c 0 2 3 70).1 1 2 3 50).1 draw

-- ---- run 3. Participant 0 notifies 2 lots of issue 0 and 3 of issue 1, and sells 3 lots' worth to 1 and less than 3 lots' worth to 2. Participant 2
-- notifies issue 0, and that alone is scheduled for participant 0

unfoldable third : Day
third =
    let y : Day = notify 2 3 (after_runs 2 draw (open_issues 3 two (9 ∷ zeros 5))) in
    (trade_day (sell 2 150000 (notice_day y 2 (0 ∷ []) (9 ∷ [])).1) 0 2 2 140000).1

-- 2 lots of issue 1 are worth just what is sold
unfoldable just_enough : Handed
just_enough = outcome (sell 2 100000 (notify 0 2 (after_runs 2 draw (open_issues 3 two (zeros 6))))) draw

-- ---- close

-- 0 delivers 3 lots to 1 in run 1, 1 delivers 1 lot to 0 in run 2
unfoldable both_ways : Day
both_ways =
    let first : Day = sell 2 150000 (notice_day (open_issues 3 (issue 2 0 0 ∷ []) (9 ∷ zeros 2)) 0 (0 ∷ []) (3 ∷ [])).1 in
    let second : Day = (trade_day (notice_day (after_runs 1 draw first) 1 (0 ∷ []) (1 ∷ [])).1 1 0 3 50000).1 in
    after_runs 2 draw second

-- run 1 covers nothing, and 1 sells the same yen back before run 2
unfoldable sold_back : Day
sold_back = after_runs 2 draw (trade_day (after_runs 1 draw (sell 2 100000 (open_issues 3 two (zeros 6)))) 1 0 2 100000).1

-- a covered yen in run 1: 10,000,001 are sold, and all but 10,000,000 are covered with one lot
unfoldable one_yen : Day
one_yen = sell 2 10000001 (notice_day (open_issues 3 (issue 2 0 0 ∷ []) (1 ∷ zeros 2)) 0 (0 ∷ []) (1 ∷ [])).1

-- tomorrow's receipts, and its pairs in baskets C and D alone
abbrev none : List (List ℕ)
none = zero_rows 3 3

abbrev closed : List (List ℕ) → List (List ℕ) → List (List ℕ) → Reply × (List (List ℕ) × List (List (List ℕ)))
closed receipts in_c in_d = (accepted, (receipts, none ∷ none ∷ in_c ∷ in_d ∷ none ∷ none ∷ none ∷ []))

record Runs : Type 0 where
  -- "Issue order for a preferential match: larger notified lots first": issue 0 with 5, though 2 are used
  pair_order : (two_baskets pair_in_d).lines ≡ (0 ∷ 0 ∷ 2 ∷ []) ∷ (1 ∷ 0 ∷ 3 ∷ []) ∷ (1 ∷ 1 ∷ 1 ∷ []) ∷ []
  -- "For a drawn match the same, less lots used in earlier baskets of this run": issue 1, with 4 to 3
  drawn_order : (two_baskets (zeros 63)).lines ≡ (0 ∷ 0 ∷ 2 ∷ []) ∷ (1 ∷ 1 ∷ 4 ∷ []) ∷ []
  -- lots used in this basket are not deducted: issue 0 again, with 5 to 4
  same_basket : two_receivers.lines ≡ (0 ∷ 0 ∷ 3 ∷ []) ∷ (1 ∷ 0 ∷ 2 ∷ []) ∷ []
  -- nor are those that another deliverer used: issue 0 for both
  others_not_deducted : others_used.lines ≡ (0 ∷ 0 ∷ 2 ∷ []) ∷ (1 ∷ 0 ∷ 2 ∷ []) ∷ []
  -- "larger notified lots first" for a preferential match: issue 1 with 5 to 4. "Ties: smaller ISIN"
  pair_notified : (pair_by_notified 4 5).lines ≡ (0 ∷ 1 ∷ 2 ∷ []) ∷ []
  pair_ties : (pair_by_notified 5 5).lines ≡ (0 ∷ 0 ∷ 2 ∷ []) ∷ []
  -- "not larger allocable"
  pair_not_allocable : pair_by_smaller.lines ≡ (0 ∷ 0 ∷ 1 ∷ []) ∷ (0 ∷ 1 ∷ 1 ∷ []) ∷ []
  -- nor for a drawn one: issue 1 with 9 notified, of which 1 is scheduled, before issue 0 with 5
  drawn_not_allocable : (sale (terms 10000 0 0) (5 ∷ 9 ∷ []) (5 ∷ 1 ∷ []) 120000).lines ≡ (0 ∷ 0 ∷ 2 ∷ []) ∷ (0 ∷ 1 ∷ 1 ∷ []) ∷ []
  -- "Its target is the amount rounded down to a multiple of 5,000,000,000 yen": at 30,000 yen a lot one unit, of 3,000,000,000 yen, fits, where two
  -- fit the whole amount
  target : (sale (terms 6000 0 0) (200000 ∷ 50000 ∷ []) (200000 ∷ 50000 ∷ []) 6000000000).lines ≡ (0 ∷ 0 ∷ 150000 ∷ []) ∷ (0 ∷ 1 ∷ 50000 ∷ []) ∷ []
  -- "Basket by basket, A first"; "match number (from 0 in this run)"
  a_first : bills 100000 50000
      ≡ record {
        reply = counts 2 2;
        matches = (0 ∷ 0 ∷ 1 ∷ 50000 ∷ 50000 ∷ 0 ∷ 0 ∷ []) ∷ (6 ∷ 0 ∷ 1 ∷ 100000 ∷ 100000 ∷ 0 ∷ 0 ∷ []) ∷ [];
        lines = (0 ∷ 0 ∷ 1 ∷ []) ∷ (1 ∷ 0 ∷ 2 ∷ []) ∷ [];
      }
  -- "Lots used earlier in the same run are gone": 2 are left, and 3 are needed
  gone : (bills 150000 100000).lines ≡ (0 ∷ 0 ∷ 2 ∷ []) ∷ []
  -- "The covered yen leave both positions", each in its basket: those of A were covered, those of G were not
  positions_left : let s : State = (run_day (bills_sold 150000 100000) draw).1.0.state in
      s.owed ∷ s.due ∷ [] ≡ (zero_rows 6 3 ++ ((150000 ∷ 0 ∷ 0 ∷ []) ∷ [])) ∷ (zero_rows 6 3 ++ ((0 ∷ 150000 ∷ 0 ∷ []) ∷ [])) ∷ []
  own_lots : two_deliverers.lines ≡ (0 ∷ 0 ∷ 3 ∷ []) ∷ (1 ∷ 0 ∷ 2 ∷ []) ∷ []
  -- 3 lots need 3 notified and 3 scheduled by the deliverer itself
  own_notice : map (λ notified. (second_delivers (9 ∷ 9 ∷ []) notified).lines) ((3 ∷ 2 ∷ []) ∷ (2 ∷ 3 ∷ []) ∷ []) ≡ [] ∷ ((0 ∷ 0 ∷ 3 ∷ []) ∷ []) ∷ []
  own_receipt : map (λ scheduled. (second_delivers scheduled (9 ∷ 9 ∷ [])).lines) ((3 ∷ 2 ∷ []) ∷ (2 ∷ 3 ∷ []) ∷ []) ≡ [] ∷ ((0 ∷ 0 ∷ 3 ∷ []) ∷ []) ∷ []
  -- "Lots used earlier in the same run are gone", though as many were received
  received_not_used : map (take 5) sent_back.matches ≡ (2 ∷ 0 ∷ 1 ∷ 100000 ∷ 100000 ∷ []) ∷ (3 ∷ 1 ∷ 0 ∷ 100000 ∷ 100000 ∷ []) ∷ (4 ∷ 0 ∷ 1 ∷ 50000 ∷ 0 ∷ []) ∷ []
  -- "Run 1 first takes yesterday's pairs", run 2 does not
  no_pairs : map (take 4) second_run.matches ≡ (2 ∷ 0 ∷ 2 ∷ 70 ∷ []) ∷ (2 ∷ 1 ∷ 2 ∷ 50 ∷ []) ∷ []
  -- "yesterday's pairs of that basket"; marks stand "by basket, deliverer, receiver"
  pairs_of_basket : map (take 4) pairs_of_d.matches
      ≡ (2 ∷ 0 ∷ 2 ∷ 70 ∷ []) ∷ (2 ∷ 1 ∷ 2 ∷ 50 ∷ []) ∷ (3 ∷ 1 ∷ 2 ∷ 50 ∷ []) ∷ (3 ∷ 0 ∷ 2 ∷ 70 ∷ []) ∷ []
  -- "the deliverer's most notified lots, used ones included": issue 1, of which 3 lots went into the first match
  used_included : outcome third draw
      ≡ record {
        reply = counts 2 3;
        matches = (2 ∷ 0 ∷ 1 ∷ 150000 ∷ 150000 ∷ 0 ∷ 0 ∷ []) ∷ (2 ∷ 0 ∷ 2 ∷ 140000 ∷ 140000 ∷ 1 ∷ 1 ∷ []) ∷ [];
        lines = (0 ∷ 1 ∷ 3 ∷ []) ∷ (1 ∷ 0 ∷ 2 ∷ []) ∷ (1 ∷ 1 ∷ 1 ∷ []) ∷ [];
      }
  -- nothing is forced where all usable lots are worth just the amount: "both 0 if none"
  just_enough : just_enough.matches ≡ (2 ∷ 0 ∷ 1 ∷ 100000 ∷ 100000 ∷ 0 ∷ 0 ∷ []) ∷ []
  -- "lots delivered, forced ones included, less lots received"
  third_tally : let s : State = (run_day third draw).1.0.state in
      s.delivered ∷ s.received ∷ [] ≡ ((2 ∷ 4 ∷ []) ∷ (0 ∷ 0 ∷ []) ∷ (0 ∷ 0 ∷ []) ∷ []) ∷ ((0 ∷ 0 ∷ []) ∷ (0 ∷ 3 ∷ []) ∷ (2 ∷ 1 ∷ []) ∷ []) ∷ []
  -- "the tally where positive, else 0", "forced ones included"; "covered above 0 today"
  third_close : close_day (after_runs 1 draw third)
      ≡ closed ((2 ∷ 4 ∷ []) ∷ (0 ∷ 0 ∷ []) ∷ (0 ∷ 0 ∷ []) ∷ []) ((0 ∷ 1 ∷ 1 ∷ []) ∷ (0 ∷ 0 ∷ 0 ∷ []) ∷ (0 ∷ 0 ∷ 0 ∷ []) ∷ []) none
  -- "lots delivered .. less lots received", over all runs; pairs of any run, each in its basket
  both_close : close_day both_ways
      ≡ closed ((2 ∷ []) ∷ (0 ∷ []) ∷ (0 ∷ []) ∷ []) ((0 ∷ 1 ∷ 0 ∷ []) ∷ (0 ∷ 0 ∷ 0 ∷ []) ∷ (0 ∷ 0 ∷ 0 ∷ []) ∷ []) ((0 ∷ 0 ∷ 0 ∷ []) ∷ (1 ∷ 0 ∷ 0 ∷ []) ∷ (0 ∷ 0 ∷ 0 ∷ []) ∷ [])
  -- a match with covered 0 sets no pair
  back_close : close_day sold_back ≡ closed (zero_rows 3 2) none none
  -- yesterday's pairs and receipts are not tomorrow's
  old_close : close_day (after_runs 3 draw (open_pairs 3 two (9 ∷ 9 ∷ zeros 4) pair_in_d)) ≡ closed (zero_rows 3 2) none none
  -- a covered yen sets a pair
  yen_pair : row (run_day one_yen draw).1.0.state.today 2 ≡ (0 ∷ 1 ∷ 0 ∷ []) ∷ (0 ∷ 0 ∷ 0 ∷ []) ∷ (0 ∷ 0 ∷ 0 ∷ []) ∷ []

runs : Runs
unfolding whole_rule open_with outcome sale two_baskets two_receivers pair_by_smaller others_used pair_by_notified bills_sold bills two_deliverers second_delivers sent_back second_run pairs_of_d third just_enough both_ways sold_back one_yen
runs = record {
  pair_order = refl;
  drawn_order = refl;
  same_basket = refl;
  others_not_deducted = refl;
  pair_notified = refl;
  pair_ties = refl;
  pair_not_allocable = refl;
  drawn_not_allocable = refl;
  target = refl;
  a_first = refl;
  gone = refl;
  positions_left = refl;
  own_lots = refl;
  own_notice = refl;
  own_receipt = refl;
  received_not_used = refl;
  no_pairs = refl;
  pairs_of_basket = refl;
  used_included = refl;
  just_enough = refl;
  third_tally = refl;
  third_close = refl;
  both_close = refl;
  back_close = refl;
  old_close = refl;
  yen_pair = refl;
}
