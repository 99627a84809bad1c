-- Examples of filling, each worked out by hand: where a word of the paper read otherwise would give something else. By computation.
-- Assumes nothing.
use mathlib.Core.Path.{◌≡◌, refl}
use Prim.Native.Nat.{ℕ}
use mathlib.Core.Bool.{true, false}
use mathlib.Core.List.{List, [], ◌∷◌, map}
use lib.ListN.{length}
use Rattle.lists.specs.Tables.{zeros}
use Rattle.rule.specs.Allocable.{Marks, no_marks}
use Rattle.rule.specs.Value.{Terms, value}
use Rattle.rule.specs.Filling.{worth, fill_drawn, fill_preferential, filled, covered, forced_issue}
use Rattle.rule.proofs.NumberRule.{number_rule}

abbrev of_kind : ℕ → Terms
of_kind k = record { kind = k; price = 10000; coupon = 0; days = 0 }

-- ---- two issues at 50,000 yen a lot, so that a unit of 100,000 lots is worth 5,000,000,000 yen

abbrev pair : List Terms
pair = of_kind 2 ∷ of_kind 2 ∷ []

abbrev drawn_lots : ℕ → ℕ → ℕ → List ℕ
drawn_lots a b yen = (fill_drawn pair (a ∷ b ∷ []) (0 ∷ 1 ∷ []) yen).lots

-- at a price; at 30,000 and at 50,500 yen a lot; and with a coupon of 100 thousandths of a percent and a day of interest
abbrev priced : ℕ → Terms
priced p = record { kind = 2; price = p; coupon = 0; days = 0 }

abbrev cheap : Terms
cheap = priced 6000

abbrev dear : Terms
dear = priced 10100

abbrev accruing : ℕ → Terms
accruing p = record { kind = 2; price = p; coupon = 100; days = 1 }

record Fillings : Type 0 where
  -- the first pass takes whole units from both issues, where a walk would take all of issue 0
  whole_units : drawn_lots 150000 120000 10000000000 ≡ 100000 ∷ 100000 ∷ []
  walked : (fill_preferential pair (150000 ∷ 120000 ∷ []) (0 ∷ 1 ∷ []) 10000000000).lots ≡ 150000 ∷ 50000 ∷ []
  -- "A preferential match walks the issues", "A drawn match has three passes"
  by_mark : map (λ mark. (filled 0 mark pair (150000 ∷ 120000 ∷ []) (0 ∷ 1 ∷ []) 0 10000000000).lots) (true ∷ false ∷ [])
      ≡ (150000 ∷ 50000 ∷ []) ∷ (100000 ∷ 100000 ∷ []) ∷ []
  -- "the most units": two of issue 0, and one of issue 1
  most_units : drawn_lots 250000 250000 15000000000 ≡ 200000 ∷ 100000 ∷ []
  -- the second takes what is under a unit: all of issue 0's, then the fewest of issue 1's
  remainders : drawn_lots 150000 120000 8000000000 ≡ 150000 ∷ 10000 ∷ []
  both_remainders : drawn_lots 130000 250000 12000000000 ≡ 130000 ∷ 110000 ∷ []
  -- it goes up to the amount and not to the target, before more of issue 0 is taken
  to_amount : drawn_lots 250000 50000 8000000000 ≡ 150000 ∷ 10000 ∷ []
  -- the third takes from what is left
  left_over : drawn_lots 120000 250000 14000000000 ≡ 120000 ∷ 160000 ∷ []
  -- a shortage of exactly 10,000,000 yen is not rounded further; of a yen more it is
  exact_shortage : map (covered 30000000) (30000000 ∷ 20000000 ∷ 19999999 ∷ 5 ∷ []) ≡ 30000000 ∷ 20000000 ∷ 10000000 ∷ 0 ∷ []
  -- a shortage is "at most the amount"
  small_shortage : map (λ x. covered x 0) (1 ∷ 9999999 ∷ 10000000 ∷ []) ≡ 0 ∷ 0 ∷ 0 ∷ []
  -- "the rest is the covered amount and is filled afresh": a shortage of 5,020,000 yen leaves 9,990,000,000 covered, and the target is 5,000,000,000, where
  -- one unit of 3,000,000,000 yen fits and not three
  afresh : filled 0 false (cheap ∷ cheap ∷ []) (300000 ∷ 33166 ∷ []) (0 ∷ 1 ∷ []) 0 10000000000
      ≡ record { covered = 9990000000; lots = 299834 ∷ 33166 ∷ []; last = 0; forced = 0; forced_lots = 0 }
  -- a unit of issue 0 does not fit the target, one of issue 1 does: the walk goes on
  misfit : (fill_drawn (dear ∷ of_kind 2 ∷ []) (150000 ∷ 100000 ∷ []) (0 ∷ 1 ∷ []) 5000000000).lots ≡ 0 ∷ 100000 ∷ []
  -- "at or below the target": 100,000 lots with their interest are worth 13,698 yen more
  above_target : (fill_drawn (accruing 10000 ∷ of_kind 2 ∷ []) (150000 ∷ 100000 ∷ []) (0 ∷ 1 ∷ []) 5000000000).lots ≡ 0 ∷ 100000 ∷ []
  -- "keep the match's value at or below the target": what issue 0 has counts
  match_value : drawn_lots 100000 200000 10000000000 ≡ 100000 ∷ 100000 ∷ []
  -- "filling leaves both walks when the amount is reached": 1 lot at 150,000 yen is 149,999 yen too much, and no lot at 5,000 yen is given back for it
  none_given_back : (fill_drawn (priced 30000 ∷ priced 1000 ∷ []) (10 ∷ 1000000 ∷ []) (0 ∷ 1 ∷ []) 5000000001).lots ≡ 1 ∷ 1000000 ∷ []
  -- the issue of which lots were taken last
  taken_last : map (λ yen. (fill_preferential pair (1 ∷ 5 ∷ []) (0 ∷ 1 ∷ []) yen).last) (50000 ∷ 50001 ∷ []) ≡ 0 ∷ 1 ∷ []
  -- each issue is valued by its own terms
  own_terms : worth (cheap ∷ dear ∷ []) (1 ∷ 1 ∷ []) ≡ 80500
  -- "Each issue within a match is valued on its total lots in that match": 100,000 lots of the first pass and 11,114 of the second have one interest of
  -- 15,221 yen, where 13,698 and 1,522 would be a yen less
  one_rounding : (fill_drawn (accruing 9000 ∷ []) (150000 ∷ []) (0 ∷ []) 5000145221).lots ≡ 111114 ∷ []
  -- 4 usable lots and 4 forced ones are worth 400,001 yen, interest 1; in two parts it would be 0
  forced_rounding : (filled 2 false (accruing 10000 ∷ []) (4 ∷ []) (0 ∷ []) 0 400001).forced_lots ≡ 4
  -- "n × coupon × days ÷ 730 rounded down once": 365 × 2 ÷ 730 is a yen, and so is 365 × 3 ÷ 730
  interest : map (λ d. value (record { kind = 2; price = 10000; coupon = 365; days = d }) 1) (1 ∷ 2 ∷ 3 ∷ 4 ∷ [])
      ≡ 50000 ∷ 50001 ∷ 50001 ∷ 50002 ∷ []
  -- the first row of the worked days: "interest on 7 lots 0, on 8 lots 1"
  interest_of_lots : map (value (accruing 10000)) (7 ∷ 8 ∷ []) ≡ 350000 ∷ 400001 ∷ []
  -- "Kind 6 is valued on face too", and a bill's coupon counts as any
  kinds_alike : map (λ k. value (record { kind = k; price = 10000; coupon = 100; days = 1 }) 8) (0 ∷ 1 ∷ 2 ∷ 3 ∷ 4 ∷ 5 ∷ 6 ∷ [])
      ≡ 400001 ∷ 400001 ∷ 400001 ∷ 400001 ∷ 400001 ∷ 400001 ∷ 400001 ∷ []
  -- in runs 1 and 2 nothing is forced
  carried : map (λ r. (filled r false pair (2 ∷ 0 ∷ []) (0 ∷ 1 ∷ []) 0 120000).forced_lots) (0 ∷ 1 ∷ []) ≡ 0 ∷ 0 ∷ []
  -- a forced issue that also has usable lots: 2 are usable, 3 reach the amount
  forced_too : filled 2 false pair (2 ∷ 0 ∷ []) (0 ∷ 1 ∷ []) 0 120000 ≡ record { covered = 120000; lots = 2 ∷ 0 ∷ []; last = 0; forced = 0; forced_lots = 1 }

fillings : Fillings
unfolding number_rule
fillings = record {
  whole_units = refl;
  walked = refl;
  by_mark = refl;
  most_units = refl;
  remainders = refl;
  both_remainders = refl;
  to_amount = refl;
  left_over = refl;
  exact_shortage = refl;
  small_shortage = refl;
  afresh = refl;
  misfit = refl;
  above_target = refl;
  match_value = refl;
  none_given_back = refl;
  taken_last = refl;
  own_terms = refl;
  one_rounding = refl;
  forced_rounding = refl;
  interest = refl;
  interest_of_lots = refl;
  kinds_alike = refl;
  carried = refl;
  forced_too = refl;
}

-- ---- the forced issue

-- an issue of this kind, unmarked or paying interest on the following day
abbrev plain : ℕ → Terms × Marks
plain k = (of_kind k, no_marks)

abbrev paying : ℕ → Terms × Marks
paying k = (of_kind k, record { redeemed = 0; interest = 1 })

-- in basket C, of these issues and notified lots
abbrev chosen : List (Terms × Marks) → List ℕ → ℕ
chosen issues notified = forced_issue 2 (map (λ i. i.0) issues) (map (λ i. i.1) issues) notified

-- with nothing notified
abbrev unnotified : List (Terms × Marks) → ℕ
unnotified issues = chosen issues (zeros (length issues))

record Forced : Type 0 where
  -- "the deliverer's most notified lots", ties: smaller ISIN; marked issues and those of other baskets do not count
  most : chosen (paying 1 ∷ plain 4 ∷ plain 1 ∷ plain 2 ∷ plain 3 ∷ []) (9 ∷ 9 ∷ 5 ∷ 7 ∷ 7 ∷ []) ≡ 3
  -- of any kind
  most_plain_one : chosen (plain 1 ∷ plain 2 ∷ []) (5 ∷ 3 ∷ []) ≡ 0
  -- one lot is above 0
  most_of_one : chosen (plain 1 ∷ plain 2 ∷ []) (1 ∷ 0 ∷ []) ≡ 0
  -- "With none above 0": lots of issues that do not count are as none
  none_counts : chosen (plain 1 ∷ plain 2 ∷ paying 2 ∷ plain 4 ∷ []) (0 ∷ 0 ∷ 9 ∷ 9 ∷ []) ≡ 1
  -- "the fifth largest ISIN among unmarked kind 2 issues": of six, of five, of four
  six : unnotified (plain 2 ∷ plain 2 ∷ plain 2 ∷ plain 2 ∷ plain 2 ∷ plain 2 ∷ []) ≡ 1
  five : unnotified (plain 0 ∷ plain 2 ∷ plain 2 ∷ plain 2 ∷ plain 2 ∷ plain 2 ∷ []) ≡ 1
  four : unnotified (plain 0 ∷ paying 2 ∷ plain 2 ∷ plain 2 ∷ plain 2 ∷ plain 2 ∷ []) ≡ 2
  -- "With no unmarked kind 2 issue there it is the fifth largest among all unmarked ones"
  other : unnotified (plain 0 ∷ plain 1 ∷ plain 3 ∷ paying 2 ∷ plain 0 ∷ plain 1 ∷ plain 3 ∷ []) ≡ 1

forced : Forced
unfolding number_rule
forced = record { most = refl; most_plain_one = refl; most_of_one = refl; none_counts = refl; six = refl; five = refl; four = refl; other = refl }
