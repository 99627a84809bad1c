-- Which kinds each basket takes, seen through the calls. By computation. Assumes nothing.
use mathlib.Core.Path.{◌≡◌, refl}
use Prim.Native.Nat.{ℕ}
use mathlib.Core.List.{List, [], ◌∷◌}
use Rattle.lists.specs.Tables.{zeros, table}
use Rattle.rule.specs.Day.{Day}
use Rattle.rule.specs.Calls.{Reply, accepted, refused}
use Rattle.rule.proofs.DayCalls.{trade_day, notice_day}
use Rattle.rule.proofs.ExampleDays.{outcome, issue, open_issues}
use Rattle.rule.proofs.WholeRule.{whole_rule}

-- a trade in basket k, on a day with one issue
abbrev trade : ℕ → List ℕ → Reply
trade k terms = (trade_day (open_issues 2 (terms ∷ []) (zeros 2)) 0 1 k 1).0

abbrev yes : Reply
yes = accepted

abbrev none : Reply
none = refused 9

-- participant 0 notifies 5 lots of issue 0, which is floating-rate, and 1 lot of issue 1, and sells a lot's worth in basket C
abbrev floating_notified : Day
floating_notified =
    (trade_day (notice_day (open_issues 2 (issue 4 0 0 ∷ issue 2 0 0 ∷ []) (9 ∷ 9 ∷ 0 ∷ 0 ∷ [])) 0 (0 ∷ 1 ∷ []) (5 ∷ 1 ∷ [])).1 0 1 2 50000).1

record Compositions : Type 0 where
  -- "A 0; B 0,1; C 0,1,2,3; D C and 4; E C, 4, 5; F C, 4, 6; G all": a row for each basket, a column for each kind
  kinds : table 7 (λ k. table 7 (λ kind. trade k (issue kind 0 0)))
      ≡ (yes ∷ none ∷ none ∷ none ∷ none ∷ none ∷ none ∷ [])
      ∷ (yes ∷ yes ∷ none ∷ none ∷ none ∷ none ∷ none ∷ [])
      ∷ (yes ∷ yes ∷ yes ∷ yes ∷ none ∷ none ∷ none ∷ [])
      ∷ (yes ∷ yes ∷ yes ∷ yes ∷ yes ∷ none ∷ none ∷ [])
      ∷ (yes ∷ yes ∷ yes ∷ yes ∷ yes ∷ yes ∷ none ∷ [])
      ∷ (yes ∷ yes ∷ yes ∷ yes ∷ yes ∷ none ∷ yes ∷ [])
      ∷ (yes ∷ yes ∷ yes ∷ yes ∷ yes ∷ yes ∷ yes ∷ [])
      ∷ []
  -- "An issue is unmarked if both are 0"
  redeemed : trade 2 (issue 2 1 0) ≡ none
  interest : trade 2 (issue 2 0 1) ≡ none
  both : trade 2 (issue 2 1 1) ≡ none
  -- "Outside the basket nothing may be used"
  outside : (outcome floating_notified (0 ∷ 1 ∷ [])).lines ≡ (0 ∷ 1 ∷ 1 ∷ []) ∷ []

compositions : Compositions
unfolding whole_rule outcome
compositions = record { kinds = refl; redeemed = refl; interest = refl; both = refl; outside = refl }
