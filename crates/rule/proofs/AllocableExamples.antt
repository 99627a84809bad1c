-- What may be used in each run: windows and marks, seen through the calls. By computation. Assumes nothing.
use mathlib.Core.Path.{◌≡◌, refl}
use Prim.Native.Nat.{ℕ}
use mathlib.Core.List.{List, [], ◌∷◌, map}
use Rattle.rule.specs.Day.{Day}
use Rattle.rule.proofs.DayCalls.{trade_day, notice_day}
use Rattle.rule.proofs.ExampleDays.{Handed, outcome, issue, open_issues, after_runs}
use Rattle.rule.proofs.WholeRule.{whole_rule}

abbrev draw : List ℕ
draw = 0 ∷ 1 ∷ []

-- after some runs participant 0 notifies lots of issue 0 and sells 100,000 yen, two lots, in basket C; issue 1 is unmarked, so that the
-- basket can be traded. Issue 0 has the marks given, and its scheduled receipt
unfoldable window : ℕ → List ℕ → ℕ → ℕ → Handed
window runs terms notified scheduled =
    let y : Day = after_runs runs draw (open_issues 2 (terms ∷ issue 2 0 0 ∷ []) (scheduled ∷ 0 ∷ 0 ∷ 0 ∷ [])) in
    outcome (trade_day (notice_day y 0 (0 ∷ []) (notified ∷ [])).1 0 1 2 100000).1 draw

abbrev plain : List ℕ
plain = issue 2 0 0

abbrev redeemed : List ℕ
redeemed = issue 2 1 0

abbrev paying : List ℕ
paying = issue 2 0 1

-- two lots of issue 0
abbrev two : List (List ℕ)
two = (0 ∷ 0 ∷ 2 ∷ []) ∷ []

-- participant 0 of three has a scheduled receipt of issue 1, notifies that and sells a lot's worth
unfoldable receipt_of_one : Handed
receipt_of_one =
    let y : Day = open_issues 3 (plain ∷ plain ∷ []) (0 ∷ 3 ∷ 0 ∷ 0 ∷ 0 ∷ 0 ∷ []) in
    outcome (trade_day (notice_day y 0 (1 ∷ []) (3 ∷ [])).1 0 1 2 50000).1 (0 ∷ 1 ∷ 2 ∷ [])

-- 3 lots of each of two issues are scheduled and notified, and two lots' worth is sold
abbrev of_two : List ℕ → List ℕ → Handed
of_two first second =
    let y : Day = open_issues 2 (first ∷ second ∷ []) (3 ∷ 3 ∷ 0 ∷ 0 ∷ []) in
    outcome (trade_day (notice_day y 0 (0 ∷ 1 ∷ []) (3 ∷ 3 ∷ [])).1 0 1 2 100000).1 draw

record Windows : Type 0 where
  -- "In run 1 it is the smaller of the notified lots and the scheduled receipt"
  run1 : (window 0 plain 3 3).lines ≡ two
  run1_scheduled : (window 0 plain 3 1).lines ≡ []
  run1_notified : (window 0 plain 1 3).lines ≡ []
  -- scheduled receipts are not notified by themselves
  run1_silent : (outcome (trade_day (open_issues 2 (plain ∷ []) (9 ∷ 0 ∷ [])) 0 1 2 100000).1 draw).lines ≡ []
  -- "and 0 for an issue redeemed on the following day"; the other mark does not bar it
  run1_redeemed : (window 0 redeemed 3 3).lines ≡ []
  run1_paying : (window 0 paying 3 3).lines ≡ two
  -- each issue by its own marks
  run1_other_redeemed : map (λ h. h.lines) (of_two redeemed plain ∷ of_two plain redeemed ∷ []) ≡ ((0 ∷ 1 ∷ 2 ∷ []) ∷ []) ∷ two ∷ []
  -- "In runs 2 and 3 it is the notified lots"
  run2 : (window 1 plain 3 0).lines ≡ two
  run2_notified : (window 1 plain 1 3).lines ≡ []
  -- "and 0 for an issue with either mark"
  run2_redeemed : (window 1 redeemed 3 3).lines ≡ []
  run2_paying : (window 1 paying 3 3).lines ≡ []
  -- in run 3 what is barred is not forced either: two lots of issue 1 are
  run3 : (window 2 plain 3 0).matches ≡ (2 ∷ 0 ∷ 1 ∷ 100000 ∷ 100000 ∷ 0 ∷ 0 ∷ []) ∷ []
  run3_redeemed : (window 2 redeemed 3 3).matches ≡ (2 ∷ 0 ∷ 1 ∷ 100000 ∷ 100000 ∷ 1 ∷ 2 ∷ []) ∷ []
  run3_paying : (window 2 paying 3 3).matches ≡ (2 ∷ 0 ∷ 1 ∷ 100000 ∷ 100000 ∷ 1 ∷ 2 ∷ []) ∷ []
  -- scheduled receipts stand "by participant and issue"
  receipt : receipt_of_one.lines ≡ (0 ∷ 1 ∷ 1 ∷ []) ∷ []

windows : Windows
unfolding whole_rule outcome window receipt_of_one
windows = record {
  run1 = refl;
  run1_scheduled = refl;
  run1_notified = refl;
  run1_silent = refl;
  run1_redeemed = refl;
  run1_paying = refl;
  run1_other_redeemed = refl;
  run2 = refl;
  run2_notified = refl;
  run2_redeemed = refl;
  run2_paying = refl;
  run3 = refl;
  run3_redeemed = refl;
  run3_paying = refl;
  receipt = refl;
}
