-- Examples of the check table and of ties, each worked out by hand. By computation. Assumes nothing.
use mathlib.Core.Path.{◌≡◌, refl}
use Prim.Native.Nat.{ℕ}
use mathlib.Core.Bool.{true, false}
use mathlib.Core.List.{List, [], ◌∷◌, ◌++◌, map}
use Rattle.lists.specs.Tables.{up_to, zeros}
use Rattle.lists.specs.Folds.{foldl}
use Rattle.rule.specs.Day.{Day}
use Rattle.rule.specs.Calls.{Reply, accepted, refused, each_once}
use Rattle.rule.specs.WorkedIssues.{code0, wrong_code, terms}
use Rattle.rule.proofs.DayCalls.{open_day, trade_day, notice_day, run_day, close_day}
use Rattle.rule.proofs.ExampleDays.{no_day, open_with, outcome, sale, plain_sale}
use Rattle.rule.proofs.WholeRule.{whole_rule}

-- ---- calls with two faults get the number of the row above

abbrev open_one : ℕ → List ℕ → List ℕ → ℕ → ℕ → Reply
open_one n code issue_terms receipt self = (open_day no_day n 1 code issue_terms (receipt ∷ 0 ∷ []) (self ∷ zeros 27)).0

abbrev wrong_terms : List ℕ
wrong_terms = 7 ∷ 10000 ∷ 0 ∷ 0 ∷ 0 ∷ 0 ∷ []

unfoldable fresh : Day
fresh = (open_with 2 (terms 10000 0 0) (0 ∷ 0 ∷ [])).1

abbrev trades : ℕ → ℕ → Reply
trades n yen = (trade_day (foldl (λ y i. (trade_day y 0 1 2 1000000000000).1) fresh (up_to n)) 0 1 2 yen).0

abbrev draw : List ℕ
draw = 1 ∷ 0 ∷ []

unfoldable done : Day
done = (run_day (run_day (run_day fresh draw).1.0 draw).1.0 draw).1.0

record Refusals : Type 0 where
  open1 : open_one 1 wrong_code wrong_terms 0 0 ≡ refused 1
  open2 : open_one 2 wrong_code wrong_terms 1000000000001 1 ≡ refused 2
  open2_equal : (open_day no_day 2 2 (code0 ++ code0) (terms 10000 0 0 ++ terms 10000 0 0) (zeros 4) (zeros 28)).0 ≡ refused 2
  open3 : open_one 2 code0 wrong_terms 1000000000001 1 ≡ refused 3
  open4 : open_one 2 code0 (terms 10000 0 0) 1000000000001 0 ≡ refused 4
  open4_self : open_one 2 code0 (terms 10000 0 0) 1000000000000 1 ≡ refused 4
  opened : open_one 2 code0 (terms 10000 0 0) 1000000000000 0 ≡ accepted
  trade7 : (trade_day fresh 0 2 2 0).0 ≡ refused 7
  trade7_self : (trade_day fresh 1 1 2 0).0 ≡ refused 7
  trade7_basket : (trade_day fresh 0 1 7 0).0 ≡ refused 7
  -- basket A has no issue of kind 0
  trade8 : (trade_day fresh 0 1 0 0).0 ≡ refused 8
  trade9 : (trade_day fresh 0 1 0 1).0 ≡ refused 9
  -- exactly 10^13 is accepted
  trade_limit : trades 9 1000000000000 ≡ accepted
  trade10 : trades 10 1 ≡ refused 10
  notice7 : (notice_day fresh 2 [] []).0 ≡ refused 7
  notice12 : (notice_day fresh 0 [] []).0 ≡ refused 12
  notice12_lengths : (notice_day fresh 0 (0 ∷ []) (1 ∷ 2 ∷ [])).0 ≡ refused 12
  notice12_issue : (notice_day fresh 0 (0 ∷ 2 ∷ []) (200000001 ∷ 1 ∷ [])).0 ≡ refused 12
  notice12_twice : (notice_day fresh 0 (1 ∷ 1 ∷ []) (200000001 ∷ 1 ∷ [])).0 ≡ refused 12
  notice13 : (notice_day fresh 0 (0 ∷ 1 ∷ []) (0 ∷ 200000001 ∷ [])).0 ≡ refused 13
  noticed : (notice_day fresh 0 (0 ∷ 1 ∷ []) (0 ∷ 200000000 ∷ [])).0 ≡ accepted
  run14 : (run_day fresh (0 ∷ 0 ∷ [])).0 ≡ refused 14
  close16 : (close_day fresh).0 ≡ refused 16
  done6 : (trade_day done 0 0 9 0).0 ≡ refused 6
  done6_notice : (notice_day done 9 [] []).0 ≡ refused 6
  done6_run : (run_day done []).0 ≡ refused 6
  closed : (close_day done).0 ≡ accepted
  -- the draw: one twice, one missing, one too many, one not of the day
  draws : map (λ d. each_once d 3) ((2 ∷ 0 ∷ 1 ∷ []) ∷ (2 ∷ 0 ∷ 0 ∷ []) ∷ (2 ∷ 0 ∷ []) ∷ (2 ∷ 0 ∷ 1 ∷ 3 ∷ []) ∷ (2 ∷ 0 ∷ 3 ∷ []) ∷ (3 ∷ 0 ∷ 1 ∷ []) ∷ [])
      ≡ true ∷ false ∷ false ∷ false ∷ false ∷ false ∷ []
  -- equal notified lots: smaller ISIN
  tie : (plain_sale 2 2 120000).lines ≡ (0 ∷ 0 ∷ 2 ∷ []) ∷ (0 ∷ 1 ∷ 1 ∷ []) ∷ []
  -- before any opening no day is sound
  unsound5 : (trade_day no_day 0 0 9 0).0 ≡ refused 5

refusals : Refusals
unfolding whole_rule open_with outcome sale plain_sale fresh done
refusals = record {
  open1 = refl;
  open2 = refl;
  open2_equal = refl;
  open3 = refl;
  open4 = refl;
  open4_self = refl;
  opened = refl;
  trade7 = refl;
  trade7_self = refl;
  trade7_basket = refl;
  trade8 = refl;
  trade9 = refl;
  trade_limit = refl;
  trade10 = refl;
  notice7 = refl;
  notice12 = refl;
  notice12_lengths = refl;
  notice12_issue = refl;
  notice12_twice = refl;
  notice13 = refl;
  noticed = refl;
  run14 = refl;
  close16 = refl;
  done6 = refl;
  done6_notice = refl;
  done6_run = refl;
  closed = refl;
  draws = refl;
  tie = refl;
  unsound5 = refl;
}
