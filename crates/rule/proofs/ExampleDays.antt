-- Small days for examples, on tables: what they open, and a run of them; and how a book is worked out once. Assumes nothing.
use Prim.Native.Nat.{ℕ, ◌+◌, ◌-◌, ◌*◌, ◌/◌, ◌%◌}
use mathlib.Core.List.{List, [], ◌∷◌, ◌++◌}
use lib.ListN.{length}
use Rattle.lists.specs.Tables.{zeros, table}
use Rattle.lists.specs.Folds.{foldl, joined}
use Rattle.rule.specs.Isin.{check_digit}
use Rattle.rule.specs.Day.{Day, baskets, given_of, opened}
use Rattle.rule.specs.Calls.{Reply}
use Rattle.rule.specs.WorkedIssues.{code0, code1, terms}
use Rattle.rule.proofs.DayCalls.{open_day, trade_day, notice_day, run_day}

-- the day that stands before the opening
abbrev pub no_day : Day
no_day = opened (given_of 0 0 [] [] [] [])

-- an opening of n participants and two issues, in which participant 0 has scheduled receipts, with no pairs
unfoldable pub open_with : ℕ → List ℕ → List ℕ → Reply × Day
open_with n issue_terms scheduled =
    open_day no_day n 2 (code0 ++ code1) (issue_terms ++ issue_terms) (scheduled ++ zeros (2 * (n - 1))) (zeros (baskets * (n * n)))

-- what a run answers and hands out
pub record Handed : Type 0 where
  pub reply : Reply
  pub matches : List (List ℕ)
  pub lines : List (List ℕ)

unfoldable pub outcome : Day → List ℕ → Handed
outcome y draw = let r : Reply × (Day × List (List ℕ) × List (List ℕ)) = run_day y draw in record { reply = r.0; matches = r.1.1; lines = r.1.2 }

-- participant 0 notifies lots of issues 0 and 1 and sells yen of basket C to participant 1
unfoldable pub sale : List ℕ → List ℕ → List ℕ → ℕ → Handed
sale issue_terms notified scheduled yen =
    outcome (trade_day (notice_day (open_with 2 issue_terms scheduled).1 0 (0 ∷ 1 ∷ []) notified).1 0 1 2 yen).1 (0 ∷ 1 ∷ [])

-- price 10,000, scheduled as notified
unfoldable pub plain_sale : ℕ → ℕ → ℕ → Handed
plain_sale lots0 lots1 yen = sale (terms 10000 0 0) (lots0 ∷ lots1 ∷ []) (lots0 ∷ lots1 ∷ []) yen

-- ---- days of any issues

-- JP0000000, two digits of a number below 100, and the check digit: these codes rise with the number
abbrev pub body : ℕ → List ℕ
body i = 74 ∷ 80 ∷ 48 ∷ 48 ∷ 48 ∷ 48 ∷ 48 ∷ 48 ∷ 48 ∷ (48 + i / 10) ∷ (48 + i % 10) ∷ []

abbrev pub codes : ℕ → List ℕ
codes m = joined (table m (λ i. body i ++ ((48 + check_digit (body i)) ∷ [])))

-- price 10,000 and no coupon, so that a lot is worth 50,000 yen
abbrev pub issue : ℕ → ℕ → ℕ → List ℕ
issue kind redeemed interest = kind ∷ 10000 ∷ 0 ∷ 0 ∷ redeemed ∷ interest ∷ []

-- an opening of n participants and of the issues with these terms; with no pairs
abbrev pub open_pairs : ℕ → List (List ℕ) → List ℕ → List ℕ → Day
open_pairs n issues receipts pairs = (open_day no_day n (length issues) (codes (length issues)) (joined issues) receipts pairs).1

abbrev pub open_issues : ℕ → List (List ℕ) → List ℕ → Day
open_issues n issues receipts = open_pairs n issues receipts (zeros (baskets * (n * n)))

-- the day after runs with this draw
abbrev pub after_runs : ℕ → List ℕ → Day → Day
after_runs n draw y = foldl (λ z i. (run_day z draw).1.0) y (zeros n)

-- ---- on a book

-- a call on a book: matching makes antt work the book out once, before the call reads its cells
abbrev pub on_book : {X : Type 0} → List ℕ → (List ℕ → X) → X
on_book [] call = call []
on_book (c ∷ cs) call = call (c ∷ cs)
