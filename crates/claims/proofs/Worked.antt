-- The paper's table of worked days, as one theorem: each row is computed on tables, which answer as the book does. Assumes nothing.
use mathlib.Core.Path.{◌≡◌, refl, ap}
use Prim.Native.Nat.{ℕ, ◌-◌, ◌*◌}
use mathlib.Core.List.{List, ◌++◌, map}
use lib.ListN.{length}
use Rattle.lists.specs.Tables.{zeros}
use Rattle.rule.specs.Day.{Day, baskets}
use Rattle.rule.specs.Calls.{Reply}
use Rattle.rule.specs.Layout.{view}
use Rattle.rule.specs.Entries.{MatchEntry, LineEntry, match_of, line_of}
use Rattle.rule.specs.History.{Call}
use Rattle.rule.specs.WorkedIssues.{code0, code1}
use Rattle.claims.specs.WorkedDays.{blank, match_places, line_places, Outcome, outcome, parties, WorkedDays}
use Rattle.rule.proofs.DayCalls.{open_day, run_within, day_history}
use Rattle.claims.proofs.ViewedLaws.{open-viewed, run-viewed, history-viewed, zeros-read}
use Rattle.rule.proofs.WholeRule.{whole_rule}

-- the same on tables
unfoldable tables : ℕ → List ℕ → List ℕ → List Call → List ℕ → Outcome
tables n issue_terms scheduled calls draw =
    let receipts : List ℕ = scheduled ++ zeros (2 * (n - 1)) in
    let o : Reply × Day = open_day (view blank) n 2 (code0 ++ code1) (issue_terms ++ issue_terms) receipts (zeros (baskets * (n * n))) in
    let r : Reply × (Day × List (List ℕ) × List (List ℕ)) = run_within (day_history o.1 calls).day draw (length match_places) (length line_places) in
    record { reply = r.0; matches = map match_of r.1.1; lines = map line_of r.1.2 }

outcome-is : (n : ℕ) (issue_terms scheduled : List ℕ) (calls : List Call) (draw : List ℕ)
    → outcome n issue_terms scheduled calls draw ≡ tables n issue_terms scheduled calls draw
unfolding outcome tables
outcome-is n issue_terms scheduled calls draw =
    let o : _ = open-viewed zeros-read n 2 (code0 ++ code1) (issue_terms ++ issue_terms) (scheduled ++ zeros (2 * (n - 1))) (zeros (baskets * (n * n))) in
    let r : _ = run-viewed (history-viewed o.1 calls).book draw match_places line_places in
    three _ _ _ _ _ _ r.0 r.1.matches_read r.1.lines_read
  where
    three : (a b : Reply) (c d : List MatchEntry) (e f : List LineEntry) → a ≡ b → c ≡ d → e ≡ f
        → ◌≡◌ {A = Outcome} (record { reply = a; matches = c; lines = e }) (record { reply = b; matches = d; lines = f })
    three a b c d e f p q r = cc

pub worked-days : WorkedDays
unfolding whole_rule tables
worked-days = record {
  row1 = refl;
  row1_seven = ap (λ (o : Outcome). o.lines) (outcome-is _ _ _ _ _);
  row1_eight = ap (λ (o : Outcome). o.lines) (outcome-is _ _ _ _ _);
  row1_nine = ap (λ (o : Outcome). o.lines) (outcome-is _ _ _ _ _);
  row2 = (open-viewed zeros-read _ _ _ _ _ _).0;
  row2_right = (open-viewed zeros-read _ _ _ _ _ _).0;
  row2_digit = refl;
  row3 = outcome-is _ _ _ _ _;
  row4 = outcome-is _ _ _ _ _;
  row5 = outcome-is _ _ _ _ _;
  row6 = outcome-is _ _ _ _ _;
  row7 = ap (λ (o : Outcome). o.lines) (outcome-is _ _ _ _ _);
  row8 = ap (λ (o : Outcome). o.lines) (outcome-is _ _ _ _ _);
  row9 = outcome-is _ _ _ _ _;
  row10 = ap (λ (o : Outcome). map parties o.matches) (outcome-is _ _ _ _ _);
}
