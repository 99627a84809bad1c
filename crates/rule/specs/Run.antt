-- Document 01, a run: basket by basket, each match filled; the two lists; and what a run leaves. Assumes nothing.
use Rattle.std.specs.Prelude.{ℕ, suc, ◌+◌, ◌-◌, Bool, true, false, ◌&&◌, List, [], ◌∷◌, ◌++◌, map, length, get_or, ltb, eqb}
use Rattle.lists.specs.Tests.{pick}
use Rattle.lists.specs.Tables.{up_to, table, zero_rows, row, cell}
use Rattle.lists.specs.Folds.{foldl, total, keep}
use Rattle.lists.specs.Order.{ranked}
use Rattle.rule.specs.Value.{Terms, no_terms}
use Rattle.rule.specs.Baskets.{within}
use Rattle.rule.specs.Allocable.{no_marks, allocable}
use Rattle.rule.specs.Matching.{Match, plan}
use Rattle.rule.specs.Filling.{Filled, filled, forced_issue, all_lots}
use Rattle.rule.specs.Day.{Given, State, Day, baskets, mark}
use Rattle.rule.specs.Entries.{MatchEntry, match_row, line_row}

-- a match of this run with what it was filled with. All that a run hands out and leaves is read off the list of these
pub record Allocation : Type 0 where
  pub basket : ℕ
  pub match : Match
  pub filled : Filled

-- lots of issue i that participant d used, "forced lots never count as used"
unfoldable pub used : List Allocation → ℕ → ℕ → ℕ
used done d i = total (λ a. pick (eqb a.match.deliverer d) (get_or a.filled.lots i 0) 0) done

unfoldable pub used_table : Given → List Allocation → List (List ℕ)
used_table g done = table g.participants (λ d. table g.issues (λ i. used done d i))

-- participant d's allocable quantity of issue i in the coming run
unfoldable pub allocable_of : Day → ℕ → ℕ → ℕ
allocable_of y d i =
    allocable y.state.runs (get_or y.given.marks i no_marks) (cell y.state.notices d i) (cell y.given.receipts d i)

-- "Lots used earlier in the same run are gone", those of earlier baskets (before) and of this one (done). "Outside the basket nothing may
-- be used"
unfoldable pub usable : Day → ℕ → List (List ℕ) → List Allocation → ℕ → List ℕ
usable y k before done d =
    table y.given.issues (λ i.
    pick (within k (get_or y.given.terms i no_terms)) (allocable_of y d i - (cell before d i + used done d i)) 0)

-- "Issue order for a preferential match: larger notified lots first, not larger allocable. For a drawn match the same, less lots used in
-- earlier baskets of this run. Ties: smaller ISIN"
unfoldable pub issue_order : Day → List (List ℕ) → Bool → ℕ → List ℕ
issue_order y before true d = ranked (λ i. cell y.state.notices d i) y.given.issues
issue_order y before false d = ranked (λ i. cell y.state.notices d i - cell before d i) y.given.issues

-- one match filled
unfoldable pub allocate : Day → ℕ → List (List ℕ) → List Allocation → Match → Allocation
allocate y k before done m =
    let d : ℕ = m.deliverer in
    let ts : List Terms = y.given.terms in
    record {
      basket = k;
      match = m;
      filled = filled y.state.runs m.preferential ts (usable y k before done d) (issue_order y before m.preferential d)
          (forced_issue k ts y.given.marks (row y.state.notices d)) m.amount;
    }

unfoldable pub basket_plan : Day → List ℕ → ℕ → List Match
basket_plan y draw k = plan y.state.runs (row y.given.pairs k) draw (row y.state.owed k) (row y.state.due k)

-- the matches of a basket, filled one after the other
unfoldable pub basket : Day → List ℕ → List (List ℕ) → ℕ → List Allocation
basket y draw before k = foldl (λ done m. done ++ (allocate y k before done m ∷ [])) [] (basket_plan y draw k)

-- "Basket by basket, A first"
unfoldable pub allocations : Day → List ℕ → List Allocation
allocations y draw = foldl (λ done k. done ++ basket y draw (used_table y.given done) k) [] (up_to baskets)

-- ---- the two lists

-- a match of the list, "in the order filled"
abbrev pub entry_of : Allocation → MatchEntry
entry_of a = record {
  basket = a.basket;
  deliverer = a.match.deliverer;
  receiver = a.match.receiver;
  matched = a.match.amount;
  covered = a.filled.covered;
  forced = a.filled.forced;
  forced_lots = a.filled.forced_lots;
}

unfoldable pub match_entry : Allocation → List ℕ
match_entry a = match_row (entry_of a)

-- a match's lines: "issues rise within a match"
unfoldable pub lines_of : ℕ → Allocation → List (List ℕ)
lines_of number a =
    map (λ i. line_row (record { match = number; issue = i; lots = all_lots a.filled i })) (keep (λ i. ltb 0 (all_lots a.filled i)) (up_to (length a.filled.lots)))

unfoldable pub lines_from : ℕ → List Allocation → List (List ℕ)
lines_from number [] = []
lines_from number (a ∷ done) = lines_of number a ++ lines_from (suc number) done

unfoldable pub match_list : List Allocation → List (List ℕ)
match_list done = map match_entry done

unfoldable pub line_list : List Allocation → List (List ℕ)
line_list done = lines_from 0 done

-- ---- what a run leaves

-- covered yen of participant p in basket k, as deliverer and as receiver
unfoldable pub covered_from : List Allocation → ℕ → ℕ → ℕ
covered_from done k p = total (λ a. pick (eqb a.basket k && eqb a.match.deliverer p) a.filled.covered 0) done

unfoldable pub covered_to : List Allocation → ℕ → ℕ → ℕ
covered_to done k p = total (λ a. pick (eqb a.basket k && eqb a.match.receiver p) a.filled.covered 0) done

-- lots of issue i that participant p delivered and received, forced ones included
unfoldable pub lots_from : List Allocation → ℕ → ℕ → ℕ
lots_from done p i = total (λ a. pick (eqb a.match.deliverer p) (all_lots a.filled i) 0) done

unfoldable pub lots_to : List Allocation → ℕ → ℕ → ℕ
lots_to done p i = total (λ a. pick (eqb a.match.receiver p) (all_lots a.filled i) 0) done

-- the covered yen of a pair in basket k
unfoldable pub covered_pair : List Allocation → ℕ → ℕ → ℕ → ℕ
covered_pair done k d r =
    total (λ a. pick (eqb a.basket k && eqb a.match.deliverer d && eqb a.match.receiver r) a.filled.covered 0) done

-- "The covered yen leave both positions". A pair is today's if it is "covered above 0 today". "Every accepted run clears all notices"
unfoldable pub ran : Day → List Allocation → Day
ran y done =
    let g : Given = y.given in
    let s : State = y.state in
    let n : ℕ = g.participants in
    let out : ℕ → ℕ → ℕ = λ p i. cell s.delivered p i + lots_from done p i in
    let back : ℕ → ℕ → ℕ = λ p i. cell s.received p i + lots_to done p i in
    record {
      given = g;
      state = record {
        runs = s.runs + 1;
        trades = s.trades;
        owed = table baskets (λ k. table n (λ p. cell s.owed k p - covered_from done k p));
        due = table baskets (λ k. table n (λ p. cell s.due k p - covered_to done k p));
        notices = zero_rows n g.issues;
        today = table baskets (λ k. table n (λ d. table n (λ r. pick (ltb 0 (covered_pair done k d r)) 1 (mark s.today k d r))));
        delivered = table n (λ p. table g.issues (λ i. out p i - back p i));
        received = table n (λ p. table g.issues (λ i. back p i - out p i));
      };
    }
