-- The calls on a day's tables, where examples can be computed. Each answers and leaves what the public call does on a book that is read as
-- that day: proofs/ViewedLaws.antt. Assumes nothing.
use Prim.Native.Nat.{ℕ, ◌*◌}
use mathlib.Core.Bool.{true}
use mathlib.Core.List.{List, [], ◌∷◌, ◌++◌, map}
use lib.ListN.{length}
use Rattle.lists.specs.Tests.{first}
use Rattle.lists.specs.Folds.{foldl}
use Rattle.rule.specs.Day.{Day, baskets, given_of, opened, traded, noticed}
use Rattle.rule.specs.Run.{Allocation, allocations, ran, match_list, line_list}
use Rattle.rule.specs.Sound.{sound}
use Rattle.rule.specs.Calls.{Reply, accepted, answer, open_checks, refusal, trade_checks, notice_checks, most_matches, most_lines, run_checks, run_reply, close_checks, tomorrow_receipts, tomorrow_pairs}
use Rattle.rule.specs.Entries.{match_of, line_of, match_size, line_size}
use Rattle.rule.specs.History.{Call, trade, notice, run, close, Event}

unfoldable pub open_day : Day → ℕ → ℕ → List ℕ → List ℕ → List ℕ → List ℕ → Reply × Day
open_day old n m codes terms receipts pairs =
    answer (first (open_checks true n m codes terms receipts pairs)) accepted (opened (given_of n m codes terms receipts pairs)) old

unfoldable pub trade_day : Day → ℕ → ℕ → ℕ → ℕ → Reply × Day
trade_day y seller buyer k yen = answer (refusal (sound y) (trade_checks y seller buyer k yen)) accepted (traded y seller buyer k yen) y

unfoldable pub notice_day : Day → ℕ → List ℕ → List ℕ → Reply × Day
notice_day y p issues lots = answer (refusal (sound y) (notice_checks y p issues lots)) accepted (noticed y p issues lots) y

-- a run that is lent so many places for matches and for lines, and one with lists that are long enough
unfoldable pub run_within : Day → List ℕ → ℕ → ℕ → Reply × (Day × List (List ℕ) × List (List ℕ))
run_within y draw match_places line_places =
    let done : List Allocation = allocations y draw in
    answer (refusal (sound y) (run_checks y draw match_places line_places)) (run_reply done) (ran y done, match_list done, line_list done) (y, [], [])

unfoldable pub run_day : Day → List ℕ → Reply × (Day × List (List ℕ) × List (List ℕ))
run_day y draw = run_within y draw (match_size * most_matches) (line_size * most_lines)

-- a close that is lent so many places for receipts and for pairs, and one with lists that are long enough
unfoldable pub close_within : Day → ℕ → ℕ → Reply × (List (List ℕ) × List (List (List ℕ)))
close_within y receipt_places pair_places =
    answer (refusal (sound y) (close_checks y receipt_places pair_places)) accepted (tomorrow_receipts y, tomorrow_pairs y) ([], [])

unfoldable pub close_day : Day → Reply × (List (List ℕ) × List (List (List ℕ)))
close_day y = let n : ℕ = y.given.participants in close_within y (n * y.given.issues) (baskets * (n * n))

-- ---- calls one after the other

pub record DayHistory : Type 0 where
  pub events : List Event
  pub day : Day

unfoldable pub next_day : DayHistory → Call → DayHistory
next_day h (trade seller buyer k yen) =
    let r : Reply × Day = trade_day h.day seller buyer k yen in
    record { events = h.events ++ (record { call = trade seller buyer k yen; reply = r.0; matches = []; lines = [] } ∷ []); day = r.1 }
next_day h (notice p issues lots) =
    let r : Reply × Day = notice_day h.day p issues lots in
    record { events = h.events ++ (record { call = notice p issues lots; reply = r.0; matches = []; lines = [] } ∷ []); day = r.1 }
next_day h (run draw matches lines) =
    let r : Reply × (Day × List (List ℕ) × List (List ℕ)) = run_within h.day draw (length matches) (length lines) in
    record {
      events = h.events
          ++ (record { call = run draw matches lines; reply = r.0; matches = map match_of r.1.1; lines = map line_of r.1.2 } ∷ []);
      day = r.1.0;
    }
next_day h (close receipts pairs) = record {
  events = h.events
      ++ (record { call = close receipts pairs; reply = (close_within h.day (length receipts) (length pairs)).0; matches = []; lines = [] } ∷ []);
  day = h.day;
}

unfoldable pub day_history : Day → List Call → DayHistory
day_history y calls = foldl next_day (record { events = []; day = y }) calls
