-- Examples of what the demands read off lists and events, each worked out by hand. By computation. Assumes nothing.
use mathlib.Core.Path.{◌≡◌, refl}
use Prim.Native.Nat.{ℕ}
use mathlib.Core.Bool.{true, false}
use mathlib.Core.List.{List, [], ◌∷◌, ◌++◌, map}
use Rattle.lists.specs.Tables.{zeros}
use Rattle.rule.specs.Allocable.{Marks}
use Rattle.rule.specs.Day.{Day}
use Rattle.rule.specs.Calls.{Reply, accepted, counts, refused}
use Rattle.rule.specs.Entries.{MatchEntry, LineEntry, match_of, line_of}
use Rattle.rule.specs.History.{matches_of, lines_of, Call, trade, notice, run, close, Event}
use Rattle.claims.specs.Claims.{lots_in, lots_by, forced_by, quantity, used_before, usable_in, is_accepted, sold_in, bought_in, delivered_in, received_in, is_run, runs_in, named, notified_after, notified, allocable_then}
use Rattle.rule.proofs.DayCalls.{notice_day}
use Rattle.rule.proofs.ExampleDays.{issue, open_issues}
use Rattle.rule.proofs.WholeRule.{whole_rule}

-- ---- the lists of a run 3: participant 0 delivers 3 lots of issue 1 to 1, then 2 of issue 0 and a forced one of issue 1 to 2, and participant 1 a lot of
-- issue 1 to 2

abbrev matches : List MatchEntry
matches =
    map match_of
    ((2 ∷ 0 ∷ 1 ∷ 150000 ∷ 150000 ∷ 0 ∷ 0 ∷ []) ∷ (2 ∷ 0 ∷ 2 ∷ 140000 ∷ 130000 ∷ 1 ∷ 1 ∷ []) ∷ (3 ∷ 1 ∷ 2 ∷ 50000 ∷ 50000 ∷ 0 ∷ 0 ∷ []) ∷ (3 ∷ 0 ∷ 2 ∷ 70 ∷ 0 ∷ 0 ∷ 0 ∷ []) ∷ [])

abbrev lines : List LineEntry
lines = map line_of ((0 ∷ 1 ∷ 3 ∷ []) ∷ (1 ∷ 0 ∷ 2 ∷ []) ∷ (1 ∷ 1 ∷ 1 ∷ []) ∷ (2 ∷ 1 ∷ 1 ∷ []) ∷ [])

-- ---- events

abbrev event : Call → Reply → Event
event c r = record { call = c; reply = r; matches = []; lines = [] }

abbrev noticed : ℕ → List ℕ → List ℕ → Reply → Event
noticed p issues lots r = event (notice p issues lots) r

abbrev ran : Reply → Event
ran r = event (run [] [] []) r

-- 0 notifies 5 and 4, then a notice of 0 is refused, and 1 notifies 7 of issue 0
abbrev first : List Event
first = noticed 0 (0 ∷ 1 ∷ []) (5 ∷ 4 ∷ []) accepted ∷ noticed 0 (0 ∷ []) (9 ∷ []) (refused 12) ∷ noticed 1 (0 ∷ []) (7 ∷ []) accepted ∷ []

-- what 0 has notified of issues 0 and 1
abbrev of_zero : List Event → List ℕ
of_zero events = map (notified events 0) (0 ∷ 1 ∷ [])

abbrev sold : Reply → Event
sold r = event (trade 0 1 2 70) r

-- participant 0 may use 9 lots of issue 0, which pays interest, and 3 of issue 1 from yesterday
unfoldable day : Day
day = open_issues 3 (issue 2 0 1 ∷ issue 2 0 0 ∷ []) (9 ∷ 3 ∷ zeros 4)

abbrev marked : ℕ → ℕ → Marks
marked redeemed interest = record { redeemed = redeemed; interest = interest }

record Claimed : Type 0 where
  -- "the entries within the counts that accepted calls returned"
  matches_within : matches_of (counts 1 1) (2 ∷ 0 ∷ 1 ∷ 70 ∷ 60 ∷ 3 ∷ 4 ∷ 9 ∷ 9 ∷ 9 ∷ 9 ∷ 9 ∷ 9 ∷ 9 ∷ [])
      ≡ record { basket = 2; deliverer = 0; receiver = 1; matched = 70; covered = 60; forced = 3; forced_lots = 4 } ∷ []
  lines_within : lines_of (counts 1 1) (0 ∷ 1 ∷ 5 ∷ 9 ∷ 9 ∷ 9 ∷ []) ≡ record { match = 0; issue = 1; lots = 5 } ∷ []
  -- a match's lots, a deliverer's lots over all baskets, and the forced ones among them
  lots_in : map (λ j. lots_in lines j 1) (0 ∷ 1 ∷ 2 ∷ 3 ∷ []) ≡ 3 ∷ 1 ∷ 1 ∷ 0 ∷ []
  lots_by : map (λ d. lots_by d 1 matches lines) (0 ∷ 1 ∷ 2 ∷ []) ≡ 4 ∷ 1 ∷ 0 ∷ []
  forced_by : forced_by 0 1 matches ∷ forced_by 0 0 matches ∷ forced_by 1 1 matches ∷ [] ≡ 1 ∷ 0 ∷ 0 ∷ []
  -- "Lots used earlier in the same run are gone; forced lots never count as used": of issue 1 before each match, by its own deliverer
  used_before : map (λ j. used_before matches lines j 1) (0 ∷ 1 ∷ 2 ∷ 3 ∷ []) ≡ 0 ∷ 3 ∷ 0 ∷ 3 ∷ []
  -- the allocable quantity of 5 notified and 3 scheduled lots in runs 1, 2 and 3, of an issue with no mark, redeemed, paying interest, and with both marks
  quantities : map (λ r. map (λ t. quantity r t 5 3) (marked 0 0 ∷ marked 1 0 ∷ marked 0 1 ∷ marked 1 1 ∷ [])) (0 ∷ 1 ∷ 2 ∷ [])
      ≡ (3 ∷ 0 ∷ 3 ∷ 0 ∷ []) ∷ (5 ∷ 0 ∷ 0 ∷ 0 ∷ []) ∷ (5 ∷ 0 ∷ 0 ∷ 0 ∷ []) ∷ []
  -- in run 1, with 9 lots of each issue notified: less what the matches before it used, forced lots apart; participant 1 notified nothing
  usable_in : map (usable_in (notice_day day 0 (0 ∷ 1 ∷ []) (9 ∷ 9 ∷ [])).1 matches lines) (0 ∷ 1 ∷ 2 ∷ 3 ∷ []) ≡ (9 ∷ 3 ∷ []) ∷ (9 ∷ 0 ∷ []) ∷ (0 ∷ 0 ∷ []) ∷ (7 ∷ 0 ∷ []) ∷ []
  -- "A call is accepted if it returns no refusal"
  accepted_calls : map is_accepted (accepted ∷ counts 0 0 ∷ refused 5 ∷ []) ≡ true ∷ true ∷ false ∷ []
  -- yen of accepted trades, by basket and side
  sold_in : sold_in 2 0 (sold accepted) ∷ sold_in 2 1 (sold accepted) ∷ sold_in 3 0 (sold accepted) ∷ sold_in 2 0 (sold (refused 8)) ∷ [] ≡ 70 ∷ 0 ∷ 0 ∷ 0 ∷ []
  bought_in : bought_in 2 1 (sold accepted) ∷ bought_in 2 0 (sold accepted) ∷ bought_in 3 1 (sold accepted) ∷ bought_in 2 1 (sold (refused 8)) ∷ [] ≡ 70 ∷ 0 ∷ 0 ∷ 0 ∷ []
  -- covered yen, by basket and side
  covered_in : let e : Event = record { call = run [] [] []; reply = counts 4 4; matches = matches; lines = lines } in
      delivered_in 2 0 e ∷ delivered_in 3 0 e ∷ received_in 2 2 e ∷ received_in 3 2 e ∷ [] ≡ 280000 ∷ 0 ∷ 130000 ∷ 50000 ∷ []
  -- "The third run is the one taken after two accepted ones"
  runs_in : runs_in (ran (counts 0 0) ∷ ran (refused 14) ∷ sold accepted ∷ event (close [] []) accepted ∷ []) ≡ 1
  -- "Notified lots are those of a participant's last accepted notice since the last accepted run, .. 0 if none"
  notified_first : of_zero first ≡ 5 ∷ 4 ∷ []
  notified_again : of_zero (first ++ (noticed 0 (1 ∷ []) (3 ∷ []) accepted ∷ [])) ≡ 0 ∷ 3 ∷ []
  notified_kept : of_zero (first ++ (ran (refused 14) ∷ sold accepted ∷ [])) ≡ 5 ∷ 4 ∷ []
  notified_run : of_zero (first ++ (ran (counts 0 0) ∷ [])) ≡ 0 ∷ 0 ∷ []
  notified_none : of_zero [] ≡ 0 ∷ 0 ∷ []
  -- "The allocable quantity follows from these and the opening data by the rule above": in run 1, and in run 2 of the same notice
  allocable_first : map (allocable_then day.given first 0) (0 ∷ 1 ∷ []) ≡ 5 ∷ 3 ∷ []
  allocable_second : map (allocable_then day.given (ran (counts 0 0) ∷ first) 0) (0 ∷ 1 ∷ []) ≡ 0 ∷ 4 ∷ []

claimed : Claimed
unfolding whole_rule matches_of lines_of lots_in lots_by forced_by quantity used_before usable_in sold_in bought_in delivered_in received_in is_run runs_in named notified_after notified allocable_then day
claimed = record {
  matches_within = refl;
  lines_within = refl;
  lots_in = refl;
  lots_by = refl;
  forced_by = refl;
  used_before = refl;
  quantities = refl;
  usable_in = refl;
  accepted_calls = refl;
  sold_in = refl;
  bought_in = refl;
  covered_in = refl;
  runs_in = refl;
  notified_first = refl;
  notified_again = refl;
  notified_kept = refl;
  notified_run = refl;
  notified_none = refl;
  allocable_first = refl;
  allocable_second = refl;
}
