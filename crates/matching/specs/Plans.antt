-- Matches as they stand in a plan, and what the functions ask. Assumes nothing.
use Rattle.std.specs.Prelude.{◌≡◌, ℕ, ◌*◌, ◌≤◌, ◌<◌, List, [], map, length, eqb, Bool, true}
use Rattle.arrayvec.specs.ArrayVec.{ArrayVec}
use Rattle.lists.specs.Tables.{cell, up_to}
use Rattle.lists.specs.Parts.{grid}
use Rattle.lists.specs.Folds.{foldl, keep, Every}
use Rattle.rule.specs.Layout.{most_participants}
use Rattle.rule.specs.Matching.{Match, OneZero, meet, with, turn, deliverers, preferential}
use Rattle.rule.specs.Matching as rule
use Rattle.matching.specs.declared.Match.{Match as Entry}
use Rattle.matching.specs.declared.Left.{Left}

-- the rule's match
abbrev pub rule_match : Entry → Match
rule_match m = record { deliverer = m.deliverer; receiver = m.receiver; amount = m.amount.0; preferential = m.preferential }

-- the positions left and the matches made
abbrev pub left_of : Left → rule.Left
left_of s = record { owed = s.owed.now; due = s.due.now; made = map rule_match s.made.now.items }

-- the lent buffers stay the same ones, and as long
pub record SameBuffers (s t : Left) : Type 0 where
  pub owed : t.owed.ghost_name ≡ s.owed.ghost_name
  pub due : t.due.ghost_name ≡ s.due.ghost_name
  pub made : t.made.ghost_name ≡ s.made.ghost_name
  pub owed_size : length t.owed.now ≡ length s.owed.now
  pub due_size : length t.due.now ≡ length s.due.now

-- the matches in the plan are ms
pub record Planned (ms : List Match) (plan : ArrayVec Entry) : Type 0 where
  pub matches : map rule_match plan.items ≡ ms

-- a plan has room for the matches of s
abbrev pub Room : rule.Left → Type 0
Room s = length s.made ≤ 11

-- ---- what the functions ask: numbers of participants, and room for the matches that they leave

-- a meeting of deliverer d and receiver r
pub record MeetAsks (preferential : Bool) (s : Left) (d r : ℕ) : Type 0 where
  pub deliverer : d < length s.owed.now
  pub receiver : r < length s.due.now
  pub room : Room (meet preferential (left_of s) (d, r))

-- deliverer d's turn
pub record TurnAsks (draw : List ℕ) (s : Left) (d : ℕ) : Type 0 where
  pub deliverer : d < length s.owed.now
  pub receivers : Every (λ p. p < length s.due.now) draw
  pub room : Room (turn draw (left_of s) d)

-- all deliverers' turns
pub record TurnsAsks (draw : List ℕ) (s : Left) : Type 0 where
  pub few : length s.owed.now ≤ most_participants
  pub receivers : Every (λ p. p < length s.due.now) draw
  pub room : Room (foldl (turn draw) (left_of s) (deliverers s.owed.now))

-- yesterday's pairs of the basket, as they stand in the book: a row of 12 marks for each deliverer
abbrev pub pair_marks : List ℕ → ℕ → List (List ℕ)
pair_marks marks n = grid marks 0 most_participants n n

abbrev pub is_pair : List ℕ → ℕ → ℕ × ℕ → Bool
is_pair marks n c = eqb (cell (pair_marks marks n) c.0 c.1) 1

-- deliverer and receiver meet if they are one of the pairs
abbrev pub meet_pairs : List ℕ → rule.Left → List (ℕ × ℕ) → rule.Left
meet_pairs marks s cs = foldl (meet true) s (keep (is_pair marks (length s.owed)) cs)

-- of at most 12 participants, as many amounts owed as due, and a mark for each deliverer and receiver
pub record Sizes (marks owed due : List ℕ) : Type 0 where
  pub same : length due ≡ length owed
  pub few : length owed ≤ most_participants
  pub marked : most_participants * length owed ≤ length marks

-- deliverer d and the receivers of its pairs
pub record MeetPairsOfAsks (marks : List ℕ) (s : Left) (d : ℕ) : Type 0 where
  pub sizes : Sizes marks s.owed.now s.due.now
  pub deliverer : d < length s.owed.now
  pub room : Room (meet_pairs marks (left_of s) (with (up_to (length s.owed.now)) d))

-- all pairs, before any match
pub record MeetPreferentialAsks (runs : ℕ) (marks : List ℕ) (s : Left) : Type 0 where
  pub sizes : Sizes marks s.owed.now s.due.now
  pub empty : s.made.now.items ≡ []
  pub room : Room (preferential runs (pair_marks marks (length s.owed.now)) s.owed.now s.due.now)

-- a basket: each participant owes or has due and not both, and the draw names participants
pub record PlanAsks (marks draw owed due : List ℕ) : Type 0 where
  pub sizes : Sizes marks owed due
  pub one_zero : OneZero owed due
  pub receivers : Every (λ p. p < length owed) draw
