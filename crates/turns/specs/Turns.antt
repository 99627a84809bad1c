-- An issue's turn in a match, by numbers: the rule's steps with what the match is worth carried along. Assumes nothing.
use Rattle.std.specs.Prelude.{◌≡◌, ℕ, ◌+◌, ◌-◌, ◌*◌, ◌/◌, ◌≤◌, ◌<◌, min, max, Option, MatchOption}
use Rattle.rule.specs.Value.{Terms, value, fewest, most}
use Rattle.rule.specs.Filling.{unit}
use Rattle.value.specs.Range.{most_lots, most_yen}
use Rattle.value.specs.Quote.{QuoteOf}
use Rattle.value.specs.declared.Quote.{Quote}
use Rattle.turns.specs.declared.Turn.{Turn}
use Rattle.rule.specs.Sound.{notice_limit}

-- what the other issues are worth, where the match has `had` lots of this one and is worth `reached`
abbrev pub besides : Terms → ℕ → ℕ → ℕ
besides t had reached = reached - value t had

-- "take all, or the fewest lots that reach the amount"
unfoldable pub lots_up_to : Terms → ℕ → ℕ → ℕ → ℕ → ℕ
lots_up_to t bound had reached amount = min bound (max had (fewest t (amount - besides t had reached)))

-- "the most units of 100,000 lots that keep the match's value at or below the target"
unfoldable pub whole_units : Terms → ℕ → ℕ → ℕ → ℕ → ℕ
whole_units t usable had reached goal = min (usable / unit) (most t (goal - besides t had reached) / unit) * unit

-- ---- what a turn asks, and what it gives

-- no more lots than a notice may have
pub record Few (lots : ℕ) : Type 0 where
  pub most : lots ≤ notice_limit

-- the match has `had` lots of an issue of this quote, and is worth `reached`
pub record Part (q : Quote) (had reached : ℕ) : Type 0 where
  pub within : (t : Terms) → QuoteOf t q → value t had ≤ reached
  pub reached_most : reached ≤ most_yen

-- lots to be valued, and what they are added to
pub record WithLotsAsks (others lots : ℕ) : Type 0 where
  pub lots_most : lots ≤ most_lots
  pub others_most : others ≤ most_yen

-- the match does not reach its amount
pub record FurtherLotsAsks (reached amount : ℕ) : Type 0 where
  pub below : reached < amount
  pub amount_most : amount ≤ most_yen

-- and it may have up to a bound of the issue
pub record TakeUpToAsks (had bound reached amount : ℕ) : Type 0 where
  pub short : FurtherLotsAsks reached amount
  pub bounded : had ≤ bound
  pub bound_most : bound ≤ most_lots

-- it has none of the issue, and keeps to its target
pub record TakeUnitsAsks (had usable reached goal : ℕ) : Type 0 where
  pub none : had ≡ 0
  pub usable_most : usable ≤ notice_limit
  pub kept : reached ≤ goal
  pub goal_most : goal ≤ most_yen

-- n lots of the issue, and what the match is then worth
pub record Turned (t : Terms) (others n : ℕ) (r : Turn) : Type 0 where
  pub lots : r.lots.0 ≡ n
  pub worth : r.reached.0 ≡ others + value t n

-- n lots were taken, whatever the terms of the quote
abbrev pub WithLotsGives : Quote → ℕ → ℕ → Turn → Type 0
WithLotsGives q others n r = (t : Terms) → QuoteOf t q → Turned t others n r

-- the issue had so many lots, and has n: none were taken only where it had n
abbrev pub Took : Terms → ℕ → ℕ → ℕ → Option Turn → Type 0
Took t had reached n r = MatchOption r (n ≡ had) (Turned t (besides t had reached) n)
