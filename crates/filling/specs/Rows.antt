-- A match's row of lots: what an issue's turn in it and filling it ask and leave. Assumes nothing.
use Rattle.std.specs.Prelude.{◌≡◌, Bool, true, false, List, [], ◌∷◌, ℕ, ◌+◌, ◌≤◌, ◌<◌, length, get_or, set, Option, Some, None}
use Rattle.lists.specs.Tables.{zeros}
use Rattle.rule.specs.Value.{Terms, value}
use Rattle.quantities.specs.declared.Yen.{Yen}
use Rattle.value.specs.Quotes.{QuotedAt}
use Rattle.value.specs.declared.Quote.{Quote}
use Rattle.turns.specs.Turns.{besides, Part}
use Rattle.turns.specs.Passes.{next_of, NextAsks}
use Rattle.turns.specs.declared.Pass.{Pass}
use Rattle.turns.specs.declared.Pass.TheVariants.{Units, Remainders, Rest}
use Rattle.value.specs.Range.{most_yen}

-- the passes of a match, in their order
abbrev pub passes_of : Bool → List Pass
passes_of true = Rest ∷ []
passes_of false = Units ∷ Remainders ∷ Rest ∷ []

-- the turn of issue i in a row of lots
pub record TakeTurnAsks (pass : Pass) (quotes : List Quote) (lots usable : List ℕ) (i reached amount : ℕ) : Type 0 where
  pub row : length lots ≡ length usable
  pub inside : i < length usable
  pub part : (past : Quote) → Part (get_or quotes i past) (get_or lots i 0) reached
  pub turnable : NextAsks pass (get_or lots i 0) (get_or usable i 0) reached amount

pub record RowTurned (pass : Pass) (t : Terms) (lots usable : List ℕ) (i reached amount : ℕ) (after : List ℕ) (value_after : ℕ) : Type 0 where
  pub cells : after ≡ set lots i (next_of pass t (get_or usable i 0) (get_or lots i 0) reached amount)
  pub worth : value_after ≡ besides t (get_or lots i 0) reached + value t (next_of pass t (get_or usable i 0) (get_or lots i 0) reached amount)

-- what the match is worth after a turn: as before, where it takes nothing
abbrev pub worth_after : ℕ → Option Yen → ℕ
worth_after reached None = reached
worth_after reached (Some worth) = worth.0

-- the turn taken, whatever the terms of the quote
abbrev pub TakeTurnGives : Pass → List Quote → List ℕ → List ℕ → ℕ → ℕ → ℕ → List ℕ → Option Yen → Type 0
TakeTurnGives pass quotes lots usable i reached amount after r =
    (t : Terms) → QuotedAt t quotes i → RowTurned pass t lots usable i reached amount after (worth_after reached r)

-- ---- what filling asks

-- an amount, and a row for the issues that has nothing yet
pub record FillMatchAsks (issues amount : ℕ) (lots : List ℕ) : Type 0 where
  pub amount_most : amount ≤ most_yen
  pub empty : lots ≡ zeros issues

-- an order names issues of the day, none of them twice
pub record NamesOnce (issues : ℕ) (order : List ℕ) : Type 0 where
  pub inside : (k : ℕ) → k < length order → get_or order k 0 < issues
  pub once : (j k : ℕ) → j < length order → k < length order → get_or order j 0 ≡ get_or order k 0 → j ≡ k
