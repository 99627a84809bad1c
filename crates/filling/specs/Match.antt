-- What one match may use, what it asks, and what it was filled with. Assumes nothing.
use Rattle.std.specs.Prelude.{◌≡◌, Bool, List, map, ℕ, ◌≤◌, ◌<◌, length, get_or}
use Rattle.rule.specs.Value.{Terms}
use Rattle.rule.specs.Day.{terms_of}
use Rattle.rule.specs.Layout.{most_issues}
use Rattle.rule.specs.Filling.{worth, Filled, filled}
use Rattle.value.specs.Quotes.{Quotes}
use Rattle.value.specs.declared.Quote.{Quote}
use Rattle.filling.specs.Rows.{NamesOnce}
use Rattle.filling.specs.declared.Filling.{Filling}
use Rattle.rule.specs.Sound.{notice_limit}
use Rattle.value.specs.Range.{most_yen}

-- the amount of a match
pub record CoveredAsks (amount : ℕ) : Type 0 where
  pub amount_most : amount ≤ most_yen

-- the match is filled alike in every order of the issues
pub record Idle (runs all amount : ℕ) : Type 0 where
  pub same : (preferential : Bool) (ts : List Terms) (usable order order' : List ℕ) (forced : ℕ) → all ≡ worth ts usable
      → filled runs preferential ts usable order forced amount ≡ filled runs preferential ts usable order' forced amount

-- the day's issues, and rows that have the quote of each, its notified and its usable lots; an order, and what all usable lots are worth
pub record Supplied (issues : List (List ℕ)) (quotes : List Quote) (notified usable order : List ℕ) (all : ℕ) : Type 0 where
  pub issues_least : 1 ≤ length usable
  pub issues_most : length usable ≤ most_issues
  pub issues_there : length issues ≡ length usable
  pub quotes_there : length usable ≤ length quotes
  pub notified_there : length notified ≡ length usable
  pub quoted : Quotes (map terms_of issues) quotes
  pub usable_most : (i : ℕ) → i < length usable → get_or usable i 0 ≤ notice_limit
  pub named : NamesOnce (length usable) order
  pub all_is : all ≡ worth (map terms_of issues) usable

-- all usable lots are worth less than the amount, and there is a row for them
pub record ForceAsks (issues all amount places : ℕ) : Type 0 where
  pub below : all < amount
  pub amount_most : amount ≤ most_yen
  pub row : places ≡ issues

-- the code's answer is the rule's
pub record FilledAs (m : Filled) (r : Filling) (lots : List ℕ) : Type 0 where
  pub covered : r.covered.0 ≡ m.covered
  pub lots_are : lots ≡ m.lots
  pub forced : r.forced ≡ m.forced
  pub forced_lots : r.forced_lots.0 ≡ m.forced_lots
