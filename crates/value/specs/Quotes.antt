-- The quotes of the day's issues, by issue. Assumes nothing.
use Rattle.std.specs.Prelude.{◌≡◌, List, [], ℕ, ◌<◌, length, get_or}
use Rattle.rule.specs.Value.{Terms, no_terms}
use Rattle.rule.specs.Day.{terms_of}
use Rattle.value.specs.Range.{InRange}
use Rattle.value.specs.Quote.{QuoteOf}
use Rattle.value.specs.declared.Quote.{Quote}

-- the quote in place i is one of these terms, whatever a read past the last place gives
pub record QuotedAt (t : Terms) (quotes : List Quote) (i : ℕ) : Type 0 where
  pub quoted : (past : Quote) → QuoteOf t (get_or quotes i past)

-- each issue's quote stands in its place
pub record Quotes (ts : List Terms) (quotes : List Quote) : Type 0 where
  pub each : (i : ℕ) → i < length ts → QuotedAt (get_or ts i no_terms) quotes i

-- the cells of so many issues, with terms in their ranges
pub record QuoteFillAsks (n : ℕ) (issues : List (List ℕ)) : Type 0 where
  pub many : length issues ≡ n
  pub in_range : (i : ℕ) → i < n → let t : Terms = terms_of (get_or issues i []) in InRange t.price t.coupon t.days
