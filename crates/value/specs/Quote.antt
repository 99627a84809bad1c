-- Of which terms a quote is. Only the proofs of this crate look inside. Assumes nothing.
use Rattle.std.specs.Prelude.{◌≡◌, ℕ, ◌+◌, ◌*◌, Bool, true, ◌&&◌, leb, eqb}
use Rattle.rule.specs.Value.{Terms}
use Rattle.value.specs.declared.Quote.{Quote}

-- 730 times what a lot is worth before rounding: 5 × price and coupon × days ÷ 730
unfoldable pub rate : Terms → ℕ
rate t = 3650 * t.price + t.coupon * t.days

-- is q the quote of an issue of these terms?
unfoldable pub is_quote : Terms → Quote → Bool
is_quote t q = leb 1_000 t.price && eqb q.rate (rate t)

-- It is. Callers hand this on. It is a record, so that its terms and quote are found by themselves, and has a test inside, so that a ghost
-- field may say it: a fact with one proof
pub record QuoteOf (t : Terms) (q : Quote) : Type 0 where
  pub holds : is_quote t q ≡ true
