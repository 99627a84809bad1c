-- What valuing asks of numbers: an issue's terms, what a lot is worth, lots and yen. Assumes nothing.
use Rattle.std.specs.Prelude.{ℕ, ◌≤◌}

-- the ranges of an issue's price, coupon and days
pub record InRange (price coupon days : ℕ) : Type 0 where
  pub price_least : 1_000 ≤ price
  pub price_most : price ≤ 30_000
  pub coupon_most : coupon ≤ 20_000
  pub days_most : days ≤ 366

-- and so of what a lot is worth in 730ths of a yen
pub record Rated (rate : ℕ) : Type 0 where
  pub least : 3_650_000 ≤ rate
  pub most : rate ≤ 116_820_000

-- ---- the bounds of what callers hand over: a value of so many lots, 32 of which make a sum, and an amount

abbrev pub most_lots : ℕ
most_lots = 10_000_000_000

abbrev pub most_sum : ℕ
most_sum = 100_000_000_000_000_000

abbrev pub most_yen : ℕ
most_yen = 10_000_000_000_000
