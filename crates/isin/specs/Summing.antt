-- The sum of the check digit, made from the first digit on. Assumes nothing.
use Rattle.std.specs.Prelude.{ℕ, ◌+◌, ◌-◌, ◌*◌, ◌/◌, ◌%◌, ◌≤◌, true, false, List}
use Rattle.lists.specs.Tests.{pick}
use Rattle.rule.specs.Isin.{digit, doubled}
use Rattle.isin.specs.declared.Sums.{Sums}

pub record Within (s : Sums) (most : ℕ) : Type 0 where
  pub twice : s.twice ≤ most
  pub once : s.once ≤ most

-- both sums of digits that stand last one first
unfoldable pub sums_of : List ℕ → Sums
sums_of ds = record { twice = doubled true ds; once = doubled false ds }

-- a digit more
unfoldable pub with_digit : Sums → ℕ → Sums
with_digit s d = record { twice = 2 * d / 10 + 2 * d % 10 + s.once; once = d + s.twice }

-- a capital more: its two digits
unfoldable pub with_capital : Sums → ℕ → Sums
with_capital s c = with_digit (with_digit s ((c - 55) / 10)) ((c - 55) % 10)

-- a character more
unfoldable pub with_character : Sums → ℕ → Sums
with_character s c = pick (digit c) (with_digit s (c - 48)) (with_capital s c)
