-- The kinds that a basket takes, as a row of the code's table. Assumes nothing.
use Rattle.std.specs.Prelude.{ℕ, ◌≡◌, Bool, false, List, length, get_or}
use Rattle.rule.specs.Value.{Terms}
use Rattle.rule.specs.Baskets.{within}

-- the row says of each kind whether basket k takes it
pub record KindsOf (k : ℕ) (kinds : List Bool) : Type 0 where
  pub seven : length kinds ≡ 7
  pub taken : (t : Terms) → get_or kinds t.kind false ≡ within k t
