-- What may be used, by the runs done, and the smaller of two quantities. Assumes nothing.
use mathlib.Core.Path.{◌≡◌, refl}
use Prim.Native.Nat.{ℕ, zero, suc, min, ◌<◌}
use native.Mathlib.Decide.{dec_lt}
use native.Mathlib.Omega.{arith}
use lib.Dec.{eqb}
use Rattle.std.specs.Ordering.{ord_min}
use Rattle.std.proofs.lemmas.Bool.Decides.{nat_tests}
use Rattle.lists.specs.Tests.{pick}
use Rattle.quantities.specs.declared.Lots.{Lots}
use Rattle.quantities.specs.contracts.LotsOrd.TheImpl.{cmp-value}
use Rattle.rule.specs.Allocable.{Marks, unmarked, allocable}

module _ (m : Marks) (runs notified scheduled : ℕ) where
  pub first_run : runs ≡ 0 → allocable runs m notified scheduled ≡ pick (eqb m.redeemed 0) (min notified scheduled) 0
  unfolding allocable
  first_run w = rw w

pub later_run : (m : Marks) (runs notified scheduled : ℕ) → (runs ≡ 0 → ⊥) → allocable runs m notified scheduled ≡ pick (unmarked m) notified 0
unfolding allocable
later_run m zero notified scheduled w = absurd (w refl)
later_run m (suc runs) notified scheduled w = refl

-- `Lots` are ordered as their numbers
pub smaller : (a b : Lots) → (ord_min cmp-value.it a b).0 ≡ min a.0 b.0
smaller a b = go (dec_lt b.0 a.0)
  where
    go : Dec (b.0 < a.0) → (ord_min cmp-value.it a b).0 ≡ min a.0 b.0
    go (yes h) = grind (arith, nat_tests)
    go (no h) = grind (arith, nat_tests)

pub ruleset by_window = (first_run, later_run, smaller)
