-- Yen and lots are compared as their numbers: what a comparison says of these. Assumes nothing.
use mathlib.Core.Path.{◌≡◌}
use mathlib.Core.Bool.{Bool, true, false}
use Prim.Native.Nat.{ℕ, ◌≤◌, ◌<◌}
use native.Mathlib.Omega.{arith}
use lib.Dec.{eqb}
use Rattle.std.specs.Ordering.{nat_cmp, is_lt, is_le, is_gt, is_ge}
use Rattle.std.proofs.lemmas.Bool.Decides.{nat_tests}

module _ (a b : ℕ) {r : Bool} where
  pub lt-yes : r ≡ is_lt (nat_cmp a b) → r ≡ true → a < b
  lt-yes e h = grind (arith, nat_tests)

  pub lt-no : r ≡ is_lt (nat_cmp a b) → r ≡ false → b ≤ a
  lt-no e h = grind (arith, nat_tests)

  pub le-yes : r ≡ is_le (nat_cmp a b) → r ≡ true → a ≤ b
  le-yes e h = grind (arith, nat_tests)

  pub le-no : r ≡ is_le (nat_cmp a b) → r ≡ false → b < a
  le-no e h = grind (arith, nat_tests)

  pub gt-yes : r ≡ is_gt (nat_cmp a b) → r ≡ true → b < a
  gt-yes e h = grind (arith, nat_tests)

  pub gt-no : r ≡ is_gt (nat_cmp a b) → r ≡ false → a ≤ b
  gt-no e h = grind (arith, nat_tests)

  pub ge_yes : r ≡ is_ge (nat_cmp a b) → r ≡ true → b ≤ a
  ge_yes e h = grind (arith, nat_tests)

  pub ge_no : r ≡ is_ge (nat_cmp a b) → r ≡ false → a < b
  ge_no e h = grind (arith, nat_tests)

  pub eq_yes : r ≡ eqb a b → r ≡ true → a ≡ b
  eq_yes e h = grind (arith, nat_tests)

  pub eq_no : r ≡ eqb a b → r ≡ false → a ≡ b → ⊥
  eq_no e h q = grind (arith, nat_tests)
