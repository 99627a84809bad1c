-- The code's table says what the composition says, and beyond its seven baskets and seven kinds nothing is within. Assumes nothing.
use mathlib.Core.Path.{◌≡◌, refl, sym}
use mathlib.Core.Bool.{Bool, true, false}
use mathlib.Core.List.{List, [], map}
use Prim.Native.Nat.{ℕ, ◌≤◌, ◌<◌}
use lib.Dec.{leb}
use native.Mathlib.Decide.{dec_lt}
use native.Mathlib.Omega.{arith}
use lib.ListN.{get_or, get_or-eq_default}
use Rattle.lists.specs.Tests.{all_below, holds, member}
use Rattle.lists.specs.Tables.{table, row}
use Rattle.lists.proofs.TestLaws.{all-at, absent}
use Rattle.lists.proofs.TableLaws.{get_or-table}
use Rattle.rule.specs.Value.{Terms}
use Rattle.rule.specs.Baskets.{composition, within}
use Rattle.baskets.specs.Kinds.{KindsOf}

-- ---- the table

-- "A 0; B 0,1; C 0,1,2,3; D C and 4; E C, 4, 5; F C, 4, 6; G all" as a table of yes and no. The code's constant computes to
-- the same, or `kinds_of` is not proved
abbrev kinds : ℕ → List Bool
kinds k = table 7 (λ x. member x (row composition k))

unfoldable pub composed : List (List Bool)
composed = table 7 kinds

-- no basket takes a kind above 6
kinds-end : all_below 7 (λ k. holds (map (λ y. leb y 6) (row composition k))) ≡ true
unfolding all_below holds composition
kinds-end = refl

module _ (k : ℕ) where
  -- "Baskets A to G are 0 to 6", and so are the kinds
  pub no-kinds : 7 ≤ k → KindsOf k (table 7 (λ x. false))
  unfolding within composition member
  no-kinds h = record { seven = refl; taken = λ t. nothing t (dec_lt t.kind 7) }
    where
      nothing : (t : Terms) → Dec (t.kind < 7) → get_or (table 7 (λ x. false)) t.kind false ≡ within k t
      nothing t (yes l) = rw (get_or-eq_default composition [] h, get_or-table 7 (λ x. false) t.kind false l)
      nothing t (no l) = let g : 7 ≤ t.kind = omega arith in rw (get_or-eq_default composition [] h, get_or-eq_default (table 7 (λ x. false)) false g)

  module _ (l : k < 7) where
    entry-within : (t : Terms) → Dec (t.kind < 7) → get_or (kinds k) t.kind false ≡ within k t
    unfolding within
    entry-within t (yes h) = get_or-table 7 (λ x. member x (row composition k)) t.kind false h
    entry-within t (no h) =
        let g : 7 ≤ t.kind = omega arith in
        rw (get_or-eq_default (kinds k) false g) (sym (absent g (row composition k) (all-at _ 7 kinds-end k l)))

    pub kinds-are : (none : List Bool) → KindsOf k (get_or composed k none)
    unfolding composed
    kinds-are none = rw (get_or-table 7 kinds k none l) (record { seven = refl; taken = λ t. entry-within t (dec_lt t.kind 7) })
