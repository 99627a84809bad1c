-- An issue of which nothing may be used takes nothing in its turn, so it may be left out of the order. Assumes nothing.
use mathlib.Core.Path.{◌≡◌, sym, ap, ◌∙◌}
use Prim.Native.Nat.{ℕ, zero, suc, ◌-◌, ◌*◌, ◌/◌, min, max}
use native.Mathlib.Nat.{not-suc-le-zero}
use native.Mathlib.Omega.{arith}
use mathlib.Core.Bool.{Bool, true, false}
use mathlib.Core.List.{List, []}
use lib.ListN.{length, get_or}
use lib.Dec.{leb}
use Rattle.lists.specs.Tests.{pick}
use Rattle.lists.specs.Folds.{keep, Every}
use Rattle.lists.proofs.FoldLaws.{fold-kept, fold-keep, every-all, every_map}
use Rattle.lists.proofs.TableLaws.{get_or-zeros, set-kept}
use Rattle.rule.specs.Value.{Terms, no_terms, fewest, most}
use Rattle.rule.specs.Filling.{worth, Taken, nothing, lots_of, others, become, take_up_to, walk, fill_preferential, unit, target, take_units, first_pass, with_remainder, second_pass, fill_drawn, fill, covered, plain, cover, force, carry, filled}
use Rattle.rule.proofs.FillingLaws.{become-same}

module _ (ts : List Terms) (usable : List ℕ) (live : ℕ → Bool) where
  -- what is not kept has nothing that may be used
  abbrev Rest : List ℕ → Type 0
  Rest order = Every (λ i. live i ≡ false → get_or usable i 0 ≡ 0) order

  -- the match has no lot where none may be used
  abbrev Within : Taken → Type 0
  Within s = (i : ℕ) → get_or usable i 0 ≡ 0 → lots_of s i ≡ 0

  nothing-within : Within (nothing (length usable))
  nothing-within i z = get_or-zeros (length usable) i

  become-within : (s : Taken) (i n : ℕ) → (get_or usable i 0 ≡ 0 → n ≡ 0) → Within s → Within (become s i n)
  unfolding become
  become-within s i n h w j z =
      set-kept (λ j m. get_or usable j 0 ≡ 0 → m ≡ 0) s.lots i n j (λ e y. h (sym (ap (λ (k : ℕ). get_or usable k 0) e) ∙ y)) (w j) z

  become-still : (s : Taken) (i n : ℕ) → n ≡ 0 → lots_of s i ≡ 0 → become s i n ≡ s
  become-still s i n e z = ap (become s i) (e ∙ sym z) ∙ become-same [] (λ j h. absurd (not-suc-le-zero h)) s i

  -- ---- a walk

  module _ (amount : ℕ) (bound : ℕ → ℕ) (b : (i : ℕ) → get_or usable i 0 ≡ 0 → bound i ≡ 0) where
    taken_none : (s : Taken) (i : ℕ) → get_or usable i 0 ≡ 0 → min (bound i) (max (lots_of s i) (fewest (get_or ts i no_terms) (amount - others ts s i))) ≡ 0
    taken_none s i z = omega (arith, b i z)

    step-within : (s : Taken) (i : ℕ) → Within s → Within (take_up_to ts amount bound s i)
    unfolding take_up_to
    step-within s i w = become-within s i _ (taken_none s i) w

    step-still : (s : Taken) (i : ℕ) → get_or usable i 0 ≡ 0 → Within s → take_up_to ts amount bound s i ≡ s
    unfolding take_up_to
    step-still s i z w = become-still s i _ (taken_none s i z) (w i z)

    walk-within : (order : List ℕ) (s : Taken) → Within s → Within (walk ts amount bound order s)
    unfolding walk
    walk-within order s w = fold-kept Within (λ i. Unit {0}) (take_up_to ts amount bound) (λ s i q w. step-within s i w) order (every-all _ (λ i. tt) order) s w

    walk_kept : (order : List ℕ) → Rest order → (s : Taken) → Within s → walk ts amount bound (keep live order) s ≡ walk ts amount bound order s
    unfolding walk
    walk_kept order r s w = fold-keep (take_up_to ts amount bound) Within live step-within order
        (every_map (λ i. live i ≡ false → get_or usable i 0 ≡ 0) _ (λ i h e s w. step-still s i (h e) w) order r) s w

  -- ---- the first pass

  module _ (goal : ℕ) where
    units-none : (s : Taken) (i : ℕ) → get_or usable i 0 ≡ 0 → min (get_or usable i 0 / unit) (most (get_or ts i no_terms) (goal - others ts s i) / unit) * unit ≡ 0
    units-none s i z = omega arith

    units-within : (s : Taken) (i : ℕ) → Within s → Within (take_units ts goal usable s i)
    unfolding take_units
    units-within s i w = become-within s i _ (units-none s i) w

    units-still : (s : Taken) (i : ℕ) → get_or usable i 0 ≡ 0 → Within s → take_units ts goal usable s i ≡ s
    unfolding take_units
    units-still s i z w = become-still s i _ (units-none s i z) (w i z)

  module _ (order : List ℕ) (r : Rest order) (amount : ℕ) where
    first-within : (order : List ℕ) → Within (first_pass ts usable order amount)
    unfolding first_pass
    first-within order =
        fold-kept Within (λ i. Unit {0}) (take_units ts (target amount) usable) (λ s i q w. units-within (target amount) s i w) order
        (every-all _ (λ i. tt) order) (nothing (length usable)) nothing-within

    first-kept : first_pass ts usable (keep live order) amount ≡ first_pass ts usable order amount
    unfolding first_pass
    first-kept = fold-keep (take_units ts (target amount) usable) Within live (units-within (target amount)) order
        (every_map (λ i. live i ≡ false → get_or usable i 0 ≡ 0) _ (λ i h e s w. units-still (target amount) s i (h e) w) order r) (nothing (length usable)) nothing-within

    -- ---- the later passes, and a preferential match

    remainder-none : (s : Taken) → Within s → (i : ℕ) → get_or usable i 0 ≡ 0 → with_remainder usable s i ≡ 0
    unfolding with_remainder
    remainder-none s w i z = omega (arith, w i z)

    second-within : Within (second_pass ts usable order amount)
    unfolding second_pass
    second-within = let s = first_pass ts usable order amount in walk-within amount (with_remainder usable s) (remainder-none s (first-within order)) order s (first-within order)

    second-kept : second_pass ts usable (keep live order) amount ≡ second_pass ts usable order amount
    unfolding second_pass
    second-kept =
        let s = first_pass ts usable order amount in
        ap (λ (s : Taken). walk ts amount (with_remainder usable s) (keep live order) s) first-kept
        ∙ walk_kept amount (with_remainder usable s) (remainder-none s (first-within order)) order r s (first-within order)

    fill-kept : (preferential : Bool) → fill preferential ts usable (keep live order) amount ≡ fill preferential ts usable order amount
    unfolding fill fill_preferential fill_drawn
    fill-kept true = walk_kept amount (λ i. get_or usable i 0) (λ i z. z) order r (nothing (length usable)) nothing-within
    fill-kept false =
        ap (walk ts amount (λ i. get_or usable i 0) (keep live order)) second-kept
        ∙ walk_kept amount (λ i. get_or usable i 0) (λ i z. z) order r (second_pass ts usable order amount) second-within

-- a match is filled alike without them
pub filled-kept : (runs : ℕ) (preferential : Bool) (ts : List Terms) (usable order : List ℕ) (live : ℕ → Bool) (forced amount : ℕ)
    → Every (λ i. live i ≡ false → get_or usable i 0 ≡ 0) order
    → filled runs preferential ts usable (keep live order) forced amount ≡ filled runs preferential ts usable order forced amount
unfolding filled carry cover
filled-kept zero preferential ts usable order live f amount r =
    ap (plain (covered amount (worth ts usable))) (fill-kept ts usable live order r (covered amount (worth ts usable)) preferential)
filled-kept (suc zero) preferential ts usable order live f amount r =
    ap (plain (covered amount (worth ts usable))) (fill-kept ts usable live order r (covered amount (worth ts usable)) preferential)
filled-kept (suc (suc runs)) preferential ts usable order live f amount r =
    ap (λ (s : Taken). pick (leb amount (worth ts usable)) (plain amount s) (force ts usable f amount)) (fill-kept ts usable live order r amount preferential)
