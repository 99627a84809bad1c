-- Filling for an amount of 0 takes no lot, in whatever order. Assumes nothing.
use mathlib.Core.Path.{◌≡◌, refl, sym, ap, ◌∙◌}
use Prim.Native.Nat.{ℕ, ◌-◌, zero-le}
use native.Mathlib.Omega.{arith}
use mathlib.Core.Bool.{Bool, true, false}
use mathlib.Core.List.{List, [], ◌∷◌}
use lib.ListN.{length, get_or, set}
use lib.Seq.{set-get_or}
use lib.Dec.{leb, ltb}
use borrow.Author.Tests.{le-ltb}
use Rattle.lists.specs.Search.{least_from, least}
use Rattle.lists.specs.Tables.{zeros}
use Rattle.lists.specs.Folds.{foldl}
use Rattle.lists.proofs.TestLaws.{pick_no, pick-elim}
use Rattle.lists.proofs.TableLaws.{get_or-zeros}
use Rattle.rule.specs.Value.{Terms, no_terms, value, fewest, most}
use Rattle.rule.specs.Filling.{Taken, nothing, others, become, take_up_to, walk, fill_preferential, target, take_units, first_pass, with_remainder, second_pass, fill_drawn, fill}

fewest-none : (t : Terms) → fewest t 0 ≡ 0
unfolding fewest least least_from
fewest-none t = refl

most-none : (t : Terms) → most t 0 ≡ 0
unfolding most fewest least least_from
most-none t = pick-elim (λ (n : ℕ). n - 1 ≡ 0) (leb 1 (value t 0)) 0 1 refl refl

become-nothing : (n i : ℕ) → become (nothing n) i 0 ≡ nothing n
unfolding become
become-nothing n i = λ k. record {
  lots = (ap (set (zeros n) i) (sym (get_or-zeros n i)) ∙ set-get_or (zeros n) i 0) k;
  last = pick_no (ltb (get_or (zeros n) i 0) 0) i 0 (le-ltb (get_or (zeros n) i 0) 0 zero-le) k;
}

still : (n i : ℕ) {m : ℕ} → m ≡ 0 → become (nothing n) i m ≡ nothing n
still n i e = rw e (become-nothing n i)

fold-still : (f : Taken → ℕ → Taken) (s : Taken) → ((i : ℕ) → f s i ≡ s) → (order : List ℕ) → foldl f s order ≡ s
fold-still f s h [] = refl
fold-still f s h (i ∷ is) = rw (h i) (fold-still f s h is)

module _ (ts : List Terms) (n : ℕ) where
  walk-nothing : (bound : ℕ → ℕ) (order : List ℕ) → walk ts 0 bound order (nothing n) ≡ nothing n
  unfolding walk take_up_to
  walk-nothing bound order = fold-still (take_up_to ts 0 bound) (nothing n) (λ i. still n i (omega (arith, get_or-zeros n i, few i))) order
    where
      few : (i : ℕ) → fewest (get_or ts i no_terms) (0 - others ts (nothing n) i) ≡ 0
      few i = let z : 0 - others ts (nothing n) i ≡ 0 = omega arith in rw z (fewest-none (get_or ts i no_terms))

  units-nothing : (usable order : List ℕ) → foldl (take_units ts (target 0) usable) (nothing n) order ≡ nothing n
  unfolding take_units target
  units-nothing usable order = fold-still (take_units ts (target 0) usable) (nothing n) (λ i. still n i (omega (arith, few i))) order
    where
      few : (i : ℕ) → most (get_or ts i no_terms) (target 0 - others ts (nothing n) i) ≡ 0
      few i = let z : target 0 - others ts (nothing n) i ≡ 0 = omega arith in rw z (most-none (get_or ts i no_terms))

pub fill_none : (preferential : Bool) (ts : List Terms) (usable order : List ℕ) → fill preferential ts usable order 0 ≡ nothing (length usable)
unfolding fill fill_preferential fill_drawn second_pass first_pass
fill_none true ts usable order = walk-nothing ts (length usable) (λ i. get_or usable i 0) order
fill_none false ts usable order =
    let first : first_pass ts usable order 0 ≡ nothing (length usable) = units-nothing ts (length usable) usable order in
    let second : second_pass ts usable order 0 ≡ nothing (length usable) =
    ap (walk ts 0 (with_remainder usable (first_pass ts usable order 0)) order) first ∙ walk-nothing ts (length usable) (with_remainder usable (first_pass ts usable order 0)) order in
    ap (walk ts 0 (λ i. get_or usable i 0) order) second ∙ walk-nothing ts (length usable) (λ i. get_or usable i 0) order
