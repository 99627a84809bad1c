-- The passes of a match, with what stands in each: the code's turn is the rule's step, and where the amount is reached the rest of
-- this pass and the later ones change nothing. Assumes nothing.
use mathlib.Core.Path.{◌≡◌, refl, ◌∙◌}
use mathlib.Core.Logic.{◌≢◌}
use Prim.Native.Nat.{ℕ, ◌-◌, ◌*◌, ◌/◌, ◌≤◌, ◌<◌, min, max}
use native.Mathlib.Nat.{le_refl, le_trans}
use native.Mathlib.Decide.{dec_le}
use native.Mathlib.Omega.{arith}
use mathlib.Core.Bool.{Bool, true, false}
use mathlib.Core.List.{List, [], ◌∷◌}
use lib.ListN.{length, get_or, take, drop}
use lib.Seq.{get_or-set_other}
use Rattle.lists.specs.Tables.{zeros}
use Rattle.lists.specs.Folds.{foldl, Every}
use Rattle.lists.proofs.TableLaws.{length-table, get_or-zeros, set-kept}
use Rattle.rule.specs.Value.{Terms, no_terms, value, fewest, most}
use Rattle.rule.specs.Filling.{worth, Taken, nothing, lots_of, others, become, take_up_to, walk, fill_preferential, unit, target, take_units, first_pass, with_remainder, second_pass, fill_drawn, fill}
use Rattle.rule.proofs.ValueLaws.{value-strict, most-keeps, most-greatest}
use Rattle.rule.proofs.FillingLaws.{Priced, Good, Units as Whole, apart, worth-zeros, become-same, walk-good, walk-idle, pass-good}
use Rattle.turns.specs.Turns.{besides, lots_up_to, whole_units}
use Rattle.turns.specs.Passes.{bound_of, next_of, Fresh}
use Rattle.turns.specs.declared.Pass.{Pass}
use Rattle.turns.specs.declared.Pass.TheVariants.{Units, Remainders, Rest}
use Rattle.lists.proofs.FoldLaws.{foldl-split, every_take, every_drop}

-- the step of a pass, what the match has where the pass begins, and where it is over
abbrev pub step : List Terms → List ℕ → List ℕ → ℕ → Pass → Taken → ℕ → Taken
step ts usable order amount Units = take_units ts (target amount) usable
step ts usable order amount Remainders = take_up_to ts amount (with_remainder usable (first_pass ts usable order amount))
step ts usable order amount Rest = take_up_to ts amount (λ i. get_or usable i 0)

abbrev pub begun : Bool → List Terms → List ℕ → List ℕ → ℕ → Pass → Taken
begun preferential ts usable order amount Units = nothing (length usable)
begun preferential ts usable order amount Remainders = first_pass ts usable order amount
begun true ts usable order amount Rest = nothing (length usable)
begun false ts usable order amount Rest = second_pass ts usable order amount

abbrev pub over : Bool → List Terms → List ℕ → List ℕ → ℕ → Pass → Taken
over preferential ts usable order amount Units = first_pass ts usable order amount
over preferential ts usable order amount Remainders = second_pass ts usable order amount
over preferential ts usable order amount Rest = fill preferential ts usable order amount

-- what the match has after k issues of the pass
abbrev pub after : Bool → List Terms → List ℕ → List ℕ → ℕ → Pass → ℕ → Taken
after preferential ts usable order amount p k = foldl (step ts usable order amount p) (begun preferential ts usable order amount p) (take k order)

-- a pass that a match of the sort has
abbrev pub Has : Bool → Pass → Type 0
Has true Units = ⊥
Has true Remainders = ⊥
Has true Rest = Unit {0}
Has false p = Unit {0}

-- what a turn of the pass asks of what the match has
pub record Stands (ts : List Terms) (usable order : List ℕ) (amount : ℕ) (pass : Pass) (s : Taken) : Type 0 where
  pub sized : length s.lots ≡ length ts
  pub bounded : (i : ℕ) → lots_of s i ≤ bound_of pass (get_or usable i 0) (lots_of s i)
  pub within : (i : ℕ) → lots_of s i ≤ get_or usable i 0
  pub turned : (i : ℕ) → i < length ts
      → step ts usable order amount pass s i ≡ become s i (next_of pass (get_or ts i no_terms) (get_or usable i 0) (lots_of s i) (worth ts s.lots) amount)

-- a pass does not change the lots of an issue that it does not meet
fold-other : (f : Taken → ℕ → Taken) → ((s : Taken) (i j : ℕ) → j ≢ i → lots_of (f s i) j ≡ lots_of s j)
    → (xs : List ℕ) (j : ℕ) → Every (λ i. j ≢ i) xs → (s : Taken) → lots_of (foldl f s xs) j ≡ lots_of s j
fold-other f other [] j q s = refl
fold-other f other (i ∷ is) j q s = fold-other f other is j q.1 (f s i) ∙ other s i j q.0

module _ (ts : List Terms) (priced : Priced ts) (usable : List ℕ) (order : List ℕ) (amount : ℕ) where
  abbrev inside : List ℕ → Type 0
  inside xs = Every (λ i. i < length ts) xs

  abbrev may : ℕ → ℕ
  may i = get_or usable i 0

  -- what the others are worth, from what the match is worth
  besides-others : (s : Taken) (i : ℕ) → i < length ts → length s.lots ≡ length ts
      → besides (get_or ts i no_terms) (lots_of s i) (worth ts s.lots) ≡ others ts s i
  besides-others s i h e = omega (arith, apart ts priced s i h e)

  -- ---- a walk never lowers what the match has

  module _ (bound : ℕ → ℕ) where
    step-good : (s : Taken) (i : ℕ) → i < length ts → Good ts bound s → Good ts bound (take_up_to ts amount bound s i)
    step-good s i h g = unfold walk in walk-good ts priced amount bound (i ∷ []) (h, tt) s g

    step-above : (s : Taken) (i : ℕ) → Good ts bound s → (j : ℕ) → lots_of s j ≤ lots_of (take_up_to ts amount bound s i) j
    unfolding take_up_to become
    step-above s i g j =
        set-kept (λ j m. lots_of s j ≤ m) s.lots i (min (bound i) (max (lots_of s i) (fewest (get_or ts i no_terms) (amount - others ts s i)))) j
        (λ e. rw e (omega (arith, g.bounded i))) (le_refl _)

    pub walk-above : (xs : List ℕ) → inside xs → (s : Taken) → Good ts bound s → (j : ℕ) → lots_of s j ≤ lots_of (foldl (take_up_to ts amount bound) s xs) j
    walk-above [] q s g j = le_refl _
    walk-above (i ∷ is) q s g j = le_trans (step-above s i g j) (walk-above is q.1 (take_up_to ts amount bound s i) (step-good s i q.0 g) j)

    up-to-other : (s : Taken) (i j : ℕ) → j ≢ i → lots_of (take_up_to ts amount bound s i) j ≡ lots_of s j
    unfolding take_up_to become
    up-to-other s i j d = get_or-set_other s.lots i j _ 0 d

  -- ---- the first pass: where the target is reached the rest of it changes nothing

  module _ (goal : ℕ) where
    units-other : (s : Taken) (i j : ℕ) → j ≢ i → lots_of (take_units ts goal usable s i) j ≡ lots_of s j
    unfolding take_units become
    units-other s i j d = get_or-set_other s.lots i j _ 0 d

    abbrev units : Taken → ℕ → ℕ
    units s i = min (may i / unit) (most (get_or ts i no_terms) (goal - others ts s i) / unit) * unit

    units-idle : (s : Taken) (i : ℕ) → i < length ts → Whole ts priced usable goal s → goal ≤ worth ts s.lots → take_units ts goal usable s i ≡ s
    unfolding take_units
    units-idle s i h u r =
        let t : Terms = get_or ts i no_terms in
        let full : goal - others ts s i ≡ value t (lots_of s i) = omega (arith, apart ts priced s i h u.good.sized, u.kept) in
        let low : lots_of s i ≤ most t (goal - others ts s i) = most-greatest t (priced i h) (goal - others ts s i) {n = lots_of s i} (omega arith) in
        let e : units s i ≡ lots_of s i = go low (dec_le (most t (goal - others ts s i)) (lots_of s i)) in
        rw e (become-same ts priced s i)
      where
        go : lots_of s i ≤ most (get_or ts i no_terms) (goal - others ts s i) → Dec (most (get_or ts i no_terms) (goal - others ts s i) ≤ lots_of s i) → units s i ≡ lots_of s i
        go low (yes k) = omega (arith, u.whole i, u.good.bounded i)
        go low (no k) =
            absurd (omega (
              arith,
              most-keeps (get_or ts i no_terms) (priced i h) (goal - others ts s i) {n = most (get_or ts i no_terms) (goal - others ts s i)} (le_refl _),
              value-strict (get_or ts i no_terms) (priced i h) {m = lots_of s i} {n = most (get_or ts i no_terms) (goal - others ts s i)} (omega arith),
              apart ts priced s i h u.good.sized,
              u.kept,
            ))

    pub pass-idle : (xs : List ℕ) → inside xs → (s : Taken) → Whole ts priced usable goal s → goal ≤ worth ts s.lots
        → foldl (take_units ts goal usable) s xs ≡ s
    pass-idle [] q s u r = refl
    pass-idle (i ∷ is) q s u r = rw (units-idle s i q.0 u r) (pass-idle is q.1 s u r)

  -- ---- what stands in each pass

  pub stands-first : (s : Taken) → Whole ts priced usable (target amount) s → Stands ts usable order amount Units s
  unfolding whole_units take_units
  stands-first s u = record {
    sized = u.good.sized;
    bounded = λ i. u.good.bounded i;
    within = λ i. omega (arith, u.good.bounded i);
    turned = λ i h. rw (besides-others s i h u.good.sized);
  }

  pub stands-third : (s : Taken) → Good ts may s → Stands ts usable order amount Rest s
  unfolding lots_up_to take_up_to
  stands-third s g = record {
    sized = g.sized;
    bounded = λ i. g.bounded i;
    within = g.bounded;
    turned = λ i h. rw (besides-others s i h g.sized);
  }

  module _ (even : length usable ≡ length ts) (named : inside order) where
    nothing-good : (bound : ℕ → ℕ) → Good ts bound (nothing (length usable))
    nothing-good bound = record {
      sized = length-table (length usable) (λ i. 0) ∙ even;
      bounded = λ i. omega (arith, get_or-zeros (length usable) i);
    }

    pub nothing-worth : worth ts (zeros (length usable)) ≡ 0
    nothing-worth = worth-zeros ts (zeros (length usable)) (get_or-zeros (length usable))

    nothing-units : Whole ts priced usable (target amount) (nothing (length usable))
    nothing-units = record { good = nothing-good _; whole = λ i. omega (arith, get_or-zeros (length usable) i); kept = omega (arith, nothing-worth) }

    abbrev first : Taken
    first = first_pass ts usable order amount

    abbrev remainders : ℕ → ℕ
    remainders = with_remainder usable first

    first-units : Whole ts priced usable (target amount) first
    unfolding first_pass
    first-units = pass-good ts priced usable (target amount) order named (nothing (length usable)) nothing-units

    first-within : Good ts remainders first
    unfolding with_remainder
    first-within = record { sized = first-units.good.sized; bounded = λ i. omega arith }

    -- the whole units of what the second pass has are those of the first
    record Between (s : Taken) : Type 0 where
      good : Good ts remainders s
      above : (i : ℕ) → lots_of first i ≤ lots_of s i

    between-units : (s : Taken) → Between s → (i : ℕ) → lots_of s i / unit * unit ≡ lots_of first i
    unfolding with_remainder
    between-units s b i = omega (arith, b.above i, b.good.bounded i, first-units.whole i)

    stands-second : (s : Taken) → Between s → Stands ts usable order amount Remainders s
    unfolding lots_up_to take_up_to with_remainder
    stands-second s b = record {
      sized = b.good.sized;
      bounded = λ i. omega (arith, between-units s b i, b.good.bounded i);
      within = λ i. omega (arith, b.good.bounded i, first-units.good.bounded i);
      turned = λ i h. rw (besides-others s i h b.good.sized, between-units s b i);
    }

    between-at : (k : ℕ) → Between (foldl (take_up_to ts amount remainders) first (take k order))
    unfolding walk
    between-at k =
        let q : inside (take k order) = every_take _ k order named in
        record {
          good = walk-good ts priced amount remainders (take k order) q first first-within;
          above = walk-above remainders (take k order) q first first-within;
        }

    second-within : Good ts may (second_pass ts usable order amount)
    unfolding second_pass walk with_remainder
    second-within =
        let g : Good ts remainders (second_pass ts usable order amount) = walk-good ts priced amount remainders order named first first-within in
        record { sized = g.sized; bounded = λ i. omega (arith, g.bounded i, first-units.good.bounded i) }

    units-at : (k : ℕ) → Whole ts priced usable (target amount) (foldl (take_units ts (target amount) usable) (nothing (length usable)) (take k order))
    units-at k = pass-good ts priced usable (target amount) (take k order) (every_take _ k order named) (nothing (length usable)) nothing-units

    third-good : (preferential : Bool) → Good ts may (begun preferential ts usable order amount Rest)
    third-good true = nothing-good may
    third-good false = second-within

    third_at : (preferential : Bool) (k : ℕ) → Good ts may (after preferential ts usable order amount Rest k)
    unfolding walk
    third_at preferential k = walk-good ts priced amount may (take k order) (every_take _ k order named) (begun preferential ts usable order amount Rest) (third-good preferential)

    pub stands_at : (preferential : Bool) (p : Pass) (k : ℕ) → Stands ts usable order amount p (after preferential ts usable order amount p k)
    stands_at preferential Units k = stands-first _ (units-at k)
    stands_at preferential Remainders k = stands-second _ (between-at k)
    stands_at preferential Rest k = stands-third _ (third_at preferential k)

    -- an issue that is not met yet has nothing in the first pass, which keeps to its target, and whole units in the second
    pub fresh-at : (preferential : Bool) (p : Pass) (k j : ℕ) → Every (λ i. j ≢ i) (take k order)
        → Fresh p (lots_of (after preferential ts usable order amount p k) j) (worth ts (after preferential ts usable order amount p k).lots) amount
    fresh-at preferential Units k j q = (
      fold-other (take_units ts (target amount) usable) (units-other (target amount)) (take k order) j q (nothing (length usable)) ∙ get_or-zeros (length usable) j,
      (units-at k).kept,
    )
    fresh-at preferential Remainders k j q = rw (fold-other (take_up_to ts amount remainders) (up-to-other remainders) (take k order) j q first) (first-units.whole j)
    fresh-at preferential Rest k j q = tt

    -- ---- the amount is reached

    abbrev Reached : Taken → Type 0
    Reached s = amount ≤ worth ts s.lots

    walk-left : (bound : ℕ → ℕ) (k : ℕ) (s : Taken) → Good ts bound (foldl (take_up_to ts amount bound) s (take k order))
        → Reached (foldl (take_up_to ts amount bound) s (take k order)) → walk ts amount bound order s ≡ foldl (take_up_to ts amount bound) s (take k order)
    unfolding walk
    walk-left bound k s g r = foldl-split (take_up_to ts amount bound) order k s
        ∙ walk-idle ts priced amount bound (drop k order) (every_drop _ k order named) (foldl (take_up_to ts amount bound) s (take k order)) g r

    -- a match ends with its third pass, which is all of a preferential one
    fill-is : (preferential : Bool) → fill preferential ts usable order amount ≡ walk ts amount may order (begun preferential ts usable order amount Rest)
    unfolding fill fill_preferential fill_drawn
    fill-is true = refl
    fill-is false = refl

    -- the rest of the pass changes nothing
    rest : (preferential : Bool) (p : Pass) (k : ℕ) → Reached (after preferential ts usable order amount p k)
        → over preferential ts usable order amount p ≡ after preferential ts usable order amount p k
    unfolding first_pass second_pass target
    rest preferential Units k r = foldl-split (take_units ts (target amount) usable) order k (nothing (length usable))
        ∙ pass-idle (target amount) (drop k order) (every_drop _ k order named) _ (units-at k) (omega arith)
    rest preferential Remainders k r = walk-left remainders k first (between-at k).good r
    rest preferential Rest k r = fill-is preferential ∙ walk-left may k (begun preferential ts usable order amount Rest) (third_at preferential k) r

    -- nor do the later passes
    later-second : Reached (second_pass ts usable order amount) → fill false ts usable order amount ≡ second_pass ts usable order amount
    later-second r = rest false Rest 0 r

    later : (preferential : Bool) (p : Pass) → Has preferential p → Reached (over preferential ts usable order amount p)
        → fill preferential ts usable order amount ≡ over preferential ts usable order amount p
    later true Units h r = absurd h
    later true Remainders h r = absurd h
    later true Rest h r = refl
    later false Units h r = let q : second_pass ts usable order amount ≡ first = rest false Remainders 0 r in later-second (rw q r) ∙ q
    later false Remainders h r = later-second r
    later false Rest h r = refl

    pub left : (preferential : Bool) (p : Pass) → Has preferential p → (k : ℕ) → Reached (after preferential ts usable order amount p k)
        → fill preferential ts usable order amount ≡ after preferential ts usable order amount p k
    left preferential p h k r = let q = rest preferential p k r in later preferential p h (rw q r) ∙ q
