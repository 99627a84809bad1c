-- Laws of the lots of a run: no deliverer uses more than its allocable quantity, forced lots apart, and what a run adds to a tally is
-- bounded. Assumes nothing.
use mathlib.Core.Path.{◌≡◌, refl, sym, ap, ◌∙◌, subst}
use Prim.Native.Nat.{ℕ, ◌+◌, ◌-◌, ◌*◌, ◌≤◌, ◌<◌, zero-le}
use native.Mathlib.Nat.{le_trans, le_refl}
use native.Mathlib.Decide.{dec_lt, ℕ_discrete}
use native.Mathlib.Omega.{arith}
use mathlib.Core.Bool.{Bool, true, false}
use mathlib.Core.List.{List, [], ◌∷◌, ◌++◌}
use lib.ListN.{length, get_or}
use lib.Dec.{eqb}
use borrow.Author.Tests.{eq-eqb, ne_eqb}
use Rattle.lists.specs.Tests.{pick}
use Rattle.lists.specs.Tables.{up_to, table, row, cell}
use Rattle.lists.specs.Folds.{total, Every}
use Rattle.lists.proofs.TestLaws.{pick_yes, pick_no, pick-elim}
use Rattle.lists.proofs.FoldLaws.{total-append, total-bound, fold-kept, every-all}
use Rattle.lists.proofs.TableLaws.{get_or-table}
use Rattle.rule.specs.Value.{no_terms}
use Rattle.rule.specs.Baskets.{within}
use Rattle.rule.specs.Matching.{Match}
use Rattle.rule.specs.Filling.{all_lots}
use Rattle.rule.specs.Day.{Given, Day}
use Rattle.rule.specs.Run.{Allocation, used, used_table, allocable_of, usable, allocate, basket_plan, basket, allocations, lots_from, lots_to}
use Rattle.rule.specs.Sound.{position_limit, tally_limit}
use Rattle.rule.proofs.MatchingLaws.{out_of, in_to, out-of-owed, in-to-due}
use Rattle.rule.proofs.ValueLaws.{least_worth}
use Rattle.rule.proofs.FilledBounds.{lots-paid}
use Rattle.rule.proofs.RunLaws.{Runnable, Allocated, total-run, prices, allocate-right, allocated, few-allocations}

-- ---- "Lots used earlier in the same run are gone; forced lots never count as used"

pub used-append : (xs ys : List Allocation) (d i : ℕ) → used (xs ++ ys) d i ≡ used xs d i + used ys d i
unfolding used
used-append xs ys d i = total-append _ xs ys

used-none : (d i : ℕ) → used [] d i ≡ 0
unfolding used
used-none d i = refl

used-one : (a : Allocation) (d i : ℕ) → used (a ∷ []) d i ≡ pick (eqb a.match.deliverer d) (get_or a.filled.lots i 0) 0
unfolding used
used-one a d i = omega arith

pub used-cell : (g : Given) (done : List Allocation) (d i : ℕ) → d < g.participants → i < g.issues → cell (used_table g done) d i ≡ used done d i
unfolding used_table
used-cell g done d i l k =
    ap (λ (r : List ℕ). get_or r i 0) (get_or-table g.participants (λ d. table g.issues (λ i. used done d i)) d [] l)
    ∙ get_or-table g.issues (λ i. used done d i) i 0 k

-- what may be used of an issue is what is left of it
usable-left : (y : Day) (k : ℕ) (before : List (List ℕ)) (done : List Allocation) (d i : ℕ) → i < y.given.issues
    → get_or (usable y k before done d) i 0 ≤ allocable_of y d i - (cell before d i + used done d i)
unfolding usable
usable-left y k before done d i l =
    let left : ℕ → ℕ = λ i. allocable_of y d i - (cell before d i + used done d i) in
    let is : get_or (usable y k before done d) i 0 ≡ pick (within k (get_or y.given.terms i no_terms)) (left i) 0 =
    get_or-table {A = ℕ} y.given.issues (λ i. pick (within k (get_or y.given.terms i no_terms)) (left i) 0) i 0 l in
    subst (λ (n : ℕ). n ≤ left i) (sym is) (pick-elim (λ (n : ℕ). n ≤ left i) (within k (get_or y.given.terms i no_terms)) (left i) 0 (le_refl _) zero-le)

module _ (y : Day) (draw : List ℕ) (h : Runnable y draw) where
  abbrev n : ℕ
  n = y.given.participants

  abbrev Within : List (List ℕ) → List Allocation → Type 0
  Within before done = (d i : ℕ) → d < n → i < y.given.issues → cell before d i + used done d i ≤ allocable_of y d i

  module _ (k : ℕ) (before : List (List ℕ)) where
    next-within : (done : List Allocation) (m : Match) → Within before done → Within before (done ++ (allocate y k before done m ∷ []))
    next-within done m w d i l q = go (ℕ_discrete m.deliverer d)
      where
        a : Allocation
        a = allocate y k before done m

        same : a.match.deliverer ≡ m.deliverer
        same = unfold allocate in refl

        taken : get_or a.filled.lots i 0 ≤ allocable_of y m.deliverer i - (cell before m.deliverer i + used done m.deliverer i)
        taken = le_trans ((allocate-right y draw h k before done m).bounded i) (usable-left y k before done m.deliverer i q)

        go : Dec (m.deliverer ≡ d) → cell before d i + used (done ++ (a ∷ [])) d i ≤ allocable_of y d i
        go (yes e) =
            omega (
              arith,
              used-append done (a ∷ []) d i,
              used-one a d i,
              pick_yes (eqb a.match.deliverer d) (get_or a.filled.lots i 0) 0 (eq-eqb a.match.deliverer d (same ∙ e)),
              subst (λ (p : ℕ). get_or a.filled.lots i 0 ≤ allocable_of y p i - (cell before p i + used done p i)) e taken,
              w d i l q,
            )
        go (no e) =
            omega (
              arith,
              used-append done (a ∷ []) d i,
              used-one a d i,
              pick_no (eqb a.match.deliverer d) (get_or a.filled.lots i 0) 0 (ne_eqb a.match.deliverer d (λ z. e (sym same ∙ z))),
              w d i l q,
            )

    basket-within : Within before [] → Within before (basket y draw before k)
    unfolding basket
    basket-within w =
        fold-kept (Within before) (λ m. Unit {0}) (λ done m. done ++ (allocate y k before done m ∷ [])) (λ done m u. next-within done m)
        (basket_plan y draw k) (every-all (λ m. Unit {0}) (λ m. tt) (basket_plan y draw k)) [] w

  abbrev Kept : List Allocation → Type 0
  Kept done = (d i : ℕ) → d < n → i < y.given.issues → used done d i ≤ allocable_of y d i

  baskets-within : (done : List Allocation) (k : ℕ) → Kept done → Kept (done ++ basket y draw (used_table y.given done) k)
  baskets-within done k w d i l q =
      let before : List (List ℕ) = used_table y.given done in
      let begin : Within before [] = λ d i l q. omega (arith, used-cell y.given done d i l q, used-none d i, w d i l q) in
      omega (arith, used-append done (basket y draw before k) d i, used-cell y.given done d i l q, basket-within k before begin d i l q)

  -- "a deliverer's lots of an issue over all baskets, less those forced, are at most its allocable quantity"
  pub used-most : (d i : ℕ) → d < n → i < y.given.issues → used (allocations y draw) d i ≤ allocable_of y d i
  unfolding allocations
  used-most =
      fold-kept Kept (λ k. Unit {0}) (λ done k. done ++ basket y draw (used_table y.given done) k) (λ done k u. baskets-within done k)
      (up_to 7) (every-all (λ k. Unit {0}) (λ k. tt) (up_to 7)) [] (λ d i l q. omega (arith, used-none d i))

  -- ---- what a run adds to a tally: a lot is worth `least_worth` or more, and a match has one more at most

  lots-covered : (i : ℕ) → i < y.given.issues → (a : Allocation) → Allocated y a → least_worth * all_lots a.filled i ≤ a.filled.covered + least_worth
  lots-covered i l a r = go (dec_lt 0 a.filled.covered)
    where
      go : Dec (0 < a.filled.covered) → least_worth * all_lots a.filled i ≤ a.filled.covered + least_worth
      go (yes q) =
          lots-paid y.given.terms a.filled (r.issues ∙ sym h.shaped.given.terms) (prices y.given.issues y.given.terms y.given.marks h.day.given.terms h.shaped.given.terms)
          (r.fewest q) i (omega (arith, h.shaped.given.terms))
      go (no q) = omega (arith, r.none (omega arith) i)

  module _ (who : Match → ℕ) (p : ℕ) where
    lots-sum : (i : ℕ) → i < y.given.issues → (made : List Allocation) → Every (Allocated y) made
        → least_worth * total (λ a. pick (eqb (who a.match) p) (all_lots a.filled i) 0) made ≤ total (λ a. pick (eqb (who a.match) p) a.match.amount 0) made + least_worth * length made
    lots-sum i l [] r = omega arith
    lots-sum i l (a ∷ made) r =
        omega (
          arith,
          one (eqb (who a.match) p) (all_lots a.filled i) a.match.amount (omega (arith, lots-covered i l a r.0, r.0.covered)),
          lots-sum i l made r.1,
        )
      where
        one : (b : Bool) (x z : ℕ) → least_worth * x ≤ z + least_worth → least_worth * pick b x 0 ≤ pick b z 0 + least_worth
        one true x z q = q
        one false x z q = omega arith

    -- seven positions of 10^13 yen, and 77 matches
    lots-bound : (i : ℕ) → i < y.given.issues → ((k : ℕ) → k < 7 → total (λ m. pick (eqb (who m) p) m.amount 0) (basket_plan y draw k) ≤ position_limit)
        → total (λ a. pick (eqb (who a.match) p) (all_lots a.filled i) 0) (allocations y draw) ≤ tally_limit
    lots-bound i l each =
        omega (
          arith,
          lots-sum i l (allocations y draw) (allocated y draw h),
          few-allocations y draw h,
          total-run y (λ k m. pick (eqb (who m) p) m.amount 0) draw,
          total-bound (λ k. total (λ m. pick (eqb (who m) p) m.amount 0) (basket_plan y draw k)) position_limit 0 7 (λ k q. each k (omega arith)),
        )

  pub lots-from-most : (p i : ℕ) → p < n → i < y.given.issues → lots_from (allocations y draw) p i ≤ tally_limit
  unfolding lots_from out_of basket_plan
  lots-from-most p i q l = lots-bound (λ m. m.deliverer) p i l (λ k j.
      omega (
        arith,
        out-of-owed y.state.runs (row y.given.pairs k) draw (row y.state.owed k) (row y.state.due k) p,
        h.day.positions.owed k p j q,
      ))

  pub lots-to-most : (p i : ℕ) → p < n → i < y.given.issues → lots_to (allocations y draw) p i ≤ tally_limit
  unfolding lots_to in_to basket_plan
  lots-to-most p i q l = lots-bound (λ m. m.receiver) p i l (λ k j.
      omega (
        arith,
        in-to-due y.state.runs (row y.given.pairs k) draw (row y.state.owed k) (row y.state.due k) p,
        h.day.positions.due k p j q,
      ))
