-- Laws of what a run leaves: an accepted one leaves a sound day, and after the third every position is zero. Assumes nothing.
use mathlib.Core.Path.{◌≡◌, refl, sym, ap, ◌∙◌}
use mathlib.Core.Logic.{◌⊎◌, inl, inr}
use Prim.Native.Nat.{ℕ, ◌+◌, ◌-◌, ◌*◌, ◌≤◌, ◌<◌}
use native.Mathlib.Nat.{le_refl}
use native.Mathlib.Omega.{arith}
use mathlib.Core.Bool.{Bool, true, false, ◌&&◌}
use mathlib.Core.List.{List, []}
use lib.ListN.{length, get_or}
use lib.Dec.{ltb, eqb}
use borrow.Author.Tests.{le-ltb, eq-eqb, eqb-true}
use Rattle.lists.specs.Tests.{pick, all_below}
use Rattle.lists.specs.Tables.{up_to, table, row, cell}
use Rattle.lists.specs.Folds.{total, sum}
use Rattle.lists.proofs.TestLaws.{pick_no, pick-elim, and_left, and_right, all-at, all_of, go}
use Rattle.lists.proofs.FoldLaws.{total-zero, every_map, every-from}
use Rattle.lists.proofs.TableLaws.{length-table, get_or-table}
use Rattle.lists.proofs.PartLaws.{Shape}
use Rattle.rule.specs.Day.{baskets, Day, mark}
use Rattle.rule.specs.Run.{Allocation, allocations, covered_from, covered_to, lots_from, lots_to, covered_pair, ran}
use Rattle.rule.specs.Sound.{at_most, pairs_fit, tradable, position_limit, tally_limit}
use Rattle.rule.proofs.SoundLaws.{Most, most-of, of-most, SoundDay}
use Rattle.rule.proofs.LayoutLaws.{Shaped, Signed}
use Rattle.rule.proofs.OpenLaws.{zero-shape, zero-cell}
use Rattle.rule.proofs.SumLaws.{total-minus, total-same, sum-table, total-index}
use Rattle.rule.proofs.RunLaws.{Runnable, Allocated, allocated, covered-from, covered-to, covered-even, third-from, third-to}
use Rattle.rule.proofs.RunLots.{lots-from-most, lots-to-most}

-- ---- a table of rows

rows-shape : (n m : ℕ) (f : ℕ → ℕ → ℕ) → Shape (table n (λ p. table m (f p))) n m
rows-shape n m f = record {
  rows = length-table n (λ p. table m (f p));
  cells = λ p l. rw (get_or-table n (λ p. table m (f p)) p [] l) (length-table m (f p));
}

rows-cell : (n m : ℕ) (f : ℕ → ℕ → ℕ) (p i : ℕ) → p < n → i < m → cell (table n (λ p. table m (f p))) p i ≡ f p i
rows-cell n m f p i l k = ap (λ (r : List ℕ). get_or r i 0) (get_or-table n (λ p. table m (f p)) p [] l) ∙ get_or-table m (f p) i 0 k

rows-most : (bound n m : ℕ) (f : ℕ → ℕ → ℕ) → ((p i : ℕ) → p < n → i < m → f p i ≤ bound) → Most bound n m (table n (λ p. table m (f p)))
rows-most bound n m f h p i l k = omega (arith, rows-cell n m f p i l k, h p i l k)

-- ---- marks, both ways

pub record PairMarks (n : ℕ) (t : List (List (List ℕ))) : Type 0 where
  pub most : (k : ℕ) → k < 7 → Most 1 n n (row t k)
  pub self : (k p : ℕ) → k < 7 → p < n → mark t k p p ≡ 0

pub pair-marks-of : (n : ℕ) (t : List (List (List ℕ))) → pairs_fit n t ≡ true → PairMarks n t
unfolding pairs_fit
pair-marks-of n t h = record {
  most = λ k l. most-of 1 n n (row t k) (all-at (λ k. at_most 1 n n (row t k)) 7 (and_left _ (all_below 7 (λ k. all_below n (λ p. eqb (mark t k p p) 0))) h) k l);
  self = λ k p l q.
      eqb-true (mark t k p p) 0
      (all-at (λ p. eqb (mark t k p p) 0) n (all-at (λ k. all_below n (λ p. eqb (mark t k p p) 0)) 7 (and_right (all_below 7 (λ k. at_most 1 n n (row t k))) _ h) k l) p q);
}

pub of-pair-marks : (n : ℕ) (t : List (List (List ℕ))) → PairMarks n t → pairs_fit n t ≡ true
unfolding pairs_fit
of-pair-marks n t m =
    go _ _ (all_of (λ k. at_most 1 n n (row t k)) 7 (λ k l. of-most 1 n n (row t k) (m.most k l)))
    (all_of (λ k. all_below n (λ p. eqb (mark t k p p) 0)) 7 (λ k l. all_of (λ p. eqb (mark t k p p) 0) n (λ p q. eq-eqb (mark t k p p) 0 (m.self k p l q))))

-- ---- the day after a run

module _ (y : Day) (draw : List ℕ) (h : Runnable y draw) where
  abbrev n : ℕ
  n = y.given.participants

  abbrev m : ℕ
  m = y.given.issues

  abbrev done : List Allocation
  done = allocations y draw

  abbrev out : ℕ → ℕ → ℕ
  out p i = cell y.state.delivered p i + lots_from done p i

  abbrev back : ℕ → ℕ → ℕ
  back p i = cell y.state.received p i + lots_to done p i

  abbrev owed_left : ℕ → ℕ → ℕ
  owed_left k p = cell y.state.owed k p - covered_from done k p

  abbrev due_left : ℕ → ℕ → ℕ
  due_left k p = cell y.state.due k p - covered_to done k p

  abbrev marked : ℕ → ℕ → ℕ → ℕ
  marked k d r = pick (ltb 0 (covered_pair done k d r)) 1 (mark y.state.today k d r)

  abbrev today : List (List (List ℕ))
  today = table 7 (λ k. table n (λ d. table n (λ r. marked k d r)))

  today-row : (k : ℕ) → k < 7 → row today k ≡ table n (λ d. table n (λ r. marked k d r))
  today-row k l = get_or-table 7 (λ k. table n (λ d. table n (λ r. marked k d r))) k [] l

  pub ran-shaped : Shaped (ran y (allocations y draw))
  unfolding ran
  ran-shaped = record {
    given = h.shaped.given;
    owed = rows-shape 7 n owed_left;
    due = rows-shape 7 n due_left;
    notices = zero-shape n m;
    today = λ k l. rw (today-row k l) (rows-shape n n (marked k));
    today_baskets = length-table 7 (λ k. table n (λ d. table n (λ r. marked k d r)));
    delivered = rows-shape n m (λ p i. out p i - back p i);
    received = rows-shape n m (λ p i. back p i - out p i);
  }

  -- what a tally may be after the run
  out-most : (p i : ℕ) → p < n → i < m → out p i ≤ tally_limit * (y.state.runs + 1)
  out-most p i l k = omega (arith, h.day.tallies.delivered p i l k, lots-from-most y draw h p i l k)

  back-most : (p i : ℕ) → p < n → i < m → back p i ≤ tally_limit * (y.state.runs + 1)
  back-most p i l k = omega (arith, h.day.tallies.received p i l k, lots-to-most y draw h p i l k)

  pub ran-signed : Signed (ran y (allocations y draw)) ran-shaped
  unfolding ran
  ran-signed = record {
    positions = λ k p l q.
        rw (rows-cell 7 n owed_left k p l q, rows-cell 7 n due_left k p l q)
        (record {
          one = omega (arith, (h.signed.positions k p l q).one);
          out = omega (arith, h.day.positions.owed k p l q);
          back = omega (arith, h.day.positions.due k p l q);
        });
    tally = λ p i l q.
        rw (rows-cell n m (λ p i. out p i - back p i) p i l q, rows-cell n m (λ p i. back p i - out p i) p i l q)
        (record {
          one = omega arith;
          out = omega (arith, out-most p i l q, h.runs);
          back = omega (arith, back-most p i l q, h.runs);
        });
  }

  -- ---- positions sum to zero

  row-total : (l : List ℕ) → length l ≡ n → sum l ≡ total (λ p. get_or l p 0) (up_to n)
  row-total l e = total-index (λ x. x) 0 l ∙ ap (λ (k : ℕ). total (λ p. get_or l p 0) (up_to k)) e

  left-sum : (before : List (List ℕ)) (k : ℕ) → k < 7 → Shape before 7 n → (f : ℕ → ℕ → ℕ) → ((k p : ℕ) → k < 7 → f k p ≤ cell before k p)
      → sum (row (table 7 (λ k. table n (λ p. cell before k p - f k p))) k) + total (f k) (up_to n) ≡ sum (row before k)
  left-sum before k l s f most =
      let g : ℕ → List ℕ = λ k. table n (λ p. cell before k p - f k p) in
      let e : sum (row (table 7 g) k) ≡ total (λ p. cell before k p - f k p) (up_to n) = ap sum (get_or-table 7 g k [] l) ∙ sum-table n (λ p. cell before k p - f k p) in
      omega (
        arith,
        e,
        row-total (row before k) (s.cells k l),
        total-minus (cell before k) (f k) (up_to n) (every-from (λ p. f k p ≤ cell before k p) 0 n (λ p a b. most k p l)),
      )

  owed_sum : (k : ℕ) → k < 7 → sum (row (table 7 (λ k. table n (λ p. owed_left k p))) k) + total (covered_from done k) (up_to n) ≡ sum (row y.state.owed k)
  owed_sum k l = left-sum y.state.owed k l h.shaped.owed (covered_from done) (covered-from y draw h)

  due_sum : (k : ℕ) → k < 7 → sum (row (table 7 (λ k. table n (λ p. due_left k p))) k) + total (covered_to done k) (up_to n) ≡ sum (row y.state.due k)
  due_sum k l = left-sum y.state.due k l h.shaped.due (covered_to done) (covered-to y draw h)

  -- ---- marks

  -- a match of nobody with itself
  self-none : (k p : ℕ) (a : Allocation) → Allocated y a → pick (eqb a.basket k && eqb a.match.deliverer p && eqb a.match.receiver p) a.filled.covered 0 ≡ 0
  self-none k p a r = cases (eqb a.basket k) (eqb a.match.deliverer p) (eqb a.match.receiver p) refl refl
    where
      cases : (b c d : Bool) → eqb a.match.deliverer p ≡ c → eqb a.match.receiver p ≡ d → pick (b && c && d) a.filled.covered 0 ≡ 0
      cases false c d e f = refl
      cases true false d e f = refl
      cases true true false e f = refl
      cases true true true e f = absurd (r.apart (eqb-true a.match.deliverer p e ∙ sym (eqb-true a.match.receiver p f)))

  pair-self : (k p : ℕ) → covered_pair done k p p ≡ 0
  unfolding covered_pair
  pair-self k p =
      total-same (λ a. pick (eqb a.basket k && eqb a.match.deliverer p && eqb a.match.receiver p) a.filled.covered 0) (λ a. 0) done
      (every_map (Allocated y) (λ a. pick (eqb a.basket k && eqb a.match.deliverer p && eqb a.match.receiver p) a.filled.covered 0 ≡ 0) (self-none k p) done (allocated y draw h))
      ∙ total-zero done

  today-marks : PairMarks n today
  today-marks =
      let was : PairMarks n y.state.today = pair-marks-of n y.state.today h.day.today in
      record {
        most = λ k l. rw (today-row k l) (rows-most 1 n n (marked k) (λ d r a b.
            pick-elim (λ (x : ℕ). x ≤ 1) (ltb 0 (covered_pair done k d r)) 1 (mark y.state.today k d r) (le_refl 1) (was.most k l d r a b)));
        self = λ k p l q.
            ap (λ (t : List (List ℕ)). cell t p p) (today-row k l) ∙ rows-cell n n (marked k) p p q q
            ∙ pick_no (ltb 0 (covered_pair done k p p)) 1 (mark y.state.today k p p) (le-ltb 0 (covered_pair done k p p) (omega (arith, pair-self k p))) ∙ was.self k p l q;
      }

  -- ---- the day after a run, cell by cell

  -- "The covered yen leave both positions": what is left and what was covered make the position
  pub ran-owed : (k p : ℕ) → k < 7 → p < n → cell (ran y (allocations y draw)).state.owed k p + covered_from (allocations y draw) k p ≡ cell y.state.owed k p
  unfolding ran
  ran-owed k p l q = omega (arith, rows-cell 7 n owed_left k p l q, covered-from y draw h k p l)

  pub ran-due : (k p : ℕ) → k < 7 → p < n → cell (ran y (allocations y draw)).state.due k p + covered_to (allocations y draw) k p ≡ cell y.state.due k p
  unfolding ran
  ran-due k p l q = omega (arith, rows-cell 7 n due_left k p l q, covered-to y draw h k p l)

  -- "Every accepted run clears all notices"
  pub ran-notices : (p i : ℕ) → p < n → cell (ran y (allocations y draw)).state.notices p i ≡ 0
  unfolding ran
  ran-notices p i l = zero-cell n m p i l

  -- "lots delivered, forced ones included, less lots received"
  pub ran-tally : (p i : ℕ) → p < n → i < m
      → cell (ran y (allocations y draw)).state.delivered p i + cell y.state.received p i + lots_to (allocations y draw) p i
      ≡ cell (ran y (allocations y draw)).state.received p i + cell y.state.delivered p i + lots_from (allocations y draw) p i
  unfolding ran
  ran-tally p i l k = omega (arith, rows-cell n m (λ p i. out p i - back p i) p i l k, rows-cell n m (λ p i. back p i - out p i) p i l k)

  -- "pairs (covered above 0 today)"
  pub ran-today : (k d r : ℕ) → k < 7 → d < n → r < n
      → mark (ran y (allocations y draw)).state.today k d r ≡ pick (ltb 0 (covered_pair (allocations y draw) k d r)) 1 (mark y.state.today k d r)
  unfolding ran
  ran-today k d r l a b = ap (λ (t : List (List ℕ)). cell t d r) (today-row k l) ∙ rows-cell n n (marked k) d r a b

  -- ---- the third run

  -- "after three runs positions .. are zero"
  owed-third : y.state.runs ≡ 2 → (k p : ℕ) → k < 7 → owed_left k p ≡ 0
  owed-third e k p l = omega (arith, third-from y draw h e k p l)

  due-third : y.state.runs ≡ 2 → (k p : ℕ) → k < 7 → due_left k p ≡ 0
  due-third e k p l = omega (arith, third-to y draw h e k p l)

  pub third-clears : y.state.runs ≡ 2 → (k p : ℕ) → k < 7 → p < n
      → (cell (ran y (allocations y draw)).state.owed k p ≡ 0) × (cell (ran y (allocations y draw)).state.due k p ≡ 0)
  unfolding ran
  third-clears e k p l q = (rows-cell 7 n owed_left k p l q ∙ owed-third e k p l, rows-cell 7 n due_left k p l q ∙ due-third e k p l)

  pub ran-sound : SoundDay (ran y (allocations y draw))
  unfolding ran
  ran-sound = record {
    limits = record { runs = omega (arith, h.runs); notices = λ p i l k. omega (arith, zero-cell n m p i l); trades = h.day.limits.trades };
    given = h.day.given;
    positions = record {
      owed = rows-most position_limit 7 n owed_left (λ k p l q. omega (arith, h.day.positions.owed k p l q));
      due = rows-most position_limit 7 n due_left (λ k p l q. omega (arith, h.day.positions.due k p l q));
      even = λ k l. omega (arith, owed_sum k l, due_sum k l, covered-even y draw h k, h.day.positions.even k l);
      tradable = λ k l. free k l (h.day.positions.tradable k l);
    };
    tallies = record {
      delivered = rows-most (tally_limit * (y.state.runs + 1)) n m (λ p i. out p i - back p i) (λ p i l k. omega (arith, out-most p i l k));
      received = rows-most (tally_limit * (y.state.runs + 1)) n m (λ p i. back p i - out p i) (λ p i l k. omega (arith, back-most p i l k));
    };
    today = of-pair-marks n today today-marks;
    done = λ e.
        let two : y.state.runs ≡ 2 = omega arith in
        record {
          owed = rows-most 0 baskets n owed_left (λ k p l q. omega (arith, owed-third two k p l));
          due = rows-most 0 baskets n due_left (λ k p l q. omega (arith, due-third two k p l));
          notices = λ p i l k. omega (arith, zero-cell n m p i l);
        };
  }
    where
      free : (k : ℕ) → k < 7 → (sum (row y.state.owed k) + sum (row y.state.due k) ≡ 0) ⊎ (tradable k y.given.terms y.given.marks ≡ true)
          → (sum (row (table 7 (λ k. table n (λ p. owed_left k p))) k) + sum (row (table 7 (λ k. table n (λ p. due_left k p))) k) ≡ 0) ⊎ (tradable k y.given.terms y.given.marks ≡ true)
      free k l (inl e) = inl (omega (arith, owed_sum k l, due_sum k l))
      free k l (inr e) = inr e
