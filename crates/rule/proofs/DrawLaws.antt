-- The draw check says exactly that each participant is named once, and nobody else. Assumes nothing.
use mathlib.Core.Path.{◌≡◌, refl, sym, ◌∙◌}
use Prim.Native.Nat.{ℕ, zero, suc, ◌+◌, ◌≤◌, ◌<◌}
use native.Mathlib.Decide.{ℕ_discrete, dec_lt}
use native.Mathlib.Omega.{arith}
use mathlib.Core.Bool.{Bool, true, false}
use mathlib.Core.List.{List, [], ◌∷◌}
use lib.ListN.{length}
use lib.Dec.{eqb, ltb}
use borrow.Author.Tests.{eq-eqb, ne_eqb, eqb-true, lt-ltb, le-ltb}
use Rattle.lists.specs.Tests.{pick}
use Rattle.lists.specs.Tables.{from, up_to}
use Rattle.lists.specs.Folds.{total, Every}
use Rattle.lists.proofs.TestLaws.{go, and_left, and_right, all-at, all_of, pick_yes, pick_no}
use Rattle.lists.proofs.FoldLaws.{total-sum, total-zero, total-ones, counted-mem}
use Rattle.rule.specs.Calls.{each_once}
use Rattle.rule.proofs.MatchingLaws.{Names}

-- how often p is named
abbrev pub times : List ℕ → ℕ → ℕ
times draw p = total (λ x. pick (eqb x p) 1 0) draw

pub record EachOnce (draw : List ℕ) (n : ℕ) : Type 0 where
  pub once : (p : ℕ) → p < n → times draw p ≡ 1
  pub nobody_else : Every (λ x. x < n) draw

-- ---- the counts of all participants add up to the entries that name one

module _ (n : ℕ) where
  abbrev of_day : List ℕ → ℕ
  of_day draw = total (λ x. pick (ltb x n) 1 0) draw

  named_none : (x k m : ℕ) → x < k → total (λ p. pick (eqb x p) 1 0) (from k m) ≡ 0
  named_none x k zero h = refl
  named_none x k (suc m) h = omega (arith, pick_no {X = ℕ} (eqb x k) 1 0 (ne_eqb x k (omega arith)), named_none x (suc k) m (omega arith))

  named_past : (x k m : ℕ) → k + m ≤ x → total (λ p. pick (eqb x p) 1 0) (from k m) ≡ 0
  named_past x k zero h = refl
  named_past x k (suc m) h = omega (arith, pick_no {X = ℕ} (eqb x k) 1 0 (ne_eqb x k (omega arith)), named_past x (suc k) m (omega arith))

  named-once : (x k m : ℕ) → k ≤ x → x < k + m → total (λ p. pick (eqb x p) 1 0) (from k m) ≡ 1
  named-once x k zero h l = absurd (omega arith)
  named-once x k (suc m) h l = by (ℕ_discrete x k) (named-once x (suc k) m)
    where
      by : Dec (x ≡ k) → (suc k ≤ x → x < suc k + m → total (λ p. pick (eqb x p) 1 0) (from (suc k) m) ≡ 1)
          → pick (eqb x k) 1 0 + total (λ p. pick (eqb x p) 1 0) (from (suc k) m) ≡ 1
      by (yes e) f = omega (arith, pick_yes {X = ℕ} (eqb x k) 1 0 (eq-eqb x k e), named_none x (suc k) m (omega arith))
      by (no q) f = omega (arith, pick_no {X = ℕ} (eqb x k) 1 0 (ne_eqb x k q), f (omega arith) (omega arith))

  one_entry : (x : ℕ) → total (λ p. pick (eqb x p) 1 0) (up_to n) ≡ pick (ltb x n) 1 0
  one_entry x = by (dec_lt x n)
    where
      by : Dec (x < n) → total (λ p. pick (eqb x p) 1 0) (up_to n) ≡ pick (ltb x n) 1 0
      by (yes h) = named-once x 0 n (omega arith) (omega arith) ∙ sym (pick_yes {X = ℕ} (ltb x n) 1 0 (lt-ltb x n h))
      by (no h) = named_past x 0 n (omega arith) ∙ sym (pick_no {X = ℕ} (ltb x n) 1 0 (le-ltb x n (omega arith)))

  counts-add-up : (draw : List ℕ) → total (times draw) (up_to n) ≡ of_day draw
  counts-add-up [] = total-zero (up_to n)
  counts-add-up (x ∷ xs) = total-sum (λ p. pick (eqb x p) 1 0) (times xs) (up_to n) ∙ omega (arith, one_entry x, counts-add-up xs)

  of_day-most : (draw : List ℕ) → of_day draw ≤ length draw
  of_day-most [] = omega arith
  of_day-most (x ∷ xs) = omega (arith, one-most (ltb x n), of_day-most xs)
    where
      one-most : (b : Bool) → pick {X = ℕ} b 1 0 ≤ 1
      one-most true = omega arith
      one-most false = omega arith

  -- all entries name a participant
  all-of-day : (draw : List ℕ) → of_day draw ≡ length draw → Every (λ x. x < n) draw
  all-of-day [] e = tt
  all-of-day (x ∷ xs) e = by (dec_lt x n) (all-of-day xs)
    where
      by : Dec (x < n) → (of_day xs ≡ length xs → Every (λ x. x < n) xs) → (x < n) × Every (λ x. x < n) xs
      by (yes h) f = (h, f (omega (arith, pick_yes {X = ℕ} (ltb x n) 1 0 (lt-ltb x n h))))
      by (no h) f = absurd (omega (arith, pick_no {X = ℕ} (ltb x n) 1 0 (le-ltb x n (omega arith)), of_day-most xs))

  each-of-day : (draw : List ℕ) → Every (λ x. x < n) draw → of_day draw ≡ length draw
  each-of-day [] h = refl
  each-of-day (x ∷ xs) h = omega (arith, pick_yes {X = ℕ} (ltb x n) 1 0 (lt-ltb x n h.0), each-of-day xs h.1)

  -- ---- both ways

  pub draw-right : (draw : List ℕ) → each_once draw n ≡ true → EachOnce draw n
  unfolding each_once
  draw-right draw t =
      let size : length draw ≡ n = eqb-true (length draw) n (and_left (eqb (length draw) n) _ t) in
      let once : (p : ℕ) → p < n → times draw p ≡ 1 =
      λ p h. eqb-true (times draw p) 1 (all-at (λ p. eqb (times draw p) 1) n (and_right (eqb (length draw) n) _ t) p h) in
      record {
        once = once;
        nobody_else = all-of-day draw (omega (arith, counts-add-up draw, total-ones (times draw) 0 n (λ p h. once p (omega arith))));
      }

  pub right-draw : (draw : List ℕ) → EachOnce draw n → each_once draw n ≡ true
  unfolding each_once
  right-draw draw h =
      go _ _
      (eq-eqb (length draw) n (omega (
        arith,
        each-of-day draw h.nobody_else,
        counts-add-up draw,
        total-ones (times draw) 0 n (λ p l. h.once p (omega arith)),
      )))
      (all_of (λ p. eqb (times draw p) 1) n (λ p l. eq-eqb (times draw p) 1 (h.once p l)))

  -- what matching asks of a draw
  pub draw-names : (draw : List ℕ) → EachOnce draw n → Names draw n
  draw-names draw h p l = counted-mem p draw (omega (arith, h.once p l))
