-- An order that names no place twice. Assumes nothing.
use mathlib.Core.Path.{◌≡◌, refl, sym, ap}
use Prim.Native.Nat.{ℕ, zero, suc, ◌+◌, ◌≤◌, ◌<◌}
use native.Mathlib.Nat.{not-suc-le-zero, le_of_suc-le-suc}
use native.Mathlib.Omega.{arith}
use mathlib.Core.Bool.{Bool}
use mathlib.Core.List.{List, [], ◌∷◌}
use lib.ListN.{length, get_or}
use lib.Dec.{eqb}
use borrow.Author.Tests.{eq-eqb, eqb-true}
use Rattle.lists.specs.Tests.{pick}
use Rattle.lists.specs.Tables.{from, up_to}
use Rattle.lists.specs.Folds.{total, keep}
use Rattle.lists.specs.Order.{ranked}
use Rattle.lists.proofs.TestLaws.{pick-cases}
use Rattle.lists.proofs.FoldLaws.{every-at, every-keep, total-keep-most}
use Rattle.lists.proofs.OrderLaws.{total-sorted, ranked-below}
use Rattle.filling.specs.Rows.{NamesOnce}

-- how often p stands in a list
abbrev times : ℕ → List ℕ → ℕ
times p l = total (λ x. pick (eqb x p) 1 0) l

-- ---- of the numbers from k on each is named at most once

none_before : (p k n : ℕ) → p < k → times p (from k n) ≡ 0
none_before p k zero h = refl
none_before p k (suc n) h = pick-cases (λ (c : ℕ). c + times p (from (suc k) n) ≡ 0) (eqb k p) 1 0
    (λ e. absurd (omega (arith, eqb-true k p e))) (λ e. omega (arith, none_before p (suc k) n (omega arith)))

at-most-once : (p k n : ℕ) → times p (from k n) ≤ 1
at-most-once p k zero = omega arith
at-most-once p k (suc n) = pick-cases (λ (c : ℕ). c + times p (from (suc k) n) ≤ 1) (eqb k p) 1 0
    (λ e. omega (arith, none_before p (suc k) n (omega (arith, eqb-true k p e)))) (λ e. omega (arith, at-most-once p (suc k) n))

-- ---- what stands at most once stands in one place

counted-at : (p : ℕ) (l : List ℕ) (k : ℕ) → k < length l → get_or l k 0 ≡ p → 0 < times p l
counted-at p [] k h e = absurd (not-suc-le-zero h)
counted-at p (x ∷ xs) zero h e = rw (eq-eqb x p e) (omega arith)
counted-at p (x ∷ xs) (suc k) h e = omega (arith, counted-at p xs k (le_of_suc-le-suc h) e)

one_place : (p : ℕ) (l : List ℕ) → times p l ≤ 1 → (j k : ℕ) → j < length l → k < length l → get_or l j 0 ≡ p → get_or l k 0 ≡ p → j ≡ k
one_place p [] m j k h i d e = absurd (not-suc-le-zero h)
one_place p (x ∷ xs) m zero zero h i d e = refl
one_place p (x ∷ xs) m zero (suc k) h i d e = absurd (omega (arith, rw (eq-eqb x p d) at m, counted-at p xs k (le_of_suc-le-suc i) e))
one_place p (x ∷ xs) m (suc j) zero h i d e = absurd (omega (arith, rw (eq-eqb x p e) at m, counted-at p xs j (le_of_suc-le-suc h) d))
one_place p (x ∷ xs) m (suc j) (suc k) h i d e = ap suc (one_place p xs (omega arith) j k (le_of_suc-le-suc h) (le_of_suc-le-suc i) d e)

-- ---- for callers: what is kept of a ranking names issues of the day, none of them twice

pub kept-named : (issues : ℕ) (key : ℕ → ℕ) (live : ℕ → Bool) → NamesOnce issues (keep live (ranked key issues))
kept-named issues key live = record {
  inside = λ k h. every-at (λ i. i < issues) 0 kept (every-keep (λ i. i < issues) live (ranked key issues) (ranked-below key issues)) k h;
  once = λ j k h i q.
      let p : ℕ = get_or kept j 0 in
      one_place p kept (omega (arith, total-keep-most (λ x. pick (eqb x p) 1 0) live (ranked key issues), total-sorted key (λ x. pick (eqb x p) 1 0) (up_to issues), at-most-once p 0 issues))
      j k h i refl (sym q);
}
  where
    kept : List ℕ
    kept = keep live (ranked key issues)
