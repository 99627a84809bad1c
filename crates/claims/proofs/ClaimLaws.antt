-- What the claims write out in plain numbers is what the definitions say: the allocable quantity, the shortage, a notice's lots. Assumes
-- nothing.
use mathlib.Core.Path.{◌≡◌, refl, sym, ap, ◌∙◌}
use mathlib.Core.Logic.{◌≢◌}
use Prim.Native.Nat.{ℕ, zero, suc, ◌+◌, ◌-◌, ◌/◌, ◌≤◌, ◌<◌, min}
use native.Mathlib.Nat.{le_refl}
use native.Mathlib.Numerals.{add-one}
use native.Mathlib.Decide.{ℕ_discrete}
use native.Mathlib.Omega.{arith}
use mathlib.Core.Bool.{true, not, ◌&&◌}
use mathlib.Core.List.{List, [], ◌∷◌}
use lib.ListN.{length, get_or, set, length-set}
use lib.Seq.{get_or-set_same, get_or-set_other}
use lib.Dec.{eqb, ltb}
use borrow.Author.Tests.{eq-eqb, ne_eqb, lt-ltb, le-ltb, eqb-false, not-true}
use Rattle.lists.specs.Tests.{pick, all_below}
use Rattle.lists.specs.Tables.{up_to, zeros}
use Rattle.lists.specs.Folds.{foldl, total}
use Rattle.lists.proofs.TestLaws.{pick_no, all-at}
use Rattle.lists.proofs.FoldLaws.{foldl-up_to, total-append}
use Rattle.lists.proofs.AppendLaws.{up_to-more}
use Rattle.lists.proofs.TableLaws.{get_or-zeros, length-zeros}
use Rattle.rule.specs.Allocable.{unmarked, allocable, Marks}
use Rattle.rule.specs.Filling.{shortage, covered}
use Rattle.rule.specs.Day.{notice_row}
use Rattle.rule.specs.Calls.{distinct}
use Rattle.claims.specs.Claims.{quantity, Short, named}

-- ---- the allocable quantity

one-mark : (a n : ℕ) → pick (ltb 0 a) 0 n ≡ pick (eqb a 0) n 0
one-mark a n = go (ℕ_discrete a 0)
  where
    go : Dec (a ≡ 0) → pick (ltb 0 a) 0 n ≡ pick (eqb a 0) n 0
    go (yes e) = rw (le-ltb 0 a (omega arith), eq-eqb a 0 e)
    go (no ne) = rw (lt-ltb 0 a (omega arith), ne_eqb a 0 ne)

either-mark : (a b n : ℕ) → pick (ltb 0 (a + b)) 0 n ≡ pick (eqb a 0 && eqb b 0) n 0
either-mark a b n = go (ℕ_discrete a 0) (ℕ_discrete b 0)
  where
    go : Dec (a ≡ 0) → Dec (b ≡ 0) → pick (ltb 0 (a + b)) 0 n ≡ pick (eqb a 0 && eqb b 0) n 0
    go (yes e) (yes f) = rw (le-ltb 0 (a + b) (omega arith), eq-eqb a 0 e, eq-eqb b 0 f)
    go (yes e) (no f) = rw (lt-ltb 0 (a + b) (omega arith), eq-eqb a 0 e, ne_eqb b 0 f)
    go (no e) f = rw (lt-ltb 0 (a + b) (omega arith), ne_eqb a 0 e)

pub quantity-is : (runs : ℕ) (m : Marks) (notified scheduled : ℕ) → quantity runs m notified scheduled ≡ allocable runs m notified scheduled
unfolding quantity allocable unmarked
quantity-is zero m notified scheduled = one-mark m.redeemed (min notified scheduled)
quantity-is (suc runs) m notified scheduled =
    pick_no (eqb (suc runs) 0) _ _ (ne_eqb (suc runs) 0 (λ e. omega arith)) ∙ either-mark m.redeemed m.interest notified

-- ---- the shortage

pub covered-short : (amount w : ℕ) → Short amount w (covered amount w)
unfolding covered shortage
covered-short amount w = record {
  times = (amount - w + 9999999) / 10000000;
  makes_up = omega arith;
  no_more = omega arith;
  rest = omega arith;
}

-- ---- the lots that a notice names

module _ (issues lots : List ℕ) (once : distinct issues ≡ true) where
  -- no entry before entry j names its issue
  entry_new : (i j : ℕ) → i < j → j < length issues → get_or issues i 0 ≢ get_or issues j 0
  unfolding distinct
  entry_new i j l k =
      eqb-false _ _ (not-true _ (all-at (λ i. not (eqb (get_or issues i 0) (get_or issues j 0))) j
      (all-at (λ j. all_below j (λ i. not (eqb (get_or issues i 0) (get_or issues j 0)))) (length issues) once j k) i l))

  -- lots of issue i in the first k entries
  abbrev named_to : ℕ → ℕ → ℕ
  named_to i k = total (λ j. pick (eqb (get_or issues j 0) i) (get_or lots j 0) 0) (up_to k)

  named_more : (i k : ℕ) → named_to i (k + 1) ≡ named_to i k + pick (eqb (get_or issues k 0) i) (get_or lots k 0) 0
  named_more i k =
      let f : ℕ → ℕ = λ j. pick (eqb (get_or issues j 0) i) (get_or lots j 0) 0 in
      ap (λ (l : List ℕ). total f l) (up_to-more k) ∙ total-append f (up_to k) (k ∷ []) ∙ omega arith

  named_none : (i k : ℕ) → ((j : ℕ) → j < k → get_or issues j 0 ≢ i) → named_to i k ≡ 0
  named_none i zero h = refl
  named_none i (suc k) h =
      ap (λ (n : ℕ). named_to i n) (sym (add-one k)) ∙ named_more i k
      ∙ omega (arith, named_none i k (λ j l. h j (omega arith)), pick_no (eqb (get_or issues k 0) i) (get_or lots k 0) 0 (ne_eqb (get_or issues k 0) i (h k (omega arith))))

  -- the row after k entries
  abbrev row_to : ℕ → ℕ → List ℕ
  row_to m k = foldl (λ r j. set r (get_or issues j 0) (get_or lots j 0)) (zeros m) (up_to k)

  row-length : (m k : ℕ) → length (row_to m k) ≡ m
  row-length m zero = length-zeros m
  row-length m (suc k) =
      ap (λ (n : ℕ). length (row_to m n)) (sym (add-one k)) ∙ ap length (foldl-up_to (λ r j. set r (get_or issues j 0) (get_or lots j 0)) (zeros m) k)
      ∙ length-set (row_to m k) (get_or issues k 0) (get_or lots k 0) ∙ row-length m k

  row_named : (m i k : ℕ) → i < m → k ≤ length issues → get_or (row_to m k) i 0 ≡ named_to i k
  row_named m i zero l h = get_or-zeros m i
  row_named m i (suc k) l h =
      ap (λ (n : ℕ). get_or (row_to m n) i 0) (sym (add-one k))
      ∙ ap (λ (r : List ℕ). get_or r i 0) (foldl-up_to (λ r j. set r (get_or issues j 0) (get_or lots j 0)) (zeros m) k)
      ∙ go (row_named m i k l (omega arith)) (ℕ_discrete i (get_or issues k 0)) ∙ sym (named_more i k) ∙ ap (λ (n : ℕ). named_to i n) (add-one k)
    where
      go : get_or (row_to m k) i 0 ≡ named_to i k → Dec (i ≡ get_or issues k 0)
          → get_or (set (row_to m k) (get_or issues k 0) (get_or lots k 0)) i 0 ≡ named_to i k + pick (eqb (get_or issues k 0) i) (get_or lots k 0) 0
      go r (yes e) =
          rw (sym e, get_or-set_same (row_to m k) i (get_or lots k 0) 0 (omega (arith, row-length m k)), eq-eqb i i refl)
          (omega (arith, named_none i k (λ j b. rw e (entry_new j k b (omega arith)))))
      go r (no ne) =
          get_or-set_other (row_to m k) (get_or issues k 0) i (get_or lots k 0) 0 ne
          ∙ omega (arith, r, pick_no (eqb (get_or issues k 0) i) (get_or lots k 0) 0 (ne_eqb (get_or issues k 0) i (λ e. ne (sym e))))

  -- "unnamed issues counting 0"
  pub named-is : (m i : ℕ) → i < m → get_or (notice_row m issues lots) i 0 ≡ named i issues lots
  unfolding notice_row named
  named-is m i l = row_named m i (length issues) l (le_refl _)
