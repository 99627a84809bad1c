-- Laws of a loop that changes each cell of a row in its turn: P says what cell i becomes. Assumes nothing.
use mathlib.Core.Path.{◌≡◌, refl, sym, ap, ◌∙◌, subst}
use mathlib.Core.Logic.{◌≢◌, ◌⊎◌, inl, inr}
use mathlib.Core.List.{List, map}
use Prim.Native.Nat.{ℕ, ◌+◌, ◌-◌, ◌≤◌, ◌<◌}
use native.Mathlib.Nat.{not-suc-le-zero}
use native.Mathlib.Decide.{dec_lt, dec_le}
use native.Mathlib.Omega.{arith}
use lib.ListN.{length, get_or, set, take, drop, length-set, length-map}
use borrow.Rule.Slice.PartMut.{put_mid}
use lib.Seq.{get_or-set_same, get_or-set_other, ext_get_or}
use borrow.Author.Count.{below_more}
use Rattle.lists.specs.Parts.{over}
use Rattle.lists.proofs.TableLaws.{get_d_map}
use Rattle.lists.proofs.PartLaws.{part_length, part-back, length_over, over-in, over-out}
use Rattle.lists.specs.Rows.{Becomes}

-- row₀ of which the cells below i are changed
pub record Changed (P : ℕ → ℕ → Type 0) (row₀ row : List ℕ) (i : ℕ) : Type 0 where
  pub size : length row ≡ length row₀
  pub cells : (k : ℕ) → k < i → P k (get_or row k 0)
  pub rest : (k : ℕ) → i ≤ k → get_or row k 0 ≡ get_or row₀ k 0

module _ (P : ℕ → ℕ → Type 0) where
  pub changed-none : (row : List ℕ) → Changed P row row 0
  changed-none row = record { size = refl; cells = λ k l. absurd (not-suc-le-zero l); rest = λ k l. refl }

  pub changed-more : {row₀ row : List ℕ} {i : ℕ} (v : ℕ) → i < length row → P i v → Changed P row₀ row i → Changed P row₀ (set row i v) (i + 1)
  changed-more {row₀} {row} {i} v h e w = record {
    size = length-set row i v ∙ w.size;
    cells = below_more (λ k. P k (get_or (set row i v) k 0)) i
        (λ k l. subst (P k) (sym (get_or-set_other row i k v 0 (omega arith))) (w.cells k l))
        (subst (P i) (sym (get_or-set_same row i v 0 h)) e);
    rest = λ k l. get_or-set_other row i k v 0 (omega arith) ∙ w.rest k (omega arith);
  }

  pub changed-all : {row₀ row : List ℕ} {i : ℕ} → length row₀ ≤ i → Changed P row₀ row i → Becomes P row₀ row
  changed-all l w = record { size = w.size; cells = λ k h. w.cells k (omega arith) }

-- ---- a row that was made of another, cell by cell

pub made-of : (g : ℕ → ℕ) (xs part : List ℕ) → length part ≡ length xs → ((i : ℕ) → i < length xs → get_or part i 0 ≡ g (get_or xs i 0)) → part ≡ map g xs
made-of g xs part e each =
    ext_get_or 0 part (map g xs) (e ∙ sym (length-map xs g)) (λ i k. each i (omega (arith, e)) ∙ sym (get_d_map g xs i 0 0 (omega (arith, e))))

-- ---- a row that was lent, `&mut xs[a..a + n]`, changed, and is back

module _ (P : ℕ → ℕ → Type 0) (xs : List ℕ) (a n : ℕ) (part : List ℕ) (fit : a + n ≤ length xs) (w : Becomes P (take (a + n - a) (drop a xs)) part) where
  abbrev back : List ℕ
  back = put_mid a (a + n - a) xs part

  size : length part ≡ n
  size = w.size ∙ part_length xs a n fit

  same : back ≡ over xs a part
  same = part-back xs a n part size

  room : a + length part ≤ length xs
  room = omega (arith, size)

  pub lent-size : length back ≡ length xs
  lent-size = ap length same ∙ length_over xs part a room

  pub lent-in : (i : ℕ) → i < n → P i (get_or back (a + i) 0)
  lent-in i h =
      subst (P i) (sym (over-in xs part a room i (omega (arith, size))) ∙ ap (λ (l : List ℕ). get_or l (a + i) 0) (sym same))
      (w.cells i (omega (arith, part_length xs a n fit)))

  pub lent_out : (j : ℕ) → (j < a) ⊎ (a + n ≤ j) → get_or back j 0 ≡ get_or xs j 0
  lent_out j h = ap (λ (l : List ℕ). get_or l j 0) same ∙ over-out xs part a room j (subst (λ (k : ℕ). (j < a) ⊎ (a + k ≤ j)) (sym size) h)

-- a place is in a row of n cells from a on, or before it, or behind it
pub where-is : (j a n : ℕ) → ((i : ℕ) → i < n → j ≢ a + i) → (j < a) ⊎ (a + n ≤ j)
where-is j a n h = go (dec_lt j a) (dec_le (a + n) j)
  where
    go : Dec (j < a) → Dec (a + n ≤ j) → (j < a) ⊎ (a + n ≤ j)
    go (yes l) m = inl l
    go (no l) (yes m) = inr m
    go (no l) (no m) = absurd (h (j - a) (omega arith) (omega arith))
