-- Laws of rows of one length that stand one after the other in one list: the list is read back as the rows. Assumes nothing.
use mathlib.Core.Path.{◌≡◌, refl, ap, ◌∙◌}
use Prim.Native.Nat.{ℕ, zero, suc, ◌+◌, ◌*◌, ◌≤◌, ◌<◌}
use native.Mathlib.Nat.{not-suc-le-zero, le_of_suc-le-suc, mul-suc, mul-zero, mul-le-mul_left, le_refl}
use native.Mathlib.Omega.{arith}
use mathlib.Core.List.{List, [], ◌∷◌, ◌++◌}
use lib.ListN.{length, get_or, get_or-append}
use lib.Seq.{get_or-append-add}
use Rattle.lists.specs.Tables.{cell}
use Rattle.lists.specs.Folds.{joined, Every}
use Rattle.lists.specs.Parts.{grid, over}
use Rattle.lists.proofs.FoldLaws.{every-index}
use Rattle.lists.proofs.AppendLaws.{joined_length}
use Rattle.lists.proofs.PartLaws.{Shape, over-in, length_over, stands-grid}
use Rattle.lists.proofs.FoldLaws.{every-at}

module _ (w : ℕ) where
  -- a cell of row p is there
  pub joined-get : (t : List (List ℕ)) → Every (λ r. length r ≡ w) t → (p i : ℕ) → p < length t → i < w → get_or (joined t) (w * p + i) 0 ≡ cell t p i
  joined-get [] h p i l k = absurd (not-suc-le-zero l)
  joined-get (r ∷ rs) h zero i l k =
      let e : w * 0 + i ≡ i = omega (arith, mul-zero w) in
      ap (λ (j : ℕ). get_or (r ++ joined rs) j 0) e ∙ get_or-append r (joined rs) 0 i (omega (arith, h.0))
  joined-get (r ∷ rs) h (suc p) i l k =
      let e : w * suc p + i ≡ length r + (w * p + i) = omega (arith, mul-suc w p, h.0) in
      ap (λ (j : ℕ). get_or (r ++ joined rs) j 0) e ∙ get_or-append-add r (joined rs) (w * p + i) 0 ∙ joined-get rs h.1 p i (le_of_suc-le-suc l) k

  -- a list that has their cells is read as the rows
  pub joined-grid : (c : List ℕ) (t : List (List ℕ)) → Every (λ r. length r ≡ w) t → w * length t ≤ length c
      → ((i : ℕ) → i < length (joined t) → get_or c i 0 ≡ get_or (joined t) i 0) → grid c 0 w (length t) w ≡ t
  joined-grid c t h fit same =
      let s : Shape t (length t) w = record { rows = refl; cells = every-at (λ r. length r ≡ w) [] t h } in
      stands-grid c 0 w (length t) w t s (le_refl w) (omega arith)
      (λ p i l k.
      let place : 0 + w * p + i ≡ w * p + i = omega arith in
      let inside : w * p + i < length (joined t) = omega (arith, joined_length w t h, mul-suc w p, mul-le-mul_left w l) in
      ap (λ (j : ℕ). get_or c j 0) place ∙ same (w * p + i) inside ∙ joined-get t h p i l k)

  -- written over a list that has room, they are read back
  pub joined-over : (b : List ℕ) (t : List (List ℕ)) → Every (λ r. length r ≡ w) t → w * length t ≤ length b → grid (over b 0 (joined t)) 0 w (length t) w ≡ t
  joined-over b t h fit =
      let room : 0 + length (joined t) ≤ length b = omega (arith, joined_length w t h) in
      joined-grid (over b 0 (joined t)) t h (omega (arith, length_over b (joined t) 0 room)) (λ i l.
      let e : i ≡ 0 + i = omega arith in ap (λ (j : ℕ). get_or (over b 0 (joined t)) j 0) e ∙ over-in b (joined t) 0 room i l)

-- a table by its shape
pub shape-rows : (t : List (List ℕ)) (n m : ℕ) → Shape t n m → Every (λ r. length r ≡ m) t
shape-rows t n m s = every-index (λ r. length r ≡ m) [] t (λ p l. s.cells p (omega (arith, s.rows)))
