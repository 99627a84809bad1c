-- Laws of the matches filled so far. Assumes nothing.
use mathlib.Core.Path.{◌≡◌, refl, sym, ap, ◌∙◌, subst}
use mathlib.Core.List.{List, [], ◌∷◌, ◌++◌, append-nil, append_assoc}
use Prim.Native.Nat.{ℕ, zero, suc, ◌+◌, ◌-◌, ◌≤◌, ◌<◌}
use native.Mathlib.Nat.{add-zero}
use native.Mathlib.Numerals.{add-one}
use native.Mathlib.Omega.{arith}
use lib.ListN.{length, get_or, take, length-append}
use lib.Seq.{take_all, take-suc}
use Rattle.lists.specs.Tables.{up_to}
use Rattle.lists.specs.Folds.{foldl, total, Every}
use Rattle.lists.proofs.FoldLaws.{foldl-append, total-append}
use Rattle.lists.proofs.AppendLaws.{up_to-more}
use Rattle.rule.specs.Matching.{Match}
use Rattle.rule.specs.Day.{Day, baskets}
use Rattle.rule.specs.Run.{Allocation, used_table, allocate, basket_plan, basket, allocations}
use Rattle.run_basket.specs.Running.{done_to, done_in, done_at}

module _ (y : Day) (draw : List ℕ) where
  -- ---- one match more, one basket more

  -- match j of basket k, filled
  unfoldable pub next_of : ℕ → ℕ → Match → Allocation
  next_of k j m = allocate y k (used_table y.given (done_to y draw k)) (done_in y draw k j) m

  in-more : (k j : ℕ) (m : Match) → j < length (basket_plan y draw k) → done_in y draw k (j + 1) ≡ done_in y draw k j ++ (next_of k j (get_or (basket_plan y draw k) j m) ∷ [])
  unfolding done_in next_of
  in-more k j m h =
      let step : List Allocation → Match → List Allocation = λ done m. done ++ (allocate y k (used_table y.given (done_to y draw k)) done m ∷ []) in
      let plan : List Match = basket_plan y draw k in
      ap (λ (n : ℕ). foldl step [] (take n plan)) (add-one j) ∙ ap (foldl step []) (take-suc plan j m h) ∙ foldl-append step (take j plan) (get_or plan j m ∷ []) []

  pub done-begin : (k : ℕ) → done_at y draw k 0 ≡ done_to y draw k
  unfolding done_at done_in
  done-begin k = append-nil (done_to y draw k)

  pub done_next : (k j : ℕ) (m : Match) → j < length (basket_plan y draw k) → done_at y draw k (j + 1) ≡ done_at y draw k j ++ (next_of k j (get_or (basket_plan y draw k) j m) ∷ [])
  unfolding done_at
  done_next k j m h =
      ap (λ (l : List Allocation). done_to y draw k ++ l) (in-more k j m h) ∙ sym (append_assoc (done_to y draw k) (done_in y draw k j) (next_of k j (get_or (basket_plan y draw k) j m) ∷ []))

  pub to-more : (k : ℕ) → done_to y draw (k + 1) ≡ done_to y draw k ++ basket y draw (used_table y.given (done_to y draw k)) k
  unfolding done_to
  to-more k =
      let step : List Allocation → ℕ → List Allocation = λ done k. done ++ basket y draw (used_table y.given done) k in
      ap (foldl step []) (up_to-more k) ∙ foldl-append step (up_to k) (k ∷ []) []

  in_all : (k j : ℕ) → length (basket_plan y draw k) ≤ j → done_in y draw k j ≡ basket y draw (used_table y.given (done_to y draw k)) k
  unfolding done_in basket
  in_all k j h =
      ap (foldl (λ done m. done ++ (allocate y k (used_table y.given (done_to y draw k)) done m ∷ [])) []) (take_all j (basket_plan y draw k) h)

  pub done_end : (k j : ℕ) → length (basket_plan y draw k) ≤ j → done_at y draw k j ≡ done_to y draw (k + 1)
  unfolding done_at
  done_end k j h = ap (λ (l : List Allocation). done_to y draw k ++ l) (in_all k j h) ∙ sym (to-more k)

  pub done_none : done_to y draw 0 ≡ []
  unfolding done_to
  done_none = refl

  pub done_all : done_to y draw baskets ≡ allocations y draw
  unfolding done_to allocations
  done_all = refl

  -- ---- what is done is the first part of the run

  pub record Part (done : List Allocation) : Type 0 where
    pub rest : List Allocation
    pub whole : done ++ rest ≡ allocations y draw

  part-back : (xs ys : List Allocation) → Part (xs ++ ys) → Part xs
  part-back xs ys p = record { rest = ys ++ p.rest; whole = sym (append_assoc xs ys p.rest) ∙ p.whole }

  part-to : (i k : ℕ) → k + i ≡ baskets → Part (done_to y draw k)
  part-to zero k e = record { rest = []; whole = append-nil (done_to y draw k) ∙ ap (done_to y draw) (sym (add-zero k) ∙ e) ∙ done_all }
  part-to (suc i) k e =
      part-back (done_to y draw k) (basket y draw (used_table y.given (done_to y draw k)) k)
      (subst Part (to-more k) (part-to i (k + 1) (omega arith)))

  -- of basket k, the first so many
  part_in : (k i j : ℕ) → k < baskets → j + i ≡ length (basket_plan y draw k) → Match → Part (done_at y draw k j)
  part_in k zero j h e m = subst Part (sym (done_end k j (omega arith))) (part-to (baskets - (k + 1)) (k + 1) (omega arith))
  part_in k (suc i) j h e m =
      part-back (done_at y draw k j) (next_of k j (get_or (basket_plan y draw k) j m) ∷ []) (subst Part (done_next k j m (omega arith)) (part_in k i (j + 1) h (omega arith) m))

  pub part_at : (k j : ℕ) → k < baskets → j ≤ length (basket_plan y draw k) → Match → Part (done_at y draw k j)
  part_at k j h l m = part_in k (length (basket_plan y draw k) - j) j h (omega arith) m

  -- ---- what holds of the whole holds of a part

  pub part-total : {done : List Allocation} (f : Allocation → ℕ) → Part done → total f done ≤ total f (allocations y draw)
  part-total {done} f p = omega (arith, total-append f done p.rest, ap (total f) p.whole)

  pub part_length : {done : List Allocation} → Part done → length done ≤ length (allocations y draw)
  part_length {done} p = omega (arith, length-append done p.rest, ap length p.whole)

  every_front : (P : Allocation → Type 0) (xs ys : List Allocation) → Every P (xs ++ ys) → Every P xs
  every_front P [] ys h = tt
  every_front P (x ∷ xs) ys h = (h.0, every_front P xs ys h.1)

  pub part-every : (P : Allocation → Type 0) {done : List Allocation} → Part done → Every P (allocations y draw) → Every P done
  part-every P {done} p h = every_front P done p.rest (subst (Every P) (sym p.whole) h)
