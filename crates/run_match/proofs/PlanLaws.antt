-- Laws of a basket's plan. Assumes nothing.
use mathlib.Core.Path.{◌≡◌, ap, ap₂, ◌∙◌}
use mathlib.Core.List.{List, map}
use Prim.Native.Nat.{ℕ, ◌+◌, ◌≤◌}
use native.Mathlib.Omega.{arith}
use lib.ListN.{length, get_or, length-map}
use Rattle.lists.specs.Parts.{block, grid}
use Rattle.lists.proofs.PartLaws.{length-block}
use Rattle.lists.proofs.CutLaws.{grid-within}
use Rattle.rule.specs.Matching.{plan}
use Rattle.rule.specs.Layout.{most_participants, square, runs_at, pairs_at, position_row, mark_square, plus, minus}
use Rattle.arrayvec.specs.ArrayVec.{ArrayVec}
use Rattle.matching.specs.declared.Match.{Match as Entry}
use Rattle.matching.specs.Plans.{PlanAsks, Planned, pair_marks}
use Rattle.matching.proofs.CallerLaws.{sound-basket}
use Rattle.layout.specs.InBook.{participants_in}
use Rattle.run_match.specs.Filled.{positions_in, plan_in, PlanRowsAsks}

module _ (b draw : List ℕ) (k : ℕ) (owed due : List ℕ) (h : PlanRowsAsks b draw k owed due) where
  abbrev n : ℕ
  n = participants_in b

  positions-fit : position_row k + n ≤ length b
  positions-fit = omega (arith, h.plannable.sized.cells, h.plannable.sized.participants, h.plannable.basket)

  pairs-fit : mark_square pairs_at k + square ≤ length b
  pairs-fit = omega (arith, h.plannable.sized.cells, h.plannable.basket)

  -- the participants' rows are made of the positions, cell by cell
  module _ {positions pairs : List ℕ} (there : positions ≡ block b (position_row k) (length owed)) (marks : pairs ≡ block b (mark_square pairs_at k) square)
      {owed' due' : List ℕ} (w : owed' ≡ map plus positions) (v : due' ≡ map minus positions) where
    positions-are : positions ≡ positions_in b k
    positions-are = there ∙ ap (block b (position_row k)) h.owing

    owed-is : owed' ≡ map plus (positions_in b k)
    owed-is = w ∙ ap (map plus) positions-are

    due-is : due' ≡ map minus (positions_in b k)
    due-is = v ∙ ap (map minus) positions-are

    pub plan-asks : PlanAsks pairs draw owed' due'
    plan-asks =
        rw (owed-is, due-is)
        (sound-basket n _ draw (positions_in b k) (length-block b (position_row k) n positions-fit) h.plannable.sized.participants
        (omega (arith, ap length marks, length-block b (mark_square pairs_at k) square pairs-fit, h.plannable.sized.participants)) h.plannable.drawn)

    pub plan-is : {runs : ℕ} {made' : ArrayVec Entry} → runs ≡ get_or b runs_at 0 → Planned (plan runs (pair_marks pairs (length owed')) draw owed' due') made'
        → Planned (plan_in b draw k) made'
    unfolding plan_in
    plan-is {runs} {made'} e p =
        let o : length owed' ≡ n = ap length owed-is ∙ length-map (positions_in b k) plus ∙ length-block b (position_row k) n positions-fit in
        let m : pair_marks pairs (length owed') ≡ grid b (mark_square pairs_at k) most_participants n n =
        ap₂ (λ (x : List ℕ) (q : ℕ). pair_marks x q) marks o
        ∙ grid-within b (mark_square pairs_at k) square most_participants n n (omega (arith, h.plannable.sized.participants)) h.plannable.sized.participants in
        record {
          matches = p.matches ∙ ap₂ (λ (r : ℕ) (x : List (List ℕ)). plan r x draw owed' due') e m
              ∙ ap₂ (λ (x y : List ℕ). plan (get_or b runs_at 0) (grid b (mark_square pairs_at k) most_participants n n) draw x y) owed-is due-is;
        }
