use Rattle.std.proofs.Common.{◌≡◌, ℕ, ◌+◌, ◌≤◌, ◌&&◌, ◌||◌, eqb, List, length, sym, arith}
use Rattle.std.proofs.lemmas.Bool.Decides.{nat_tests}
use Rattle.std.proofs.lemmas.Grind.{common_steps}
use Rattle.lists.proofs.TestLaws.{said-no, said-yes}
use Rattle.rule.specs.Layout.{position_row}
use Rattle.rule.specs.Sound.{tradable}
use Rattle.layout.specs.InBook.{book_terms, book_marks, participants_in}
use Rattle.sound.specs.Sized.{basket_fits}
use Rattle.sound.proofs.SoundLaws.{Summed, summed-none, summed-more, basket-stop, basket-sums}
use Rattle.sound.proofs.Book.basket_fits.Goals.{After-positions-cell-items}
use Rattle.sound.proofs.Book.basket_fits.Goals as goal

-- what the sums say of the basket, where the loop went through all its positions
sums : (c : After-positions-cell-items) {owed due p : ℕ} → Summed c.args.limit.most c.positions-cell-items.result.now owed due p
    → length c.positions-cell-items.result.now ≤ p
    → let b : List ℕ = c.args.self.now.cells.now in
    let k : ℕ = c.args.basket in
    basket_fits b c.args.limit.most (participants_in b) k (position_row k) ≡ (eqb owed due && (eqb (owed + due) 0 || tradable k (book_terms b) (book_marks b)))
sums c = basket-sums _ _ _ c.args.basket _ (omega arith) c.positions-cell-items.ensures.cells _ (sym c.args.self.now.participants_are)

pub loop-cell-init : goal.loop-cell-init
loop-cell-init c = summed-none _ _

pub returns-then-not-is_within : goal.returns-then-not-is_within
returns-then-not-is_within c =
    let s = c.args.self.now in
    basket-stop _ _ _ c.args.basket _ (omega arith) c.positions-cell-items.ensures.cells _ (sym s.participants_are) c.loop-cell.cell-index (omega arith)
    (said-no _ _ c.is_within.ensures c.if-not-is_within.true)

pub loop-cell-preserved : goal.loop-cell-preserved
loop-cell-preserved c =
    summed-more c.loop-cell.invariant c.args.limit.small (said-yes _ _ c.is_within.ensures c.if-not-is_within.false) c.owed_of-owed.ensures c.due_of-due.ensures
    (omega arith)

pub returns-then-owed-eq0 : goal.returns-then-owed-eq0
returns-then-owed-eq0 c =
    grind (
      arith,
      nat_tests,
      common_steps,
      sums (goal.at.returns-then-owed-eq0 c).After-positions-cell-items c.loop-cell.invariant (omega arith),
    )

pub returns-else-owed-eq0 : goal.returns-else-owed-eq0
returns-else-owed-eq0 c =
    grind (
      arith,
      nat_tests,
      common_steps,
      sums (goal.at.returns-else-owed-eq0 c).After-positions-cell-items c.loop-cell.invariant (omega arith),
    )

pub returns-else-owed-due : goal.returns-else-owed-due
returns-else-owed-due c =
    grind (
      arith,
      nat_tests,
      common_steps,
      sums (goal.at.returns-else-owed-due c).After-positions-cell-items c.loop-cell.invariant (omega arith),
    )
