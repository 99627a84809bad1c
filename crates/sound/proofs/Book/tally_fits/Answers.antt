-- `sound::Book::tally_fits` meets its contract. Assumes nothing.
use Rattle.std.proofs.Common.{ℕ, List, [], take, ap₂, ◌∙◌, arith, rules}
use Rattle.lists.specs.Tests.{all_below}
use Rattle.rule.specs.Layout.{most_issues, tally_at, lots_row}
use Rattle.ranges.specs.Ranges.{all_pass, row_passes}
use Rattle.ranges.proofs.ScanLaws.{all-items}
use Rattle.lists.proofs.CutLaws.{cut, YieldsList-from_chunks}
use Rattle.ranges.proofs.RangeLaws.{part-cut}
use Rattle.sound.specs.Sized.{is_within}
use Rattle.sound.proofs.Book.tally_fits.Goals as goal

pub returns : goal.returns
returns c =
    let s = c.args.self.now in
    let b = s.cells.now in
    let most : ℕ = c.args.limit.most in
    let part : List ℕ = c.lots_rows.result.now in
    all-items (λ (row : List ℕ). all_pass (is_within most) (take s.issues row)) (cut most_issues part) [] _ c.all.ensures.ran
    (YieldsList-from_chunks most_issues part c.chunks_exact.ensures.rest c.chunks_exact.ensures.size (omega arith)) (λ x q k. search rules) (λ x q k. search rules)
    ∙ part-cut most_issues s.issues (omega arith) (omega (arith, s.sized.issues, s.issues_are)) (is_within most) b tally_at s.participants part
    (omega (arith, s.sized.cells, s.sized.participants, s.participants_are)) c.lots_rows.ensures.cells
    ∙ ap₂ (λ (n m : ℕ). all_below n (λ p. row_passes (is_within most) b (lots_row tally_at p) m)) s.participants_are s.issues_are
