-- `sound::Book::lots_at_most` meets its contract. Assumes nothing.
use Rattle.std.proofs.Common.{ap, ◌*◌, ◌∙◌, arith}
use Rattle.lists.specs.Parts.{grid}
use Rattle.lists.proofs.CutLaws.{grid-within}
use Rattle.rule.specs.Sound.{at_most}
use Rattle.rule.specs.Layout.{most_issues}
use Rattle.sound.proofs.Book.lots_at_most.Goals as goal

pub invariant_of-lots : goal.invariant_of-lots
invariant_of-lots c =
    let s = c.args.self.now in
    record { there = record { wide = omega (arith, s.sized.issues, s.issues_are); room = omega (arith, c.lots_rows.ensures.size) } }

pub returns : goal.returns
returns c =
    let s = c.args.self.now in
    let a = c.args in
    c.rows_at_most.ensures
    ∙ ap (at_most a.bound s.participants s.issues)
    (ap (λ x. grid x 0 most_issues s.participants s.issues) c.lots_rows.ensures.cells
    ∙ grid-within s.cells.now a.at (most_issues * s.participants) most_issues s.participants s.issues (omega arith) (omega (arith, s.sized.issues, s.issues_are)))
