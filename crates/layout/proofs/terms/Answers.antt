-- `layout::terms` meets its contract: rows of six cells, of which as many count as there are issues. Assumes nothing.
use Rattle.std.proofs.Common.{ap, ◌∙◌, ◌*◌, take, arith}
use Rattle.lists.specs.Parts.{grid}
use Rattle.lists.proofs.PartLaws.{part-is, part_length}
use Rattle.lists.proofs.CutLaws.{cut-rows, grid-within}
use Rattle.rule.specs.Day.{term_size}
use Rattle.rule.specs.Layout.{terms_at, most_issues}
use Rattle.layout.proofs.terms.Goals as goal

pub returns-clause-cells : goal.returns-clause-cells
returns-clause-cells c =
    let b = c.args.book.now in
    let n = c.args.issues in
    let w = term_size * most_issues in
    ap (take n) c.as_chunks.ensures.front
    ∙ cut-rows term_size n _ (omega arith) (omega (arith, c.requires, part_length b terms_at w (omega (arith, c.requires.0))))
    ∙ ap (λ x. grid x 0 term_size n term_size) (part-is b terms_at w)
    ∙ grid-within b terms_at w term_size n term_size (omega (arith, c.requires.1)) (omega arith)
