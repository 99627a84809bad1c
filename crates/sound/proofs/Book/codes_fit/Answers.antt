-- `sound::Book::codes_fit` meets its contract. Assumes nothing.
use Rattle.std.proofs.Common.{ℕ, ap, ◌∙◌, ◌*◌, arith}
use Rattle.lists.specs.Parts.{grid}
use Rattle.lists.proofs.CutLaws.{grid-within}
use Rattle.rule.specs.Isin.{codes_right}
use Rattle.rule.specs.Day.{code_size}
use Rattle.rule.specs.Layout.{codes_at}
use Rattle.sound.proofs.Book.codes_fit.Goals as goal

pub returns : goal.returns
returns c =
    let s = c.args.self.now in
    let n = code_size in
    let part = c.codes.result.now in
    c.codes_right.ensures
    ∙ ap codes_right (ap (λ (m : ℕ). grid part 0 n m n) (omega (arith, c.codes.ensures.size)) ∙ ap (λ x. grid x 0 n s.issues n) c.codes.ensures.cells
    ∙ grid-within s.cells.now codes_at (n * s.issues) n s.issues n (omega arith) (omega arith) ∙ ap (λ (m : ℕ). grid s.cells.now codes_at n m n) s.issues_are)
