-- `sound::Book::terms_fit` meets its contract. Assumes nothing.
use Rattle.std.proofs.Common.{ℕ, ap, ap₂, ◌∙◌}
use Rattle.lists.specs.Parts.{grid}
use Rattle.rule.specs.Day.{term_size}
use Rattle.rule.specs.Layout.{terms_at}
use Rattle.ranges.specs.Ranges.{terms_in_range}
use Rattle.sound.proofs.Book.terms_fit.Goals as goal

pub returns : goal.returns
returns c =
    let s = c.args.self.now in
    c.terms_fit.ensures ∙ ap₂ terms_in_range c.terms.ensures.size c.terms.ensures.cells
    ∙ ap (λ (n : ℕ). terms_in_range s.issues (grid s.cells.now terms_at term_size n term_size)) s.issues_are
