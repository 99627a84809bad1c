-- `sound::Book::positions_fit` meets its contract. Assumes nothing.
use Rattle.std.proofs.Common.{refl, rules}
use Rattle.layout.specs.InBook.{participants_in}
use Rattle.rule.specs.Layout.{position_row}
use Rattle.ranges.proofs.ScanLaws.{all-below}
use Rattle.sound.specs.Sized.{basket_fits}
use Rattle.sound.proofs.Book.positions_fit.Goals as goal

pub returns : goal.returns
returns c =
    let b = c.args.self.now.cells.now in
    all-below (λ k. basket_fits b c.args.limit.most (participants_in b) k (position_row k)) 7 _ c.all.ensures.ran refl (λ x q k. search rules) (λ x q k. search rules)
