-- `sound::Book::pairs_fit` meets its contract. Assumes nothing.
use Rattle.std.proofs.Common.{◌≤◌, ap, ◌∙◌, arith}
use Rattle.rule.specs.Sound.{pairs_fit}
use Rattle.rule.specs.Layout.{most_participants, square}
use Rattle.ranges.proofs.RangeLaws.{marks-there}
use Rattle.sound.proofs.Book.pairs_fit.Goals as goal

pub returns : goal.returns
returns c =
    let s = c.args.self.now in
    let few : s.participants ≤ most_participants = omega (arith, s.sized.participants, s.participants_are) in
    c.pairs_fit.ensures
    ∙ ap (pairs_fit s.participants)
    (marks-there s.cells.now c.args.at square most_participants s.participants _ few (omega (arith, few)) c.squares.ensures.cells)
