-- `ranges::pairs_fit` meets its contract. Assumes nothing.
use Rattle.std.proofs.Common.{◌+◌, ◌-◌, ◌*◌, take, drop, refl, ◌∙◌, rules}
use Rattle.std.proofs.iter.Serving.{serving}
use Rattle.ranges.specs.Ranges.{square_fits}
use Rattle.ranges.proofs.ScanLaws.{all-below}
use Rattle.ranges.proofs.RangeLaws.{marks-lent, square-lent, within-seven}
use Rattle.ranges.proofs.pairs_fit.Goals as goal

pub all-requires-clause-callable : goal.all-requires-clause-callable
all-requires-clause-callable c = grind (serving, within-seven, square-lent)

pub returns : goal.returns
returns c =
    let a = c.args in
    all-below (λ k. square_fits (take (a.apart * k + a.apart - a.apart * k) (drop (a.apart * k) a.marks.now)) 0 a.stride a.n) 7 _ c.all.ensures.ran refl (λ x q k. search rules) (λ x q k. search rules)
    ∙ marks-lent _ _ _ _ c.requires.wide c.requires.square
