-- `ranges::square_fits` meets its contract: two tests of the square's front. Assumes nothing.
use Rattle.std.proofs.Common.{◌*◌, ◌∙◌, le_refl}
use Rattle.std.proofs.lemmas.List.{length-take-le}
use Rattle.lists.proofs.TestLaws.{said-no, said-yes, row-stop, row-go}
use Rattle.ranges.proofs.RangeLaws.{square-there}
use Rattle.ranges.proofs.square_fits.Goals as goal

pub invariant_of-square : goal.invariant_of-square
invariant_of-square c =
    let a = c.args in
    record { rows = record { wide = c.requires.wide; size = length-take-le (a.stride * a.n) a.square.now c.requires.room } }

pub returns-then-at_most_one : goal.returns-then-at_most_one
returns-then-at_most_one c =
    let a = c.args in
    row-go _ _ _ (said-yes _ _ c.at_most_one.ensures c.if-at_most_one.true) c.none_on_oneself.ensures
    ∙ square-there a.square.now 0 (a.stride * a.n) a.stride a.n c.requires.wide (le_refl _)

pub returns-else-at_most_one : goal.returns-else-at_most_one
returns-else-at_most_one c =
    let a = c.args in
    c.if-at_most_one.false ∙ row-stop _ _ (said-no _ _ c.at_most_one.ensures c.if-at_most_one.false)
    ∙ square-there a.square.now 0 (a.stride * a.n) a.stride a.n c.requires.wide (le_refl _)
