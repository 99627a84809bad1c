-- `forced::forced_issue` meets its contract. Assumes nothing.
use Rattle.forced.proofs.ChoiceLaws.{forced-best, forced-fifth}
use Rattle.forced.proofs.forced_issue.Goals as goal

pub returns-in-Some : goal.returns-in-Some
returns-in-Some c = let k = c.args.basket in forced-best k _ _ _ (c.in-Some.ensures k c.kinds_of-kinds.ensures)

pub returns-in-None : goal.returns-in-None
returns-in-None c =
    let k = c.args.basket in
    forced-fifth k _ _ _ (c.in-None.ensures k c.kinds_of-kinds.ensures) (c.fifth_largest.ensures k c.kinds_of-kinds.ensures)
