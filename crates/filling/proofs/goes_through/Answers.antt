-- `filling::goes_through` meets its contract. Assumes nothing.
use Rattle.std.proofs.Common.{arith, refl, true}
use Rattle.lists.proofs.TestLaws.{both_ways}
use Rattle.quantities.proofs.OrderLaws.{le-no, gt-no}
use Rattle.filling.proofs.MatchLaws.{idle-forced, idle-uncovered}
use Rattle.filling.proofs.goes_through.Goals as goal

pub returns-then-le : goal.returns-then-le
returns-then-le c = λ e. both_ways true refl e

pub returns-then-runs-ge2 : goal.returns-then-runs-ge2
returns-then-runs-ge2 c = λ e. idle-forced _ _ _ c.if-runs-ge2.true (le-no _ _ c.le.ensures c.if-le.false)

pub returns : goal.returns
returns c = λ e.
    let r = c.covered-rest in
    idle-uncovered _ _ _ c.if-runs-ge2.false (omega (arith, gt-no r.result.0 0 c.gt.ensures e, r.ensures))
