-- `turns::Standing::take_up_to` meets its contract. Assumes nothing.
use Rattle.std.proofs.Common.{arith}
use Rattle.quantities.proofs.OrderLaws.{le-yes, lt-yes, lt-no}
use Rattle.turns.proofs.TurnLaws.{up_none, rest_below, bound-addable, up-all, few-addable, up-few}
use Rattle.turns.proofs.Standing.take_up_to.Goals as goal

pub returns-then-le : goal.returns-then-le
returns-then-le c = λ t q. up_none c.requires t (le-yes _ _ c.le.ensures c.if-le.true)

pub with_lots-all-requires : goal.with_lots-all-requires
with_lots-all-requires c = bound-addable c.args.self.part c.requires.short c.others-rest.ensures c.requires

pub returns-then-lt : goal.returns-then-lt
returns-then-lt c =
    λ t q. up-all c.args.self.part c.requires.short c.others-rest.ensures c.requires q c.with_lots-all.ensures (lt-yes _ _ c.lt.ensures c.if-lt.true)

pub sub-requires : goal.sub-requires
sub-requires c = omega (arith, rest_below c.args.self.part c.requires.short c.others-rest.ensures)

pub with_lots-requires : goal.with_lots-requires
with_lots-requires c =
    few-addable c.args.self.part c.requires.short c.others-rest.ensures c.requires c.with_lots-all.ensures (lt-no _ _ c.lt.ensures c.if-lt.false) c.sub.ensures c.fewest-fewest.ensures

pub returns : goal.returns
returns c = λ t q.
    up-few c.args.self.part c.requires.short c.others-rest.ensures c.requires c.with_lots-all.ensures (lt-no _ _ c.lt.ensures c.if-lt.false) c.sub.ensures c.fewest-fewest.ensures
    q c.with_lots.ensures
