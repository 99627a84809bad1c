-- `turns::Standing::take_units` meets its contract. Assumes nothing.
use Rattle.std.proofs.Common.{arith}
use Rattle.quantities.proofs.OrderLaws.{le-yes, le-no, lt-yes}
use Rattle.turns.proofs.TurnLaws.{units-none, units-all, units-one, most-addable, units-most}
use Rattle.turns.proofs.Standing.take_units.Goals as goal

pub returns-then-lt : goal.returns-then-lt
returns-then-lt c = λ t q. units-none c.requires t (lt-yes _ _ c.lt.ensures c.if-lt.true)

pub returns-then-lt-2 : goal.returns-then-lt-2
returns-then-lt-2 c =
    λ t q. units-one c.requires q (omega (arith, c.least.ensures t q 0, c.sub-room.ensures, lt-yes c.sub-room.result.0 c.least.result.0 c.lt-2.ensures c.if-lt-2.true))

pub returns-then-le : goal.returns-then-le
returns-then-le c = λ t q. units-all c.requires q c.whole_units-whole.ensures c.with_lots-all.ensures (le-yes _ _ c.le.ensures c.if-le.true)

pub with_lots-requires : goal.with_lots-requires
with_lots-requires c =
    most-addable c.requires c.whole_units-whole.ensures c.with_lots-all.ensures (le-no _ _ c.le.ensures c.if-le.false) c.sub-room.ensures c.most.ensures c.rounded_down-most.ensures

pub returns : goal.returns
returns c = λ t q.
    units-most c.requires c.whole_units-whole.ensures c.with_lots-all.ensures (le-no _ _ c.le.ensures c.if-le.false) c.sub-room.ensures c.most.ensures c.rounded_down-most.ensures
    q c.with_lots.ensures
