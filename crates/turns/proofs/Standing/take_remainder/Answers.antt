-- `turns::Standing::take_remainder` meets its contract. Assumes nothing.
use Rattle.quantities.proofs.OrderLaws.{eq_yes}
use Rattle.turns.proofs.TurnLaws.{remainder-none}
use Rattle.turns.proofs.Standing.take_remainder.Goals as goal

pub returns-then-eq : goal.returns-then-eq
returns-then-eq c = λ t q. remainder-none c.requires c.whole_units-whole.ensures c.sub-remainder.ensures (eq_yes _ _ c.eq.ensures c.if-eq.true) t
