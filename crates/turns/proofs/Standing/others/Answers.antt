-- `turns::Standing::others` meets its contract. Assumes nothing.
use Rattle.std.proofs.Common.{◌-◌, ◌∙◌, ap, ℕ}
use Rattle.quantities.proofs.OrderLaws.{eq_yes}
use Rattle.turns.proofs.TurnLaws.{besides-none, had-most, part-there}
use Rattle.turns.proofs.Standing.others.Goals as goal

pub returns-then-eq : goal.returns-then-eq
returns-then-eq c = λ t q. besides-none t _ (eq_yes _ _ c.eq.ensures c.if-eq.true)

pub value-requires : goal.value-requires
value-requires c = had-most c.args.self.part

pub sub-requires : goal.sub-requires
sub-requires c = part-there c.args.self.part c.value.ensures

pub returns : goal.returns
returns c = λ t q. c.sub.ensures ∙ ap (λ (part : ℕ). c.args.self.reached.0 - part) (c.value.ensures t q)
