-- `value::Quote::add_value` meets its contract. Assumes nothing.
use Rattle.std.proofs.Common.{arith}
use Rattle.quantities.proofs.OrderLaws.{eq_yes}
use Rattle.value.proofs.SumLaws.{part_small, nothing-added}
use Rattle.value.proofs.Quote.add_value.Goals as goal

pub returns-then-eq : goal.returns-then-eq
returns-then-eq c = λ t q. nothing-added _ (eq_yes _ _ c.eq.ensures c.if-eq.true) t

pub add-requires : goal.add-requires
add-requires c = omega (arith, part_small c.args.self c.requires.few c.value.ensures, c.requires.small)
