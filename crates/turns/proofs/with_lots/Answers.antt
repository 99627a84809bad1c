-- `turns::with_lots` meets its contract. Assumes nothing.
use Rattle.std.proofs.Common.{◌+◌, ◌∙◌, ap, arith, refl, ℕ}
use Rattle.value.proofs.SumLaws.{part_small}
use Rattle.turns.proofs.with_lots.Goals as goal

pub add-requires : goal.add-requires
add-requires c = omega (arith, part_small c.args.quote c.requires.lots_most c.value.ensures, c.requires.others_most)

pub returns : goal.returns
returns c = λ t q. record { lots = refl; worth = c.add.ensures ∙ ap (λ (part : ℕ). c.args.others.0 + part) (c.value.ensures t q) }
