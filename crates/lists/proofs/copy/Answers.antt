-- `lists::copy` meets its contract. Assumes nothing.
use Rattle.std.proofs.Common.{◌∙◌, rules, arith}
use lib.Seq.{ext_get_or}
use Rattle.lists.proofs.copy.Goals as goal

pub returns : goal.returns
returns c =
    ext_get_or 0 _ _ (c.copy_with.auto.cells ∙ c.requires)
    (λ i k. let made = c.copy_with.ensures i (omega (arith, c.copy_with.auto.cells, c.requires)) in search rules)
