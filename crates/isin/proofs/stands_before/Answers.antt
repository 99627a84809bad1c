-- `isin::stands_before` meets its contract. The order of the rule is that of lists. Assumes nothing.
use Rattle.std.proofs.Common.{◌∙◌}
use Rattle.isin.proofs.CodeLaws.{before-is}
use Rattle.isin.proofs.stands_before.Goals as goal

pub returns : goal.returns
returns c = c.is_lt.ensures ∙ before-is _ _ _ c.cmp.ensures
