-- `isin::of_japan` meets its contract. The first two cells against the byte string. Assumes nothing.
use Rattle.std.proofs.Common.{◌∙◌}
use borrow.Author.Tests.{lt-leb}
use Rattle.lists.proofs.TestLaws.{both_ways}
use Rattle.isin.proofs.CodeLaws.{japan-short, japan-first, japan-second}
use Rattle.isin.proofs.of_japan.Goals as goal
use Rattle.isin.proofs.of_japan.Goals.{then-code-ge2, else-code-ge2}

pub returns-then-code-from : goal.returns-then-code-from
returns-then-code-from c =
    elim c.if-code-ge2.branch [
      | then-code-ge2 w ↦ japan-second _ w.if-code-ge2.true w.value-is w.from.ensures c.if-code-from.true c.from-then-code-from.ensures
      | else-code-ge2 w ↦ both_ways _ c.if-code-from.true (w.value-is ∙ lt-leb _ _ w.if-code-ge2.false)
    ]

pub returns-else-code-from : goal.returns-else-code-from
returns-else-code-from c =
    elim c.if-code-ge2.branch [
      | then-code-ge2 w ↦ japan-first _ w.if-code-ge2.true w.value-is w.from.ensures c.if-code-from.false
      | else-code-ge2 w ↦ w.value-is ∙ lt-leb _ _ w.if-code-ge2.false ∙ japan-short _ w.if-code-ge2.false
    ]
