use Rattle.std.proofs.Common.{arith, refl, get_or, []}
use Rattle.rule.specs.Day.{terms_of}
use Rattle.run_usable.proofs.StockLaws.{inside-cell, marked-more, marked-all}
use Rattle.run_usable.proofs.mark_issues.Goals as goal

pub loop-i-preserved : goal.loop-i-preserved
loop-i-preserved c =
    let issue = get_or c.terms-issues.result.now c.loop-i.i [] in
    marked-more c.loop-i.invariant (omega arith)
    (inside-cell _ _ c.loop-i.i (omega arith) c.terms-issues.ensures.cells _ (c.is_among.ensures _ (terms_of issue) c.kinds_of-kinds.ensures refl))

pub returns : goal.returns
returns c = marked-all c.loop-i.invariant (omega arith)
