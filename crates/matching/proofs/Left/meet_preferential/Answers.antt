use Rattle.std.proofs.Common.{arith}
use Rattle.matching.proofs.PairLaws.{rows_none, rows-begin, rows-ask, rows_on}
use Rattle.matching.proofs.Left.meet_preferential.Goals as goal

pub returns-then-runs-gt0-clause-left : goal.returns-then-runs-gt0-clause-left
returns-then-runs-gt0-clause-left c = rows_none c.requires c.if-runs-gt0.true

pub loop-d-init : goal.loop-d-init
loop-d-init c = rows-begin c.requires (omega arith)

pub meet_pairs_of-requires : goal.meet_pairs_of-requires
meet_pairs_of-requires c = rows-ask c.requires c.loop-d.invariant c.loop-d-test.true

pub loop-d-preserved : goal.loop-d-preserved
loop-d-preserved c = rows_on c.requires c.loop-d.invariant c.loop-d-test.true c.meet_pairs_of.ensures.left c.meet_pairs_of.ensures.same
