use Rattle.std.proofs.Common.{arith}
use Rattle.matching.proofs.PairLaws.{row-asks, row-met, row_past, row-stop}
use Rattle.matching.proofs.Left.meet_pairs_of.Goals.{then-marks-place-eq1, else-marks-place-eq1}
use Rattle.matching.proofs.Left.meet_pairs_of.Goals as goal

pub meet-requires : goal.meet-requires
meet-requires c = row-asks c.requires c.loop-r.invariant (omega arith) c.if-marks-place-eq1.true

pub loop-r-preserved : goal.loop-r-preserved
loop-r-preserved c =
    elim c.if-marks-place-eq1.branch [
      | then-marks-place-eq1 w ↦ rw w.self-is (row-met c.requires c.loop-r.invariant (omega arith) w.if-marks-place-eq1.true w.meet.ensures.left w.meet.ensures.same)
      | else-marks-place-eq1 w ↦ rw w.self-is (row_past c.requires c.loop-r.invariant (omega arith) w.if-marks-place-eq1.false)
    ]

pub returns-then-self-d-eq0-clause-left : goal.returns-then-self-d-eq0-clause-left
returns-then-self-d-eq0-clause-left c = row-stop c.requires c.loop-r.invariant c.if-self-d-eq0.true
