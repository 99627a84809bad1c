use Rattle.std.proofs.Common.{arith, refl}
use Rattle.lists.proofs.CopyLaws.{lent-to, lent-from, lent-back}
use Rattle.close.proofs.CloseLaws.{covered_none, covered-room, covered_more, covered-all, square-small}
use Rattle.close.proofs.write_pairs.Goals as goal

pub overflow_mul-square : goal.overflow_mul-square
overflow_mul-square c = omega (arith, square-small _ _ c.requires)

pub loop-k-init : goal.loop-k-init
loop-k-init c = covered_none _ _ c.requires

pub loop-k-preserved : goal.loop-k-preserved
loop-k-preserved c =
    let marks = c.marks.ensures in
    let r = covered-room _ _ c.requires _ _ marks.size c.loop-k.invariant.size c.loop-k-test.true in
    covered_more _ _ c.requires marks.cells c.loop-k-test.true c.loop-k.invariant _ (lent-back _ _ _ _ _ _ _ _ r _ refl _ c.write_square.ensures)

pub write_square-requires-clause-room : goal.write_square-requires-clause-room
write_square-requires-clause-room c = lent-to _ _ _ _ _ _ _ _ (covered-room _ _ c.requires _ _ c.marks.ensures.size c.loop-k.invariant.size c.loop-k-test.true)

pub write_square-requires-clause-there : goal.write_square-requires-clause-there
write_square-requires-clause-there c =
    lent-from _ _ _ _ _ _ _ _ (covered-room _ _ c.requires _ _ c.marks.ensures.size c.loop-k.invariant.size c.loop-k-test.true) _ refl

pub returns : goal.returns
returns c = covered-all _ _ c.requires (omega arith) c.loop-k.invariant
