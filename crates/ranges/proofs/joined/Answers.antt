use Rattle.std.proofs.Common.{Bool, ◌-◌, ◌^◌, ◌&&◌, leb, ap, ◌∙◌, arith, le-leb}
use Rattle.ranges.proofs.ScanLaws.{gathered_begin, gathered-more, gathered-all, bits_below}
use Rattle.ranges.proofs.joined.Goals as goal

pub loop-cell-init : goal.loop-cell-init
loop-cell-init g c = λ k test h. gathered_begin _ _ (le-leb 0 (2 ^ k - 1) (omega arith))

pub loop-cell-preserved : goal.loop-cell-preserved
loop-cell-preserved g c = λ k test h.
    let w = c.loop-cell in
    gathered-more (w.invariant k test h) (omega arith)
    (bits_below w.bits c.bits_of-bits.result k ∙ ap (λ (r : Bool). leb w.bits (2 ^ k - 1) && r) (h _ _ (omega (arith, c.type_inv.cells w.cell-index)) c.bits_of-bits.ensures))

pub returns : goal.returns
returns g c = λ k test h. gathered-all (c.loop-cell.invariant k test h) (omega arith)
