use Rattle.std.proofs.Common.{◌≡◌, ℕ, ◌+◌, ◌*◌, ◌&&◌, eqb, get_or, ap, ◌∙◌, arith}
use Rattle.ranges.proofs.ScanLaws.{gathered_none, gathered-more, gathered-all, bits_none}
use Rattle.ranges.proofs.Square.none_on_oneself.Goals as goal

pub loop-p-init : goal.loop-p-init
loop-p-init c = gathered_none _ _

pub loop-p-preserved : goal.loop-p-preserved
loop-p-preserved c =
    let w = c.loop-p in
    let s = c.args.self.now in
    let e : s.stride * w.p + w.p ≡ 0 + s.stride * w.p + w.p = omega arith in
    gathered-more w.invariant (omega arith) (bits_none w.bits (get_or s.marks.now (s.stride * w.p + w.p) 0)
    ∙ ap (λ (j : ℕ). eqb w.bits 0 && eqb (get_or s.marks.now j 0) 0) e)

pub returns : goal.returns
returns c = gathered-all c.loop-p.invariant (omega arith)
