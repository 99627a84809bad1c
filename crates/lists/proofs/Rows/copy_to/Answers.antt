use Rattle.std.proofs.Common.{◌≡◌, ℕ, ◌+◌, ◌-◌, ◌*◌, ◌++◌, take, drop, ap, ◌∙◌, arith}
use Rattle.lists.proofs.CopyLaws.{spaced, copied_none, copied_more, copied_all, copied-joined}
use Rattle.lists.proofs.Rows.copy_to.Goals as goal

pub returns-then-self : goal.returns-then-self
returns-then-self c =
    let s = c.args.self.now in
    let z : s.n * s.m ≡ 0 + s.n * s.m - 0 = omega arith in
    let part = c.copy.new.cells in
    ap (λ (k : ℕ). part ++ drop k c.args.cells.now) z
    ∙ copied-joined _ _ _ _ _ _ _ _ (spaced s.there c.requires) c.if-stride-self.true c.if-self.true part (c.copy.ensures ∙ ap (λ (k : ℕ). take k s.cells.now) z)

pub loop-p-init : goal.loop-p-init
loop-p-init c = copied_none _ _ _ _ _ _ _ _ (spaced c.args.self.now.there c.requires)

pub loop-p-preserved : goal.loop-p-preserved
loop-p-preserved c =
    copied_more _ _ _ _ _ _ _ _ (spaced c.args.self.now.there c.requires) c.loop-p-test.true c.loop-p.invariant (omega arith) (omega arith) _ c.copy-in-loop-p.ensures

pub returns : goal.returns
returns c = copied_all _ _ _ _ _ _ _ _ (spaced c.args.self.now.there c.requires) c.loop-p-test.false c.loop-p.invariant
