use Rattle.std.proofs.Common.{◌∙◌, ap, sym, arith}
use Rattle.forced.proofs.ChoiceLaws.{fifth-ten, fifth-other, fifth-passed, fifth-all, found, left-begin, left-next, left-inside, left-said, left-kind, left-more}
use Rattle.forced.proofs.fifth_largest.Goals.{then-kind-eq-TEN_YEAR, else-kind-eq-TEN_YEAR}
use Rattle.forced.proofs.fifth_largest.Goals as goal

pub loop-i-init : goal.loop-i-init
loop-i-init c =
    let gives = c.into_iter-i-iterator.ensures.into_iter_gives in
    let back = c.rev-i-items.ensures.source in
    left-begin _ _ (ap (λ it. it.iter.count) gives ∙ ap (λ it. it.count) back ∙ c.enumerate.ensures.count)
    (ap (λ it. it.iter.iter.rest.now) gives ∙ ap (λ it. it.iter.rest.now) back ∙ ap (λ it. it.rest.now) c.enumerate.ensures.source ∙ c.iter.ensures.rest)

pub loop-i-preserved-then-is_eligible : goal.loop-i-preserved-then-is_eligible
loop-i-preserved-then-is_eligible c =
    let v = c.loop-i.invariant in
    let s = c.in-Some.ensures.steps in
    let next = left-next _ _ v _ _ s.0 s.1.0 s.1.1 in
    let inside = left-inside _ _ v _ _ s.0 s.1.0 s.1.1 in
    let said = left-said _ _ v _ _ s.0 s.1.0 s.1.1 c.is_eligible.ensures in
    elim c.if-kind-eq-TEN_YEAR.branch [
      | then-kind-eq-TEN_YEAR w ↦
          let ten = left-kind _ _ v _ _ s.0 s.1.0 s.1.1 ∙ w.if-kind-eq-TEN_YEAR.true in
          rw w.ten-is
          (left-more _ _ v _ _ s.0 s.1.0 s.1.1
          (fifth-ten _ _ next inside v.down said c.if-is_eligible.true ten w.with_issue-ten.ensures c.with_issue-any.ensures))
      | else-kind-eq-TEN_YEAR w ↦
          rw w.ten-is
          (left-more _ _ v _ _ s.0 s.1.0 s.1.1
          (fifth-other _ _ next inside v.down said c.if-is_eligible.true
          (λ e. w.if-kind-eq-TEN_YEAR.false (sym (left-kind _ _ v _ _ s.0 s.1.0 s.1.1) ∙ e)) c.with_issue-any.ensures))
    ]

pub loop-i-preserved : goal.loop-i-preserved
loop-i-preserved c =
    let v = c.loop-i.invariant in
    let s = c.in-Some.ensures.steps in
    let next = left-next _ _ v _ _ s.0 s.1.0 s.1.1 in
    let inside = left-inside _ _ v _ _ s.0 s.1.0 s.1.1 in
    let said = left-said _ _ v _ _ s.0 s.1.0 s.1.1 c.is_eligible.ensures in
    left-more _ _ v _ _ s.0 s.1.0 s.1.1 (fifth-passed _ _ next inside v.down said c.if-is_eligible.false)

pub returns-in-Some-or : goal.returns-in-Some-or
returns-in-Some-or c = λ k q. ap found (sym c.in-Some-or.is ∙ c.or.ensures) ∙ fifth-all _ _ (omega (arith, c.in-None.ensures.steps.1.0)) c.loop-i.invariant.down k q

pub returns-in-None-or : goal.returns-in-None-or
returns-in-None-or c = λ k q. ap found (sym c.in-None-or.is ∙ c.or.ensures) ∙ fifth-all _ _ (omega (arith, c.in-None.ensures.steps.1.0)) c.loop-i.invariant.down k q
