-- `forced::with_notified` meets its contract. Assumes nothing.
use Rattle.std.proofs.Common.{◌<◌, ◌∷◌, Bool, arith, subst, sym, ◌∙◌}
use Rattle.lists.specs.Tests.{pick}
use Rattle.rule.specs.Day.{terms_of, marks_of}
use Rattle.quantities.proofs.OrderLaws.{ge_yes, ge_no}
use Rattle.forced.specs.Choice.{takes, BestAt, BestOf}
use Rattle.forced.proofs.ChoiceLaws.{best-kept, best-met}
use Rattle.forced.proofs.with_notified.Goals.{else-ge-via-then-ge+else-is_eligible, else-ge-via-else-ge}
use Rattle.forced.proofs.with_notified.Goals as goal

pub returns-then-is_eligible : goal.returns-then-is_eligible
returns-then-is_eligible c = λ k n l q e h.
    let x = c.args in
    subst (λ (b : Bool). (0 < x.notified.0) × BestAt n (pick b (x.i ∷ l) l) x.notified.0 x.i)
    (sym (sym (c.is_eligible.ensures k q) ∙ c.if-is_eligible.true))
    (best-met n l x.i x.best h (omega (arith, c.least.ensures, ge_yes x.notified.0 c.least.result.0 c.ge.ensures c.if-ge.true)) e)

pub returns : goal.returns
returns c = λ k n l q e h.
    let x = c.args in
    elim c.else-ge.branch [
      | else-ge-via-then-ge+else-is_eligible w ↦
          subst (λ (b : Bool). BestOf n (pick b (x.i ∷ l) l) x.best) (sym (sym (w.is_eligible.ensures k q) ∙ w.if-is_eligible.false)) h
      | else-ge-via-else-ge w ↦
          best-kept n l x.i x.best h (omega (arith, e, c.least.ensures, ge_no x.notified.0 c.least.result.0 c.ge.ensures w.if-ge.false)) (takes k (terms_of x.issue.now) (marks_of x.issue.now))
    ]
