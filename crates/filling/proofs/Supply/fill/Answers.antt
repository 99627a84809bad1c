use Rattle.std.proofs.Common.{refl}
use Rattle.quantities.proofs.OrderLaws.{eq_yes, eq_no, le-yes, le-no}
use Rattle.filling.proofs.MatchLaws.{fill-nothing}
use Rattle.filling.proofs.WalkLaws.{begin, enter, leave, done, ready, on, passed, out}
use Rattle.filling.proofs.Supply.fill.Goals as goal

pub returns-then-eq : goal.returns-then-eq
returns-then-eq c = fill-nothing c.requires (eq_yes _ _ c.eq.ensures c.if-eq.true) _ _ _ _ refl

pub passes-init : goal.passes-init
passes-init c = begin c.args.self.now.supplied (eq_no _ _ c.eq.ensures c.if-eq.false) c.requires

pub loop-issue-init : goal.loop-issue-init
loop-issue-init c = enter c.args.self.now.supplied c.passes_of-pass-items.ensures c.passes-test.true c.passes.invariant

pub take_turn-requires : goal.take_turn-requires
take_turn-requires c = ready c.args.self.now.supplied c.loop-issue.invariant c.loop-issue-test.true c.requires.amount_most

pub loop-issue-preserved-in_default : goal.loop-issue-preserved-in_default
loop-issue-preserved-in_default c = passed c.args.self.now.supplied c.loop-issue.invariant c.loop-issue-test.true c.take_turn.result c.in_default.is c.take_turn.ensures

pub loop-issue-preserved : goal.loop-issue-preserved
loop-issue-preserved c = on c.args.self.now.supplied c.loop-issue.invariant c.loop-issue-test.true c.in-Some.ensures (le-no _ _ c.le.ensures c.if-le.false)

pub passes-preserved : goal.passes-preserved
passes-preserved c = leave c.args.self.now.supplied c.passes_of-pass-items.ensures c.passes-test.true c.loop-issue-test.false c.loop-issue.invariant

pub returns-after-passes : goal.returns-after-passes
returns-after-passes c = done c.args.self.now.supplied c.passes_of-pass-items.ensures c.passes-test.false c.passes.invariant

pub returns-then-le : goal.returns-then-le
returns-then-le c = out c.args.self.now.supplied c.loop-issue.invariant c.loop-issue-test.true c.in-Some.ensures (le-yes _ _ c.le.ensures c.if-le.true)
