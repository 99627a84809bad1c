-- `trade::Sale::enter` meets its contract. Assumes nothing.
use Rattle.std.proofs.Common.{◌≡◌, ◌≢◌, ◌≤◌, ◌<◌, rules}
use Rattle.rule.specs.Calls.{trade_checks}
use Rattle.rule.specs.Layout.{view}
use Rattle.rule.proofs.AnswerLaws.{answers}
use Rattle.quantities.proofs.OrderLaws.{eq_yes, eq_no, gt-yes, gt-no}
use Rattle.trade.specs.Checked.{trade_sound, trade_between}
use Rattle.trade.proofs.Sale.enter.Goals as goal

pub returns-then-book-ge3 : goal.returns-then-book-ge3
unfolding trade_sound trade_between trade_checks view
returns-then-book-ge3 c = search (answers, rules) depth 24

pub returns-then-self-participants : goal.returns-then-self-participants
unfolding trade_sound trade_between trade_checks view
returns-then-self-participants c = search (answers, rules) depth 24

pub returns-then-self-participants-2 : goal.returns-then-self-participants-2
unfolding trade_sound trade_between trade_checks view
returns-then-self-participants-2 c = search (answers, rules) depth 24

pub returns-then-self : goal.returns-then-self
unfolding trade_sound trade_between trade_checks view
returns-then-self c = search (answers, rules) depth 24

pub returns-then-self-2 : goal.returns-then-self-2
unfolding trade_sound trade_between trade_checks view
returns-then-self-2 c = search (answers, rules) depth 24

pub returns-then-eq : goal.returns-then-eq
unfolding trade_sound trade_between trade_checks view
returns-then-eq c = let none : c.args.self.amount.0 ≡ 0 = eq_yes _ _ c.eq.ensures c.if-eq.true in search (answers, rules) depth 24

pub returns-then-gt : goal.returns-then-gt
unfolding trade_sound trade_between trade_checks view
returns-then-gt c =
    let some : c.args.self.amount.0 ≢ 0 = eq_no _ _ c.eq.ensures c.if-eq.false in
    let many : 1000000000000 < c.args.self.amount.0 = gt-yes _ _ c.gt.ensures c.if-gt.true in
    search (answers, rules) depth 24

pub returns : goal.returns
unfolding trade_sound trade_between trade_checks view
returns c =
    let some : c.args.self.amount.0 ≢ 0 = eq_no _ _ c.eq.ensures c.if-eq.false in
    let most : c.args.self.amount.0 ≤ 1000000000000 = gt-no _ _ c.gt.ensures c.if-gt.false in
    search (answers, rules) depth 24

pub move_yen-requires : goal.move_yen-requires
move_yen-requires c = let most : c.args.self.amount.0 ≤ 1000000000000 = gt-no _ _ c.gt.ensures c.if-gt.false in search rules
