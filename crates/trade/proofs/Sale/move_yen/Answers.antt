-- `trade::Sale::move_yen` meets its contract. Assumes nothing.
use Rattle.std.proofs.Common.{◌≡◌, arith, le-leb}
use Rattle.std.proofs.lemmas.Bool.{lt-leb}
use Rattle.lists.proofs.TestLaws.{said-no, said-yes}
use Rattle.lists.specs.Tables.{cell}
use Rattle.rule.specs.Calls.{trade_checks, afterwards}
use Rattle.rule.specs.Layout.{view}
use Rattle.rule.proofs.AnswerLaws.{refuse, pass, accept, denied, granted}
use Rattle.trade.specs.Checked.{trade_between}
use Rattle.trade.proofs.TradeLaws.{sold-is, bought-is, over, not-over, accepted-trade}
use Rattle.trade.proofs.Sale.move_yen.Goals.{After-owed_of, After-due_of}
use Rattle.trade.proofs.Sale.move_yen.Goals as goal

-- what the seller then owes, and what the buyer is then due
sold : (c : After-owed_of)
    → let a = c.args.self in
    c.owed_of.result ≡ afterwards (cell (view c.args.book.now).state.owed a.basket a.seller) (cell (view c.args.book.now).state.due a.basket a.seller) a.amount.0
sold c =
    let a = c.args.self in
    let r = c.requires in
    sold-is c.args.book.now r.sound a.basket a.seller _ a.amount.0 r.basket r.sells c.position-at_seller.ensures r.most _ _ c.more-sold.ensures c.owed_of.ensures

bought : (c : After-due_of)
    → let a = c.args.self in
    c.due_of.result ≡ afterwards (cell (view c.args.book.now).state.due a.basket a.buyer) (cell (view c.args.book.now).state.owed a.basket a.buyer) a.amount.0
bought c =
    let a = c.args.self in
    let r = c.requires in
    bought-is c.args.book.now r.sound a.basket a.buyer _ a.amount.0 r.basket r.buys c.position-at_buyer.ensures r.most _ _ c.less-bought.ensures c.due_of.ensures

pub returns-then-not-tradable : goal.returns-then-not-tradable
unfolding trade_between trade_checks view
returns-then-not-tradable c =
    refuse 9 _ _ _ _ _ (omega arith) (denied _ (said-no _ _ c.tradable.ensures c.if-not-tradable.true))

pub returns-then-owed_of-gt-POSITION : goal.returns-then-owed_of-gt-POSITION
unfolding trade_between trade_checks view
returns-then-owed_of-gt-POSITION c =
    pass 9 _ _ _ _ _ _ (granted _ (said-yes _ _ c.tradable.ensures c.if-not-tradable.false))
    (refuse 10 _ _ _ _ _ (omega arith) (over _ _ _ (sold (goal.at.returns-then-owed_of-gt-POSITION c).After-owed_of) c.if-owed_of-gt-POSITION.true))

pub returns-then-due_of-gt-POSITION : goal.returns-then-due_of-gt-POSITION
unfolding trade_between trade_checks view
returns-then-due_of-gt-POSITION c =
    let at = goal.at.returns-then-due_of-gt-POSITION c in
    pass 9 _ _ _ _ _ _ (granted _ (said-yes _ _ c.tradable.ensures c.if-not-tradable.false))
    (pass 10 _ _ _ _ _ _ (not-over _ _ _ (sold at.After-owed_of) c.if-owed_of-gt-POSITION.false)
    (refuse 10 _ _ _ _ _ (omega arith) (over _ _ _ (bought at.After-due_of) c.if-due_of-gt-POSITION.true)))

pub returns-then-trades-ge-TRADES : goal.returns-then-trades-ge-TRADES
unfolding trade_between trade_checks view
returns-then-trades-ge-TRADES c =
    let at = goal.at.returns-then-trades-ge-TRADES c in
    pass 9 _ _ _ _ _ _ (granted _ (said-yes _ _ c.tradable.ensures c.if-not-tradable.false))
    (pass 10 _ _ _ _ _ _ (not-over _ _ _ (sold at.After-owed_of) c.if-owed_of-gt-POSITION.false)
    (pass 10 _ _ _ _ _ _ (not-over _ _ _ (bought at.After-due_of) c.if-due_of-gt-POSITION.false)
    (refuse 11 _ _ _ _ _ (omega arith) (le-leb _ _ c.if-trades-ge-TRADES.true))))

pub returns : goal.returns
unfolding trade_between trade_checks view
returns c =
    let a = c.args.self in
    let r = c.requires in
    let at = goal.at.returns c in
    let s = sold at.After-owed_of in
    let p = bought at.After-due_of in
    let made = accepted-trade c.args.book.now a.seller a.buyer a.basket a.amount.0 r _ _ _ _ _ _ c.more-sold.ensures c.less-bought.ensures c.position-at_seller.ensures c.position-at_buyer.ensures
    (said-yes _ _ c.tradable.ensures c.if-not-tradable.false) s c.if-owed_of-gt-POSITION.false p c.if-due_of-gt-POSITION.false c.if-trades-ge-TRADES.false in
    pass 9 _ _ _ _ _ _ (granted _ (said-yes _ _ c.tradable.ensures c.if-not-tradable.false))
    (pass 10 _ _ _ _ _ _ (not-over _ _ _ s c.if-owed_of-gt-POSITION.false)
    (pass 10 _ _ _ _ _ _ (not-over _ _ _ p c.if-due_of-gt-POSITION.false)
    (pass 11 _ _ _ _ _ _ (lt-leb _ _ c.if-trades-ge-TRADES.false) (accept _ _ _ _ made))))
