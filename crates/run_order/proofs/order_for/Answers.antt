use Rattle.run_order.proofs.OrderLaws.{not-empty, still-listed, now-listed}
use Rattle.run_order.proofs.order_for.Goals as goal

pub returns : goal.returns
returns c = now-listed c.requires _ c.load_order.ensures

pub returns-then-follows : goal.returns-then-follows
returns-then-follows c = still-listed c.requires _ (not-empty _ _ c.is_empty.ensures c.if-not-is_empty.true) (c.follows.ensures c.if-follows.true)
