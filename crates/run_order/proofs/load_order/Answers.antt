-- `run_order::load_order` meets its contract. Assumes nothing.
use Rattle.run_order.proofs.OrderLaws.{rank-asks, all-loaded}
use Rattle.run_order.proofs.load_order.Goals as goal

pub rank_issues-requires : goal.rank_issues-requires
rank_issues-requires c = rank-asks c.requires c.lots-notified.ensures.cells _

pub returns : goal.returns
returns c = all-loaded c.requires c.lots-notified.ensures.cells c.rank_issues.ensures c.own_lots-earlier.ensures.cells _ c.issue_order.ensures
