-- `filling::Supply::fill` meets its contract. Assumes nothing.
use Rattle.filling.specs.Supply.{supply_terms}
use Rattle.filling.proofs.WalkLaws.{AtPass, InPass}
use Rattle.filling.proofs.Supply.fill.Given as goal

abbrev pub invariant-loop-issue : goal.invariant-loop-issue
invariant-loop-issue l = InPass l.preferential (supply_terms l.self) l.self.usable.now l.self.order.now l.amount.0 l.pass l.issue-index l.lots l.reached.0

abbrev pub invariant-passes : goal.invariant-passes
invariant-passes l = AtPass l.preferential (supply_terms l.self) l.self.usable.now l.self.order.now l.amount.0 l.pass-index l.lots l.reached.0
