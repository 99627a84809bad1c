-- `run::whole::run_baskets` meets its contract. Assumes nothing.
use Rattle.std.proofs.Common.{◌-◌}
use Rattle.rule.specs.Day.{baskets}
use Rattle.run.proofs.RanLaws.{Baskets}
use Rattle.run.proofs.whole.run_baskets.Given as goal

abbrev pub invariant-loop-k : goal.invariant-loop-k
invariant-loop-k l =
    Baskets l.initial.book l.draw l.initial.lists l.book l.orders l.used l.lists l.k

abbrev pub decreases-loop-k : goal.decreases-loop-k
decreases-loop-k l = baskets - l.k
