-- `run_basket::allocate` meets its contract. Assumes nothing.
use Rattle.std.proofs.Common.{◌-◌, length}
use Rattle.run_basket.proofs.AllocateLaws.{Allocating}
use Rattle.run_basket.proofs.allocate.Given as goal

abbrev pub invariant-loop-m : goal.invariant-loop-m
invariant-loop-m l =
    Allocating l.basket l.initial.book l.plan l.initial.orders l.initial.used l.initial.lists l.book l.orders l.used l.order.items l.lists l.last l.usable l.m-index

abbrev pub decreases-loop-m : goal.decreases-loop-m
decreases-loop-m l = length l.plan - l.m-index
