use Rattle.std.proofs.Common.{◌≡◌, ◌∙◌, ap, ◌<◌, ℕ, List, length, get_or, length-take-le}
use Rattle.std.proofs.lemmas.List.{get_or_default}
use Rattle.lists.specs.Tables.{zeros}
use Rattle.lists.proofs.TableLaws.{take-zeros}
use Rattle.rule.specs.Layout.{most_issues}
use Rattle.run_basket.proofs.AllocateLaws.{allocating-none, usable-asked, order-asked, issues-same, issues-few, fill-asked, write-asked, allocating-more, allocating-all}
use Rattle.matching.specs.declared.Match.{Match}
use Rattle.run_basket.proofs.allocate.Goals as goal

-- the match that the loop is at
item : (plan : List Match) (j : ℕ) (d : Match) → j < length plan → get_or plan j d ≡ get_or plan j (get_or plan j d)
item plan j d h = get_or_default plan j d (get_or plan j d) h

pub loop-m-init : goal.loop-m-init
loop-m-init c = allocating-none _ _ _ _ _ _ _ c.new-order.ensures (length-take-le _ _ (issues-few _ _ _ _ _ _ c.requires))

pub usable_lots-all-requires : goal.usable_lots-all-requires
usable_lots-all-requires c =
    usable-asked _ _ _ _ _ _ c.loop-m.invariant _ c.loop-m-test.true (item _ _ _ c.loop-m-test.true) c.requires

pub order_for-requires : goal.order_for-requires
order_for-requires c =
    order-asked _ _ _ _ _ _ c.loop-m.invariant _ c.loop-m-test.true (item _ _ _ c.loop-m-test.true) c.usable_lots-all.ensures c.requires

pub fill_next-f-requires : goal.fill_next-f-requires
fill_next-f-requires c =
    fill-asked _ _ _ _ _ _ c.loop-m.invariant _ c.loop-m-test.true (item _ _ _ c.loop-m-test.true) c.usable_lots-all.ensures c.order_for.ensures _
    (take-zeros _ most_issues (issues-few _ _ _ _ _ _ c.requires)
    ∙ ap zeros (issues-same _ _ _ _ _ _ c.loop-m.invariant c.requires)) c.requires

pub write_next-requires : goal.write_next-requires
write_next-requires c =
    write-asked _ _ _ _ _ _ c.loop-m.invariant _ c.loop-m-test.true (item _ _ _ c.loop-m-test.true) c.usable_lots-all.ensures c.order_for.ensures c.fill_next-f.ensures c.requires

pub loop-m-preserved : goal.loop-m-preserved
loop-m-preserved c =
    allocating-more _ _ _ _ _ _ c.loop-m.invariant _ c.loop-m-test.true (item _ _ _ c.loop-m-test.true)
    c.usable_lots-all.ensures c.order_for.ensures c.fill_next-f.ensures c.usable_lots-all.auto.usable c.write_next.ensures

pub returns-clause-done : goal.returns-clause-done
returns-clause-done c = allocating-all _ _ _ _ _ _ c.loop-m-test.false c.loop-m.invariant
