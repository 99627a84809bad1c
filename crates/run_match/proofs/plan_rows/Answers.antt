-- `run_match::plan_rows` meets its contract. Assumes nothing.
use Rattle.std.proofs.Common.{◌∙◌, sym, refl}
use Rattle.lists.proofs.RowLaws.{made-of}
use Rattle.rule.specs.Layout.{plus, minus}
use Rattle.run_match.proofs.PlanLaws.{plan-asks, plan-is}
use Rattle.run_match.proofs.plan_rows.Goals as goal

-- both rows are as long as the positions
pub plan-requires : goal.plan-requires
plan-requires c =
    let r = c.requires in
    let there = c.positions-positions.ensures in
    plan-asks _ _ _ _ _ r there.cells c.marks-pairs.ensures.cells
    (made-of plus _ _ (c.copy_with.auto.cells ∙ sym there.size) c.copy_with.ensures)
    (made-of minus _ _ (c.copy_with-2.auto.cells ∙ r.owned ∙ sym r.owing ∙ sym there.size) c.copy_with-2.ensures)

pub returns : goal.returns
returns c =
    let r = c.requires in
    let there = c.positions-positions.ensures in
    plan-is _ _ _ _ _ r there.cells c.marks-pairs.ensures.cells
    (made-of plus _ _ (c.copy_with.auto.cells ∙ sym there.size) c.copy_with.ensures)
    (made-of minus _ _ (c.copy_with-2.auto.cells ∙ r.owned ∙ sym r.owing ∙ sym there.size) c.copy_with-2.ensures)
    refl c.plan.ensures
