use Rattle.std.proofs.Common.{rules}
use Rattle.matching.proofs.PlanLaws.{plan-asks, rest-asks, plan-done}
use Rattle.matching.proofs.plan.Goals as goal

pub meet_preferential-requires : goal.meet_preferential-requires
meet_preferential-requires c = plan-asks _ _ c.args.draw.now _ c.requires c.clear.ensures

pub turns-requires : goal.turns-requires
turns-requires c = rest-asks _ _ _ _ c.requires c.meet_preferential.ensures.left c.meet_preferential.ensures.same

pub returns : goal.returns
returns c = plan-done _ _ _ _ c.requires c.meet_preferential.ensures.left c.meet_preferential.ensures.same c.turns.new.self c.turns.ensures.left (search rules)
