-- `filling::Supply::force` meets its contract: the issue is the rule's, and one of the day's. Assumes nothing.
use Rattle.std.proofs.Common.{◌<◌, length, arith, refl}
use Rattle.filling.proofs.MatchLaws.{forced-below, forced-part, force-filled}
use Rattle.filling.proofs.Supply.force.Goals.{After-forced_issue-i}
use Rattle.filling.proofs.Supply.force.Goals as goal

below : (c : After-forced_issue-i) → c.forced_issue-i.result < length c.args.self.now.usable.now
below c = forced-below c.args.self.now.supplied c.args.basket c.forced_issue-i.ensures

pub bounds-self-i : goal.bounds-self-i
bounds-self-i c = omega (arith, below (goal.at.bounds-self-i c).After-forced_issue-i, c.args.self.now.supplied.quotes_there)

pub offset_bounds-self-i : goal.offset_bounds-self-i
offset_bounds-self-i c = omega (arith, below (goal.at.offset_bounds-self-i c).After-forced_issue-i, c.args.self.now.supplied.issues_most)

pub offset_bounds-self-i-2 : goal.offset_bounds-self-i-2
offset_bounds-self-i-2 c = omega (arith, below (goal.at.offset_bounds-self-i-2 c).After-forced_issue-i, c.args.self.now.supplied.issues_most)

pub bounds-self-i-2 : goal.bounds-self-i-2
bounds-self-i-2 c = below (goal.at.bounds-self-i-2 c).After-forced_issue-i

pub invariant_of-standing : goal.invariant_of-standing
invariant_of-standing c =
    record {
      part = forced-part c.args.self.now.supplied c.args.basket (goal.at.invariant_of-standing c).After-forced_issue-i.forced_issue-i.ensures _
          (omega (arith, c.requires.below, c.requires.amount_most));
    }

pub returns : goal.returns
returns c =
    force-filled c.args.self.now.supplied c.args.basket (goal.at.returns c).After-forced_issue-i.forced_issue-i.ensures _ c.further_lots-further.ensures c.copy_from_slice.ensures.after refl refl refl
