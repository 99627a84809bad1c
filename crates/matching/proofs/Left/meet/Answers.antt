use Rattle.std.proofs.Common.{arith, refl}
use Rattle.matching.proofs.MeetLaws.{nothing-met, room-to-meet, one-met}
use Rattle.matching.proofs.Left.meet.Goals as goal

pub returns-then-amount-eq0-clause-left : goal.returns-then-amount-eq0-clause-left
returns-then-amount-eq0-clause-left c =
    let s = c.args.self.now in
    nothing-met c.args.preferential s.owed.now s.due.now s.made.now.items c.args.d c.args.r _ c.min-amount.ensures c.if-amount-eq0.true

pub push-requires : goal.push-requires
push-requires c =
    let s = c.args.self.now in
    (omega arith, room-to-meet c.args.preferential s.owed.now s.due.now s.made.now.items c.args.d c.args.r _ c.min-amount.ensures c.requires.room c.if-amount-eq0.false)

pub returns-clause-left : goal.returns-clause-left
returns-clause-left c =
    let s = c.args.self.now in
    rw c.push.ensures.items
    (one-met c.args.preferential s.owed.now s.due.now s.made.now.items c.args.d c.args.r _ c.min-amount.ensures _ refl c.if-amount-eq0.false)
