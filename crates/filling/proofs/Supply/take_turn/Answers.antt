-- `filling::Supply::take_turn` meets its contract. Assumes nothing.
use Rattle.std.proofs.Common.{ℕ, set, ap}
use Rattle.filling.proofs.Supply.take_turn.Goals as goal

pub invariant_of-standing : goal.invariant_of-standing
invariant_of-standing c = record { part = c.requires.part _ }

pub returns : goal.returns
returns c = λ t a.
    let turned = c.in-Some.ensures t (a.quoted _) in
    record { cells = ap (λ (n : ℕ). set c.args.lots.now c.args.i n) turned.lots; worth = turned.worth }
