-- `filling::Supply::fill_match` meets its contract. Assumes nothing.
use Rattle.std.proofs.Common.{arith, refl, rules}
use Rattle.filling.specs.Supply.{supply_terms}
use Rattle.quantities.proofs.OrderLaws.{lt-yes}
use Rattle.filling.proofs.MatchLaws.{row-places, carried, carry-filled, third-short, otherwise}
use Rattle.filling.proofs.Supply.fill_match.Goals as goal

pub force-requires : goal.force-requires
force-requires c = record { below = lt-yes _ _ c.lt.ensures c.if-lt.true; amount_most = c.requires.amount_most; row = row-places c.requires }

pub returns-then-lt : goal.returns-then-lt
returns-then-lt c =
    let s = c.args.self.now in
    rw (third-short _ (supply_terms s) _ _ _ _ s.supplied.all_is c.args.runs (omega arith) (lt-yes _ _ c.lt.ensures c.if-lt.true)) c.force.ensures

pub fill-requires : goal.fill-requires
fill-requires c = carried _ c.requires c.covered-part.ensures

pub returns : goal.returns
returns c =
    let s = c.args.self.now in
    rw (otherwise _ (supply_terms s) _ _ _ c.args.amount.0 s.supplied.all_is c.args.runs (search rules))
    (carry-filled _ _ _ _ _ s.supplied.all_is c.covered-part.ensures c.fill.ensures refl refl refl)
