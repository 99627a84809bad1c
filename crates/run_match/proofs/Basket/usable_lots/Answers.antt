-- `run_match::Basket::usable_lots` meets its contract. Assumes nothing.
use Rattle.run_match.proofs.FillLaws.{usable-asks, usable-are}
use Rattle.run_match.proofs.Basket.usable_lots.Goals as goal

pub usable_row-requires : goal.usable_row-requires
usable_row-requires c = usable-asks c.requires c.own_lots.ensures.cells c.own_lots-2.ensures.cells

pub returns : goal.returns
returns c = usable-are c.requires c.own_lots.ensures.cells c.own_lots-2.ensures.cells c.usable_row.ensures
