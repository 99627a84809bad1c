-- `run_match::Basket::fill_next` meets its contract. Assumes nothing.
use Rattle.run_match.proofs.FillLaws.{fill_is}
use Rattle.run_match.proofs.Basket.fill_next.Goals as goal

pub returns : goal.returns
returns c = fill_is _ _ _ _ c.as_slice.ensures.value c.terms.ensures.cells c.lots.ensures.cells c.fill_match.ensures
