-- `sound::Book::basket_fits` meets its contract. One pass over the positions, with two sums. Assumes nothing.
use Rattle.sound.proofs.SoundLaws.{Summed}
use Rattle.sound.proofs.Book.basket_fits.Given as goal

abbrev pub invariant-loop-cell : goal.invariant-loop-cell
invariant-loop-cell l = Summed l.limit.most l.cell-items l.owed l.due l.cell-index
