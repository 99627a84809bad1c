-- `sound::is_sound` meets its contract. Four tests in a row. Assumes nothing.
use Rattle.std.proofs.Common.{arith}
use Rattle.std.proofs.lemmas.Grind.{common_steps}
use Rattle.lists.proofs.TestLaws.{said-yes}
use Rattle.sound.proofs.WholeLaws.{sound_is, sized}
use Rattle.sound.proofs.is_sound.Goals as goal

pub returns-then-book-ne-LENGTH : goal.returns-then-book-ne-LENGTH
returns-then-book-ne-LENGTH c = grind (arith, common_steps, sound_is c.args.book.now)

pub invariant_of-book-clause-sized : goal.invariant_of-book-clause-sized
invariant_of-book-clause-sized c = sized _ c.if-book-ne-LENGTH.false (said-yes _ _ c.sizes_fit.ensures c.if-not-sizes_fit.false)

pub returns-then-given_fits : goal.returns-then-given_fits
returns-then-given_fits c = grind (arith, common_steps, sound_is c.args.book.now)

pub returns-else-given_fits : goal.returns-else-given_fits
returns-else-given_fits c = grind (arith, common_steps, sound_is c.args.book.now)
