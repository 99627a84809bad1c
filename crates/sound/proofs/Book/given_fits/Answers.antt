-- `sound::Book::given_fits` meets its contract. Four tests in a row. Assumes nothing.
use Rattle.std.proofs.Common.{arith}
use Rattle.std.proofs.lemmas.Grind.{common_steps}
use Rattle.sound.proofs.WholeLaws.{given_is}
use Rattle.sound.proofs.Book.given_fits.Goals as goal

pub returns-then-lots_at_most : goal.returns-then-lots_at_most
returns-then-lots_at_most c = let s = c.args.self.now in grind (arith, common_steps, given_is s.cells.now s.participants s.issues s.participants_are s.issues_are)

pub returns-else-lots_at_most : goal.returns-else-lots_at_most
returns-else-lots_at_most c = let s = c.args.self.now in grind (arith, common_steps, given_is s.cells.now s.participants s.issues s.participants_are s.issues_are)
