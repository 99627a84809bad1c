-- `sound::Book::state_fits` meets its contract. Six tests in a row. Assumes nothing.
use Rattle.std.proofs.Common.{arith, refl}
use Rattle.std.proofs.lemmas.Grind.{common_steps}
use Rattle.sound.proofs.WholeLaws.{state_is}
use Rattle.sound.proofs.Book.state_fits.Goals as goal

pub returns-then-tally_fits : goal.returns-then-tally_fits
returns-then-tally_fits c =
    let s = c.args.self.now in
    grind (arith, common_steps, state_is s.cells.now s.participants s.issues s.participants_are s.issues_are _ _ _ refl c.while_runs-lots.ensures c.while_runs.ensures)

pub returns-else-tally_fits : goal.returns-else-tally_fits
returns-else-tally_fits c =
    let s = c.args.self.now in
    grind (arith, common_steps, state_is s.cells.now s.participants s.issues s.participants_are s.issues_are _ _ _ refl c.while_runs-lots.ensures c.while_runs.ensures)

pub returns-then-runs-gt3 : goal.returns-then-runs-gt3
returns-then-runs-gt3 c =
    let s = c.args.self.now in grind (arith, common_steps, state_is s.cells.now s.participants s.issues s.participants_are s.issues_are _ _ _ refl refl refl)
