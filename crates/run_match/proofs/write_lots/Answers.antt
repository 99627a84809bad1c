-- `run_match::write_lots` meets its contract. Assumes nothing.
use Rattle.run_match.proofs.WriteLaws.{lots-written}
use Rattle.run_match.proofs.write_lots.Goals as goal

pub returns : goal.returns
returns c = lots-written c.requires c.row_start-at.ensures c.row_start.ensures c.write_issues.ensures
