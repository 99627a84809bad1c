-- `layout::squares` meets its contract. Assumes nothing.
use Rattle.std.proofs.Common.{◌*◌}
use Rattle.lists.proofs.PartLaws.{part-is}
use Rattle.rule.specs.Day.{baskets}
use Rattle.rule.specs.Layout.{square}
use Rattle.layout.proofs.squares.Goals as goal

pub returns-clause-cells : goal.returns-clause-cells
returns-clause-cells c = part-is c.args.book.now c.args.at (square * baskets)
