-- `ranges::bits_of_row` meets its contract. A row by fours. Assumes nothing.
use Rattle.std.proofs.Common.{arith}
use Rattle.std.proofs.lemmas.Bool.Decides.{nat_tests}
use Rattle.ranges.proofs.RangeLaws.{ends-are, three-are}
use Rattle.ranges.proofs.bits_of_row.Goals as goal

pub returns-then-row-le8 : goal.returns-then-row-le8
returns-then-row-le8 c =
    ends-are c.args.row.now c.bits_of_four-first.result c.bits_of_four-last.result
    c.bits_of_four-first.ensures c.bits_of_four-last.ensures (grind (arith, nat_tests)) (omega arith)

pub returns : goal.returns
returns c =
    three-are c.args.row.now c.bits_of_four-first.result c.bits_of_four-last.result
    c.bits_of_four-first.ensures c.bits_of_four-last.ensures c.bits_of_four-middle.result c.bits_of_four-middle.ensures (omega arith) (grind (arith, nat_tests))
