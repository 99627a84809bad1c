use Rattle.std.proofs.Common.{sym, arith}
use Rattle.value.proofs.TermLaws.{quotes-none, quotes-more, quotes-all}
use Rattle.value.proofs.Quote.fill.Goals as goal

pub loop-i-init : goal.loop-i-init
loop-i-init c = quotes-none _ (sym c.requires.many)

pub of-requires : goal.of-requires
of-requires c = c.requires.in_range c.loop-i.i c.loop-i-test.true

pub loop-i-preserved : goal.loop-i-preserved
loop-i-preserved c = quotes-more _ c.loop-i.invariant (omega (arith, c.requires.many)) c.of.ensures

pub returns : goal.returns
returns c = quotes-all _ c.loop-i.invariant (omega (arith, c.requires.many))
