-- `value::Quote::fill` meets its contract. Assumes nothing.
use Rattle.value.proofs.TermLaws.{QuotesTo}
use Rattle.value.proofs.Quote.fill.Given as goal

abbrev pub invariant-loop-i : goal.invariant-loop-i
invariant-loop-i l = QuotesTo l.issues l.quotes l.i
