-- `value::Quote::least` meets its contract. Assumes nothing.
use Rattle.value.proofs.QuoteLaws.{least-below}
use Rattle.value.proofs.Quote.least.Goals as goal

pub returns : goal.returns
returns c = λ t q n. least-below q n _
