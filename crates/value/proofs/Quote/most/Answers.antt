-- `value::Quote::most` meets its contract: one division. Assumes nothing.
use Rattle.value.proofs.QuoteLaws.{most-closed}
use Rattle.value.proofs.Quote.most.Goals as goal

pub returns : goal.returns
returns c = λ t q. most-closed q _
