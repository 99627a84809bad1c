-- `value::Quote::value` meets its contract: one division. Assumes nothing.
use Rattle.value.proofs.QuoteLaws.{value-closed}
use Rattle.value.proofs.Quote.value.Goals as goal

pub returns : goal.returns
returns c = λ t q. value-closed q _
