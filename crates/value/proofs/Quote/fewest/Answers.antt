-- `value::Quote::fewest` meets its contract: one division. Assumes nothing.
use Rattle.value.proofs.QuoteLaws.{fewest-closed}
use Rattle.value.proofs.Quote.fewest.Goals as goal

pub returns : goal.returns
returns c = λ t q. fewest-closed q _
