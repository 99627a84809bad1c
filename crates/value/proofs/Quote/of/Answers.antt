-- `value::Quote::of` meets its contract. Assumes nothing.
use Rattle.std.proofs.Common.{refl}
use Rattle.value.proofs.QuoteLaws.{rate-of}
use Rattle.value.proofs.Quote.of.Goals as goal

pub returns : goal.returns
returns c = rate-of c.requires refl
