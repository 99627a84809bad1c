-- What is told of each byte is told of the digits as `parse` reads them.
use Rattle.std.proofs.Common.{rules}
use Rattle.std.proofs.lemmas.Str.Parse.{numerals_by_value, tells_by_index}
use Rattle.words.proofs.line.is_numeral.Goals as goal

pub returns-then-not-is_empty : goal.returns-then-not-is_empty
returns-then-not-is_empty c =
    let own = numerals_by_value _ tells_by_index in
    (λ t. (search rules, own.to c.args.word.now (c.are_digits.ensures.0 t)), λ n. c.are_digits.ensures.1 (own.from c.args.word.now n.1))
