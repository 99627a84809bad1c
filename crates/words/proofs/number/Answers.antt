-- Bytes that are no text are no number: digits are text.
use Rattle.std.proofs.Common.{rules}
use Rattle.std.proofs.lemmas.Fmt.{IsAscii-from_digits}
use Rattle.std.proofs.lemmas.Str.{IsUtf8-from_ascii}
use Rattle.words.proofs.number.Goals as goal

pub returns-in_err-word : goal.returns-in_err-word
returns-in_err-word c = search (rules, λ (n : _). IsUtf8-from_ascii c.args.word.now (IsAscii-from_digits c.args.word.now n))
