-- The numbers so far are those of the words so far, which are all numbers.
use Rattle.std.proofs.Common.{◌≡◌, map, take}
use Rattle.std.specs.List.{All}
use Rattle.std.specs.Str.Parse.{digits_value}
use Rattle.words.specs.Lines.{IsNumber}
use Rattle.words.proofs.line.Line.fill_numbers.Given as goal

abbrev pub invariant-loop-word : goal.invariant-loop-word
invariant-loop-word g l = (l.numbers.items ≡ map (λ word. digits_value 10 word.now) (take l.word-index l.self.words.now))
    × All (λ word. IsNumber word.now) (take l.word-index l.self.words.now)
