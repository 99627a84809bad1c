-- One word more: it is a number, and its number is pushed.
use Rattle.std.proofs.Common.{arith}
use Rattle.std.proofs.lemmas.Grind.{common_steps}
use Rattle.std.proofs.lemmas.List.Elements.{All-more}
use Rattle.words.specs.Lines.{IsNumber}
use Rattle.words.proofs.line.Line.numbers.Goals as goal

pub loop-word-preserved : goal.loop-word-preserved
loop-word-preserved c = (
  grind (arith, common_steps, c.in_ok-read_number.ensures.read.1),
  All-more (λ word. IsNumber word.now) c.args.self.now.words.now c.loop-word.word-index _ (omega arith) c.loop-word.invariant.1 c.in_ok-read_number.ensures.read.0,
)
