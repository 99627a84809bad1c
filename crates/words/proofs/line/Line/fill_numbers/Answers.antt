-- One word more: it is a number, there is room for it, and it is pushed.
use Rattle.std.proofs.Common.{◌<◌, [], length, refl, arith}
use Rattle.std.proofs.lemmas.Grind.{common_steps}
use Rattle.std.proofs.lemmas.List.{take_more, map-append}
use Rattle.std.proofs.lemmas.List.Elements.{All-more}
use Rattle.words.specs.Lines.{IsNumber}
use Rattle.words.proofs.line.Line.fill_numbers.Goals as goal

pub push-requires : goal.push-requires
push-requires g c = grind (arith, common_steps)

pub loop-word-preserved : goal.loop-word-preserved
loop-word-preserved g c =
    let lt : c.loop-word.word-index < length c.args.self.now.words.now = omega arith in (
      rw (take_more c.args.self.now.words.now c.loop-word.word-index (record { ref_ptr = (0, 0); now = [] }) lt, map-append, c.push.ensures.items, c.loop-word.invariant.0, c.in_ok-read_number.ensures.read.1) refl,
      All-more (λ word. IsNumber word.now) c.args.self.now.words.now c.loop-word.word-index _ lt c.loop-word.invariant.1 c.in_ok-read_number.ensures.read.0,
    )
