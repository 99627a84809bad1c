-- The entries of the words so far.
use Rattle.std.proofs.Common.{map, take}
use Rattle.day_words.specs.Named.{AreEntries, codes_in}
use Rattle.day_words.proofs.entry.fill_entries.Given as goal

abbrev pub invariant-loop-word : goal.invariant-loop-word
invariant-loop-word g l = AreEntries (codes_in l.codes.bytes.now) (map (λ word. word.now) (take l.word-index l.line.words.now)) l.issues.items l.lots.items
