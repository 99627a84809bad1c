-- There is a byte for each cell, and the bytes so far are those of the cells so far.
use Rattle.std.proofs.Common.{◌≡◌, ◌%◌, length, map, take}
use Rattle.day_words.proofs.codes.codes_of.Given as goal

abbrev pub invariant-loop-i : goal.invariant-loop-i
invariant-loop-i l = (length l.bytes ≡ length l.cells) × (take l.i l.bytes ≡ map (λ cell. cell % 256) (take l.i l.cells))
