-- The words of a text: its parts between blanks that are not empty. Assumes nothing.
use Rattle.std.specs.Prelude.{List, ℕ, not, ◌==◌, length}
use Rattle.std.specs.List.{filter, list_any, slice_split}

abbrev pub words_between : List ℕ → List ℕ → List (List ℕ)
words_between blanks text = filter (λ word. not (length word == 0)) (slice_split (λ b. list_any (λ blank. blank == b) blanks) text)
