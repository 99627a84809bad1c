-- Words between blanks.
use Rattle.std.specs.Prelude.{◌≡◌, ℕ, List, [], ◌∷◌}
use mathlib.Core.Path.{refl}
use Rattle.words.specs.Words.{words_between}

-- a blank, a tab and the end of a line
abbrev blanks : List ℕ
blanks = 32 ∷ 9 ∷ 13 ∷ []

-- blanks on both sides, and two of them between two words
pub two-words : words_between blanks (9 ∷ 110 ∷ 111 ∷ 32 ∷ 32 ∷ 101 ∷ 110 ∷ 100 ∷ 13 ∷ []) ≡ (110 ∷ 111 ∷ []) ∷ (101 ∷ 110 ∷ 100 ∷ []) ∷ []
two-words = refl

-- blanks alone, and nothing
pub no-words : (words_between blanks (32 ∷ 9 ∷ []) ≡ []) × (words_between blanks [] ≡ [])
no-words = (refl, refl)
