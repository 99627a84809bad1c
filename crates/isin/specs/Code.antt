-- Parts of the code rule. Assumes nothing.
use Rattle.std.specs.Prelude.{ℕ, Bool, List, [], ◌∷◌, take}
use Rattle.lists.specs.Tests.{same}

-- "the first two bytes of a code are JP"
abbrev pub of_japan : List ℕ → Bool
of_japan c = same (take 2 c) (74 ∷ 80 ∷ [])
