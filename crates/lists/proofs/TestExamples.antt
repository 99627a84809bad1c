-- Examples of the tests, by computation, where no law would refuse another meaning. Assumes nothing.
use mathlib.Core.Path.{◌≡◌, refl}
use mathlib.Core.Bool.{true, false}
use mathlib.Core.List.{[], ◌∷◌, map}
use Rattle.lists.specs.Tests.{same}

-- a list is the same as itself, and not as its beginning, as one that it begins, or as another of its length
sames : map (same (7 ∷ 8 ∷ [])) ((7 ∷ 8 ∷ []) ∷ (7 ∷ []) ∷ (7 ∷ 8 ∷ 9 ∷ []) ∷ (7 ∷ 9 ∷ []) ∷ []) ≡ true ∷ false ∷ false ∷ false ∷ []
unfolding same
sames = refl
