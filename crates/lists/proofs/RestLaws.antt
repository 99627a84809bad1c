-- Laws of what is left of a list: its first is the next of the whole. Assumes nothing.
use mathlib.Core.Path.{◌≡◌, ap, ◌∙◌}
use mathlib.Core.List.{List, ◌∷◌}
use Prim.Native.Nat.{ℕ, ◌+◌, ◌<◌}
use native.Mathlib.Omega.{arith}
use lib.ListN.{length, get_or, drop, length-drop}
use lib.Seq.{get_or-drop, drop-drop}

module _ (xs : List ℕ) (j x : ℕ) (ys : List ℕ) (e : x ∷ ys ≡ drop j xs) where
  pub next-long : j < length xs
  next-long = omega (arith, ap length e, length-drop j xs)

  pub next-is : x ≡ get_or xs j 0
  next-is = let z : j + 0 ≡ j = omega arith in ap (λ (l : List ℕ). get_or l 0 0) e ∙ get_or-drop j xs 0 0 ∙ ap (λ (i : ℕ). get_or xs i 0) z

  pub next-rest : ys ≡ drop (j + 1) xs
  next-rest = ap (drop 1) e ∙ drop-drop 1 j xs
