-- Document 01, "A table of worked days": its issues. The days stand in crates/claims. Assumes nothing.
use Rattle.std.specs.Prelude.{ℕ, List, [], ◌∷◌}

-- "issues 0 and 1 are JP0000000018 and JP0000000026"
abbrev pub code0 : List ℕ
code0 = 74 ∷ 80 ∷ 48 ∷ 48 ∷ 48 ∷ 48 ∷ 48 ∷ 48 ∷ 48 ∷ 48 ∷ 49 ∷ 56 ∷ []

abbrev pub code1 : List ℕ
code1 = 74 ∷ 80 ∷ 48 ∷ 48 ∷ 48 ∷ 48 ∷ 48 ∷ 48 ∷ 48 ∷ 48 ∷ 50 ∷ 54 ∷ []

-- JP0000000019
abbrev pub wrong_code : List ℕ
wrong_code = 74 ∷ 80 ∷ 48 ∷ 48 ∷ 48 ∷ 48 ∷ 48 ∷ 48 ∷ 48 ∷ 48 ∷ 49 ∷ 57 ∷ []

-- "kind 2, no marks"
abbrev pub terms : ℕ → ℕ → ℕ → List ℕ
terms price coupon days = 2 ∷ price ∷ coupon ∷ days ∷ 0 ∷ 0 ∷ []
