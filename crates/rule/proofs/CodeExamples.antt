-- Examples of the code rule: public ISINs, and codes that break it in one place. By computation. Assumes nothing.
use mathlib.Core.Path.{◌≡◌, refl}
use Prim.Native.Nat.{ℕ}
use mathlib.Core.Bool.{true, false}
use mathlib.Core.List.{List, [], ◌∷◌, ◌++◌, map}
use lib.ListN.{set}
use Rattle.rule.specs.Isin.{digit, capital, spread, is_isin, is_code, codes_right}
use Rattle.rule.proofs.NumberRule.{number_rule}

-- US0378331005, AU0000XVGZA3 and GB0002634946
abbrev us : List ℕ
us = 85 ∷ 83 ∷ 48 ∷ 51 ∷ 55 ∷ 56 ∷ 51 ∷ 51 ∷ 49 ∷ 48 ∷ 48 ∷ 53 ∷ []

abbrev au : List ℕ
au = 65 ∷ 85 ∷ 48 ∷ 48 ∷ 48 ∷ 48 ∷ 88 ∷ 86 ∷ 71 ∷ 90 ∷ 65 ∷ 51 ∷ []

abbrev gb : List ℕ
gb = 71 ∷ 66 ∷ 48 ∷ 48 ∷ 48 ∷ 50 ∷ 54 ∷ 51 ∷ 52 ∷ 57 ∷ 52 ∷ 54 ∷ []

-- JP00000000 with two more bytes
abbrev japan : ℕ → ℕ → List ℕ
japan c last = 74 ∷ 80 ∷ 48 ∷ 48 ∷ 48 ∷ 48 ∷ 48 ∷ 48 ∷ 48 ∷ 48 ∷ c ∷ last ∷ []

-- JP0000000109
abbrev ten : List ℕ
ten = 74 ∷ 80 ∷ 48 ∷ 48 ∷ 48 ∷ 48 ∷ 48 ∷ 48 ∷ 48 ∷ 49 ∷ 48 ∷ 57 ∷ []

record Codes : Type 0 where
  isins : map is_isin (us ∷ au ∷ gb ∷ []) ≡ true ∷ true ∷ true ∷ []
  -- the first two bytes of an ISIN are capitals: not 1S0378331000, not U10378331009
  country : map is_isin (set (set us 0 49) 11 48 ∷ set (set us 1 49) 11 57 ∷ []) ≡ false ∷ false ∷ []
  -- "the first two bytes of a code are JP": not US, JQ0000000017, KP0000000015
  japanese : map is_code (japan 49 56 ∷ us ∷ (74 ∷ 81 ∷ 48 ∷ 48 ∷ 48 ∷ 48 ∷ 48 ∷ 48 ∷ 48 ∷ 48 ∷ 49 ∷ 55 ∷ []) ∷ (75 ∷ 80 ∷ 48 ∷ 48 ∷ 48 ∷ 48 ∷ 48 ∷ 48 ∷ 48 ∷ 48 ∷ 49 ∷ 53 ∷ []) ∷ [])
      ≡ true ∷ false ∷ false ∷ false ∷ []
  -- "12 bytes": one more, one fewer
  twelve : map is_code ((japan 49 56 ++ (48 ∷ [])) ∷ (74 ∷ 80 ∷ 48 ∷ 48 ∷ 48 ∷ 48 ∷ 48 ∷ 48 ∷ 48 ∷ 48 ∷ 48 ∷ []) ∷ []) ≡ false ∷ false ∷ []
  -- "nine are digits or capitals": the bytes before and after each, and a small letter
  digits : map digit (47 ∷ 48 ∷ 57 ∷ 58 ∷ []) ≡ false ∷ true ∷ true ∷ false ∷ []
  capitals : map capital (64 ∷ 65 ∷ 90 ∷ 91 ∷ 97 ∷ []) ≡ false ∷ true ∷ true ∷ false ∷ false ∷ []
  -- the byte before 0 in the first and in the last of the nine, with the check digits that it would have as a digit and as a capital
  nine : map is_code (set (japan 48 48) 2 47 ∷ japan 47 48 ∷ set (japan 48 55) 2 47 ∷ japan 47 55 ∷ []) ≡ false ∷ false ∷ false ∷ false ∷ []
  -- A is 10 and Z is 35
  letters : spread (65 ∷ 90 ∷ 49 ∷ []) ≡ 1 ∷ 0 ∷ 3 ∷ 5 ∷ 1 ∷ []
  -- "the last is the ISO 6166 check digit": of JP000000000 it is 0; no capital and no other digit will do
  check : map (λ last. is_code (japan 48 last)) (48 ∷ 49 ∷ 58 ∷ 65 ∷ []) ≡ true ∷ false ∷ false ∷ false ∷ []
  -- "Codes rise strictly", the last two too, by the first byte in which they differ: JP0000000026 stands before JP0000000109
  rise : map codes_right ((japan 49 56 ∷ japan 50 54 ∷ ten ∷ []) ∷ (japan 49 56 ∷ ten ∷ japan 50 54 ∷ []) ∷ (ten ∷ japan 50 54 ∷ []) ∷ (ten ∷ ten ∷ []) ∷ [])
      ≡ true ∷ false ∷ false ∷ false ∷ []
  -- each of the codes is looked at
  each : map codes_right ((japan 49 56 ∷ japan 50 55 ∷ []) ∷ (japan 49 57 ∷ japan 50 54 ∷ []) ∷ []) ≡ false ∷ false ∷ []

codes : Codes
unfolding number_rule
codes = record {
  isins = refl;
  country = refl;
  japanese = refl;
  twelve = refl;
  digits = refl;
  capitals = refl;
  nine = refl;
  letters = refl;
  check = refl;
  rise = refl;
  each = refl;
}
