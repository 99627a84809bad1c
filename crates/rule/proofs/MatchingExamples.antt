-- Examples of matching, each worked out by hand. By computation. Assumes nothing.
use mathlib.Core.Path.{◌≡◌, refl}
use Prim.Native.Nat.{ℕ}
use mathlib.Core.Bool.{true, false}
use mathlib.Core.List.{List, [], ◌∷◌, map}
use Rattle.rule.specs.Matching.{Match, plan}
use Rattle.rule.proofs.NumberRule.{number_rule}

-- deliverer, receiver and amount, in the order of filling
abbrev amounts : List Match → List (List ℕ)
amounts ms = map (λ m. m.deliverer ∷ m.receiver ∷ m.amount ∷ []) ms

record Matchings : Type 0 where
  -- equal positions: smaller number first; a deliverer's matches by larger amount
  ties : amounts (plan 1 [] (3 ∷ 2 ∷ 1 ∷ 0 ∷ []) (5 ∷ 5 ∷ 0 ∷ 0 ∷ []) (0 ∷ 0 ∷ 8 ∷ 2 ∷ [])) ≡ (0 ∷ 2 ∷ 3 ∷ []) ∷ (0 ∷ 3 ∷ 2 ∷ []) ∷ (1 ∷ 2 ∷ 5 ∷ []) ∷ []
  -- yesterday's pair of 0 and 2 comes first in run 1, and not in run 2
  pairs : amounts (plan 0 ((0 ∷ 0 ∷ 1 ∷ []) ∷ (0 ∷ 0 ∷ 0 ∷ []) ∷ (0 ∷ 1 ∷ 0 ∷ []) ∷ []) (0 ∷ 1 ∷ 2 ∷ []) (3 ∷ 9 ∷ 0 ∷ []) (0 ∷ 0 ∷ 12 ∷ []))
      ≡ (0 ∷ 2 ∷ 3 ∷ []) ∷ (1 ∷ 2 ∷ 9 ∷ []) ∷ []
  no_pairs : amounts (plan 1 ((0 ∷ 0 ∷ 1 ∷ []) ∷ (0 ∷ 0 ∷ 0 ∷ []) ∷ (0 ∷ 1 ∷ 0 ∷ []) ∷ []) (0 ∷ 1 ∷ 2 ∷ []) (3 ∷ 9 ∷ 0 ∷ []) (0 ∷ 0 ∷ 12 ∷ []))
      ≡ (1 ∷ 2 ∷ 9 ∷ []) ∷ (0 ∷ 2 ∷ 3 ∷ []) ∷ []
  -- "yesterday's pairs .. by deliverer number, then receiver number", not by amount: 0 and 3 for 2, 1 and 2 for 5
  pairs_by_deliverer : amounts (plan 0 ((0 ∷ 0 ∷ 0 ∷ 1 ∷ []) ∷ (0 ∷ 0 ∷ 1 ∷ 0 ∷ []) ∷ []) (0 ∷ 1 ∷ 2 ∷ 3 ∷ []) (2 ∷ 5 ∷ 0 ∷ 0 ∷ []) (0 ∷ 0 ∷ 5 ∷ 2 ∷ []))
      ≡ (0 ∷ 3 ∷ 2 ∷ []) ∷ (1 ∷ 2 ∷ 5 ∷ []) ∷ []
  pairs_by_receiver : amounts (plan 0 ((0 ∷ 1 ∷ 1 ∷ []) ∷ []) (2 ∷ 1 ∷ 0 ∷ []) (7 ∷ 0 ∷ 0 ∷ []) (0 ∷ 2 ∷ 5 ∷ [])) ≡ (0 ∷ 1 ∷ 2 ∷ []) ∷ (0 ∷ 2 ∷ 5 ∷ []) ∷ []
  -- "each for the smaller of the two positions left": 9 and 4, then 5 and 6
  pairs_left : amounts (plan 0 ((0 ∷ 1 ∷ 1 ∷ []) ∷ []) (0 ∷ 1 ∷ 2 ∷ []) (9 ∷ 0 ∷ 0 ∷ []) (0 ∷ 4 ∷ 6 ∷ [])) ≡ (0 ∷ 1 ∷ 4 ∷ []) ∷ (0 ∷ 2 ∷ 5 ∷ []) ∷ []
  -- "a pair is passed over unless its deliverer's position is positive and its receiver's negative": 1 is no deliverer, 0 no receiver
  passed_over : amounts (plan 0 ((0 ∷ 0 ∷ []) ∷ (1 ∷ 0 ∷ []) ∷ []) (0 ∷ 1 ∷ []) (3 ∷ 0 ∷ []) (0 ∷ 3 ∷ [])) ≡ (0 ∷ 1 ∷ 3 ∷ []) ∷ []
  -- "deliverers go from the larger position left": the pair leaves 1 to 0, and 5 to 1
  left_by_pairs : amounts (plan 0 ((0 ∷ 0 ∷ 1 ∷ 0 ∷ []) ∷ []) (0 ∷ 1 ∷ 2 ∷ 3 ∷ []) (9 ∷ 5 ∷ 0 ∷ 0 ∷ []) (0 ∷ 0 ∷ 8 ∷ 6 ∷ []))
      ≡ (0 ∷ 2 ∷ 8 ∷ []) ∷ (1 ∷ 3 ∷ 5 ∷ []) ∷ (0 ∷ 3 ∷ 1 ∷ []) ∷ []
  -- "Each meets receivers in the drawn order": 2 is drawn before 1
  drawn_order : amounts (plan 1 [] (2 ∷ 0 ∷ 1 ∷ 3 ∷ []) (5 ∷ 0 ∷ 0 ∷ 4 ∷ []) (0 ∷ 4 ∷ 5 ∷ 0 ∷ [])) ≡ (0 ∷ 2 ∷ 5 ∷ []) ∷ (3 ∷ 1 ∷ 4 ∷ []) ∷ []
  -- "ties in drawn order"
  equal_amounts : amounts (plan 1 [] (2 ∷ 0 ∷ 1 ∷ []) (4 ∷ 0 ∷ 0 ∷ []) (0 ∷ 2 ∷ 2 ∷ [])) ≡ (0 ∷ 2 ∷ 2 ∷ []) ∷ (0 ∷ 1 ∷ 2 ∷ []) ∷ []
  -- "each deliverer's drawn ones go by larger matched amount": all of 0's, though 1's is larger
  deliverer_first : amounts (plan 1 [] (2 ∷ 3 ∷ 0 ∷ 1 ∷ []) (6 ∷ 5 ∷ 0 ∷ 0 ∷ []) (0 ∷ 0 ∷ 3 ∷ 8 ∷ [])) ≡ (0 ∷ 2 ∷ 3 ∷ []) ∷ (0 ∷ 3 ∷ 3 ∷ []) ∷ (1 ∷ 3 ∷ 5 ∷ []) ∷ []
  -- "Preferential matches are filled first", and so marked
  filled_first : map (λ m. m.preferential) (plan 0 ((0 ∷ 0 ∷ 0 ∷ []) ∷ (0 ∷ 0 ∷ 1 ∷ []) ∷ []) (0 ∷ 1 ∷ 2 ∷ []) (9 ∷ 3 ∷ 0 ∷ []) (0 ∷ 0 ∷ 12 ∷ [])) ≡ true ∷ false ∷ []

matchings : Matchings
unfolding number_rule
matchings = record {
  ties = refl;
  pairs = refl;
  no_pairs = refl;
  pairs_by_deliverer = refl;
  pairs_by_receiver = refl;
  pairs_left = refl;
  passed_over = refl;
  left_by_pairs = refl;
  drawn_order = refl;
  equal_amounts = refl;
  deliverer_first = refl;
  filled_first = refl;
}
