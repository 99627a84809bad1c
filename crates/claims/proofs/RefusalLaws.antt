-- What a call answers, by the numbers of its check table. Assumes nothing.
use mathlib.Core.Path.{◌≡◌, refl}
use mathlib.Core.Logic.{◌⊎◌, inl, inr}
use Prim.Native.Nat.{ℕ, zero, suc}
use native.Mathlib.Omega.{arith}
use mathlib.Core.Bool.{Bool, true, ◌&&◌}
use mathlib.Core.List.{List, [], ◌∷◌}
use Rattle.lists.specs.Tests.{member, first}
use Rattle.lists.proofs.TestLaws.{pick-cases, and_left, and_right}
use Rattle.rule.specs.Calls.{Reply, answer}
use Rattle.claims.specs.Claims.{RefusedWith}

-- every row of the table has one of the numbers
abbrev amongst : List ℕ → List (ℕ × Bool) → Bool
amongst numbers [] = true
amongst numbers (c ∷ cs) = member c.0 numbers && amongst numbers cs

first-among : (numbers : List ℕ) (cs : List (ℕ × Bool)) → amongst numbers cs ≡ true → (first cs ≡ 0) ⊎ (member (first cs) numbers ≡ true)
unfolding first
first-among numbers [] h = inl refl
first-among numbers (c ∷ cs) h =
    pick-cases (λ n. (n ≡ 0) ⊎ (member n numbers ≡ true)) c.1 c.0 (first cs) (λ t. inr (and_left (member c.0 numbers) (amongst numbers cs) h))
    (λ t. first-among numbers cs (and_right (member c.0 numbers) (amongst numbers cs) h))

answered : {X : Type 0} (numbers : List ℕ) (e : ℕ) (reply : Reply) (new old : X) → (e ≡ 0) ⊎ (member e numbers ≡ true)
    → ((answer e reply new old).0 ≡ reply) ⊎ RefusedWith numbers old (answer e reply new old)
answered numbers zero reply new old h = inl refl
answered numbers (suc e) reply new old (inl z) = inr (absurd (omega arith))
answered numbers (suc e) reply new old (inr h) = inr (record { number = suc e; listed = h; stays = refl })

-- a check table with its answer
pub by-table : {X : Type 0} (numbers : List ℕ) (cs : List (ℕ × Bool)) (reply : Reply) (new old : X) → amongst numbers cs ≡ true
    → ((answer (first cs) reply new old).0 ≡ reply) ⊎ RefusedWith numbers old (answer (first cs) reply new old)
by-table numbers cs reply new old h = answered numbers (first cs) reply new old (first-among numbers cs h)
