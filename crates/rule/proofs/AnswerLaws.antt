-- Laws of a check table with its answer: what a `return` of a call shows. Assumes nothing.
use mathlib.Core.Path.{◌≡◌, ap}
use Prim.Native.Nat.{ℕ, zero, suc, ◌<◌}
use native.Mathlib.Nat.{not-suc-le-zero}
use mathlib.Core.Bool.{Bool, true, false, not}
use mathlib.Core.List.{List, [], ◌∷◌}
use borrow.Author.Tests.{lt-leb, le-leb, lt-ltb, le-ltb, eq-eqb, ne_eqb}
use Rattle.lists.specs.Tests.{first}
use Rattle.lists.proofs.TestLaws.{first-yes, first-no}
use Rattle.rule.specs.Calls.{Reply, refused, answer}

-- the row's condition holds: its number, and what was there
pub refuse : {X : Type 0} (n : ℕ) (t : Bool) (cs : List (ℕ × Bool)) (reply : Reply) (new old : X) → 0 < n → t ≡ true
    → ◌≡◌ {A = Reply × X} (refused n, old) (answer (first ((n, t) ∷ cs)) reply new old)
refuse zero t cs reply new old l e = absurd (not-suc-le-zero l)
refuse (suc n) t cs reply new old l e = rw (first-yes (suc n) t cs e)

-- it does not hold: what the rest answers
pub pass : {X : Type 0} (n : ℕ) (t : Bool) (cs : List (ℕ × Bool)) (reply : Reply) (new old : X) (r : Reply × X) → t ≡ false
    → r ≡ answer (first cs) reply new old → r ≡ answer (first ((n, t) ∷ cs)) reply new old
pass n t cs reply new old r e h = rw (first-no n t cs e) h

-- no row's condition holds: the reply, and what is new
pub accept : {X : Type 0} (reply : Reply) (new old made : X) → made ≡ new → ◌≡◌ {A = Reply × X} (reply, made) (answer (first []) reply new old)
unfolding first
accept {X} reply new old made e = ap (λ (x : X). (reply, x)) e

-- a condition that is the denial of a test
pub denied : (t : Bool) → t ≡ false → not t ≡ true
denied t e = rw e

pub granted : (t : Bool) → t ≡ true → not t ≡ false
granted t e = rw e

pub ruleset answers = (refuse, pass, accept, denied, granted, lt-leb, le-leb, lt-ltb, le-ltb, eq-eqb, ne_eqb)
