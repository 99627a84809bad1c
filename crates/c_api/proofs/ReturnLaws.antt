-- Laws of what a call hands to C. Assumes nothing.
use mathlib.Core.Path.{◌≡◌, sym, ap, ◌∙◌}
use Prim.Native.Nat.{ℕ, ◌<◌}
use native.Mathlib.Omega.{arith}
use mathlib.Core.List.{List}
use lib.ListN.{get_or}
use Rattle.rule.specs.Calls.{Reply, accepted, counts, refused}
use Rattle.rule.specs.Layout.{view, run_of}
use Rattle.rule.proofs.RunLaws.{few-allocations}
use Rattle.rule.proofs.RunLists.{few_lines}
use Rattle.rule.proofs.RunCallLaws.{RunLeaves, run_sound}
use Rattle.c_api.specs.Returned.{returned, for_c, ReturnedRunAsks}

-- the library's answer, and its number
pub for-c : {X : Type 0} (reply : Reply) (rest : X) (out : Reply × X) (number : ℕ) → (reply, rest) ≡ out → number ≡ returned reply → (number, rest) ≡ for_c out
for-c {X} reply rest out number e n = ap (λ (k : ℕ). (k, rest)) n ∙ ap (λ (o : Reply × X). for_c o) e

-- an accepted run's counts
module _ (b draw matches lines : List ℕ) (words : (j : ℕ) → get_or b j 0 < 18446744073709551616) where
  counts-fit : (reply : Reply) → (run_of b draw matches lines).0 ≡ reply → ReturnedRunAsks reply
  counts-fit accepted e = tt
  counts-fit (counts m l) e =
      let r : RunLeaves b draw matches lines m l = run_sound b words draw matches lines m l e in
      (omega (arith, r.match_count, few-allocations (view b) draw r.runnable), omega (arith, r.line_count, few_lines (view b) draw r.runnable))
  counts-fit (refused number) e = tt

  -- what a run answers has room in the number
  pub run_fits : (reply : Reply) (rest : List ℕ × List ℕ × List ℕ) → (reply, rest) ≡ run_of b draw matches lines → ReturnedRunAsks reply
  run_fits reply rest e = counts-fit reply (sym (ap (λ (o : Reply × (List ℕ × List ℕ × List ℕ)). o.0) e))
