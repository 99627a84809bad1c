-- For callers of `plan`: what it asks follows from a sound day and a right draw, and what is known of the matches. Assumes nothing.
use mathlib.Core.Path.{◌≡◌, refl, sym, ap, ◌∙◌}
use mathlib.Core.Bool.{Bool, true, false}
use mathlib.Core.List.{List, [], ◌∷◌, map}
use Prim.Native.Nat.{ℕ, zero, suc, ◌+◌, ◌-◌, ◌*◌, ◌≤◌, ◌<◌, min}
use native.Mathlib.Nat.{zero-min, min-zero}
use native.Mathlib.Omega.{arith}
use lib.ListN.{length, get_or, length-map}
use lib.Dec.{ltb}
use Rattle.lists.specs.Tests.{pick}
use Rattle.lists.specs.Parts.{block, grid}
use Rattle.lists.proofs.PartLaws.{table-agree}
use Rattle.lists.proofs.FoldLaws.{every_map}
use Rattle.lists.proofs.TableLaws.{get_d_map}
use Rattle.rule.specs.Matching.{Match, OneZero}
use Rattle.rule.specs.Layout.{plus, minus, most_participants}
use Rattle.rule.proofs.DrawLaws.{EachOnce}
use Rattle.arrayvec.specs.ArrayVec.{ArrayVec}
use Rattle.matching.specs.declared.Match.{Match as Entry}
use Rattle.matching.proofs.ListLaws.{block-block}
use Rattle.matching.specs.Plans.{rule_match, pair_marks, Planned, PlanAsks}

-- ---- a basket of a sound day

one_of : (c : ℕ) → min (plus c) (minus c) ≡ 0
one_of c = go (ltb c 9223372036854775808)
  where
    go : (t : Bool) → min (pick t c 0) (pick t 0 (18446744073709551616 - c)) ≡ 0
    go true = min-zero c
    go false = zero-min _

-- a position is owed or due
pub signed-one-zero : (positions : List ℕ) → OneZero (map plus positions) (map minus positions)
signed-one-zero [] p = refl
signed-one-zero (c ∷ cs) zero = one_of c
signed-one-zero (c ∷ cs) (suc p) = signed-one-zero cs p

-- n participants, their positions in the basket, and a right draw
pub sound-basket : (n : ℕ) (marks draw positions : List ℕ) → length positions ≡ n → n ≤ 12 → most_participants * n ≤ length marks → EachOnce draw n
    → PlanAsks marks draw (map plus positions) (map minus positions)
sound-basket n marks draw positions e h k r =
    let o : length (map plus positions) ≡ n = length-map positions plus ∙ e in
    let u : length (map minus positions) ≡ n = length-map positions minus ∙ e in
    record {
      sizes = record { same = u ∙ sym o; few = omega arith; marked = omega arith };
      one_zero = signed-one-zero positions;
      receivers = every_map (λ p. p < n) (λ p. p < length (map plus positions)) (λ p l. omega arith) draw r.nobody_else;
    }

-- the marks of a basket, lent as the 144 cells at its place in the book
pub marks-of-book : (book : List ℕ) (at n : ℕ) → n ≤ 12 → at + 144 ≤ length book → pair_marks (block book at 144) n ≡ grid book at 12 n n
marks-of-book book at n h k =
    table-agree n (λ p. block (block book at 144) (0 + most_participants * p) n) (λ p. block book (at + most_participants * p) n) (λ p l.
    let e : at + (0 + most_participants * p) ≡ at + most_participants * p = omega arith in
    block-block book at 144 (0 + most_participants * p) n (omega arith) k ∙ ap (λ (o : ℕ). block book o n) e)

-- ---- the matches

-- how many they are
pub planned-count : {ms : List Match} {made : ArrayVec Entry} → Planned ms made → length made.items ≡ length ms
planned-count {made = made} p = sym (length-map made.items rule_match) ∙ ap length p.matches

-- the k-th match
pub planned-at : {ms : List Match} {made : ArrayVec Entry} → Planned ms made → (k : ℕ) (m : Entry) (d : Match) → k < length made.items → rule_match (get_or made.items k m) ≡ get_or ms k d
planned-at {made = made} p k m d h = sym (get_d_map rule_match made.items k m d h) ∙ ap (λ (l : List Match). get_or l k d) p.matches
