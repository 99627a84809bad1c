-- A basket's plan: the drawn matches behind the preferential ones. Assumes nothing.
use mathlib.Core.Path.{◌≡◌, refl, sym, ap, ◌∙◌}
use mathlib.Core.Bool.{false}
use mathlib.Core.List.{List, [], ◌∷◌, ◌++◌, map, append-nil, append_assoc}
use Prim.Native.Nat.{ℕ, ◌+◌, ◌≤◌, ◌<◌}
use native.Mathlib.Omega.{arith}
use lib.ListN.{length, length-append}
use Rattle.lists.specs.Folds.{foldl}
use Rattle.lists.specs.Order.{sorted}
use Rattle.lists.proofs.FoldLaws.{every_map}
use Rattle.rule.specs.Matching.{Match, meet, with, preferential, turn, deliverers, drawn, plan}
use Rattle.rule.specs.Matching as rule
use Rattle.rule.proofs.MatchingLaws.{few_matches}
use Rattle.arrayvec.specs.ArrayVec.{ArrayVec}
use Rattle.matching.specs.declared.Match.{Match as Entry}
use Rattle.matching.specs.declared.Left.{Left}
use Rattle.matching.specs.Plans.{rule_match, left_of, SameBuffers, Planned, TurnsAsks, pair_marks, MeetPreferentialAsks, PlanAsks}

-- matches made before a turn, or before turns, stay in front
turns_from : (draw ds : List ℕ) (o u : List ℕ) (before made : List Match)
    → let t : rule.Left = foldl (turn draw) (record { owed = o; due = u; made = made }) ds in
    foldl (turn draw) (record { owed = o; due = u; made = before ++ made }) ds ≡ record { owed = t.owed; due = t.due; made = before ++ t.made }
unfolding turn
turns_from draw [] o u before made = refl
turns_from draw (d ∷ ds) o u before made =
    let its : rule.Left = foldl (meet false) (record { owed = o; due = u; made = [] }) (with draw d) in
    ap (λ (ms : List Match). foldl (turn draw) (record { owed = its.owed; due = its.due; made = ms }) ds) (append_assoc before made (sorted (λ m. m.amount) its.made))
    ∙ turns_from draw ds its.owed its.due before (made ++ sorted (λ m. m.amount) its.made)

module _ (runs : ℕ) (marks draw : List ℕ) (s : Left) (b : PlanAsks marks draw s.owed.now s.due.now) where
  abbrev pairs : rule.Left
  pairs = preferential runs (pair_marks marks (length s.owed.now)) s.owed.now s.due.now

  abbrev rest : rule.Left
  rest = drawn draw pairs.owed pairs.due

  -- "at most participants − 1 matches in a basket"
  all_fit : length pairs.made + length rest.made ≤ 11
  unfolding plan
  all_fit =
      omega (
        arith,
        few_matches runs (pair_marks marks (length s.owed.now)) draw s.owed.now s.due.now b.sizes.same b.one_zero,
        length-append pairs.made rest.made,
        b.sizes.few,
      )

  pub plan-asks : s.made.now.items ≡ [] → MeetPreferentialAsks runs marks s
  plan-asks e = record { sizes = b.sizes; empty = e; room = omega (arith, all_fit) }

  -- the pairs are matched
  module _ {t : Left} (e : left_of t ≡ pairs) (same : SameBuffers s t) where
    whole : foldl (turn draw) (left_of t) (deliverers t.owed.now) ≡ record { owed = rest.owed; due = rest.due; made = pairs.made ++ rest.made }
    unfolding drawn
    whole =
        ap (λ (u : rule.Left). foldl (turn draw) u (deliverers u.owed)) e
        ∙ ap (λ (ms : List Match). foldl (turn draw) (record { owed = pairs.owed; due = pairs.due; made = ms }) (deliverers pairs.owed)) (sym (append-nil pairs.made))
        ∙ turns_from draw (deliverers pairs.owed) pairs.owed pairs.due pairs.made []

    pub rest-asks : TurnsAsks draw t
    rest-asks = record {
      few = omega (arith, b.sizes.few, same.owed_size);
      receivers = every_map (λ p. p < length s.owed.now) (λ p. p < length t.due.now) (λ p l. omega (arith, b.sizes.same, same.due_size)) draw b.receivers;
      room = omega (arith, all_fit, ap (λ (u : rule.Left). length u.made) whole, length-append pairs.made rest.made);
    }

    pub plan-done : (u : Left) {made : ArrayVec Entry} → left_of u ≡ foldl (turn draw) (left_of t) (deliverers t.owed.now) → made ≡ u.made.now
        → Planned (plan runs (pair_marks marks (length s.owed.now)) draw s.owed.now s.due.now) made
    unfolding plan
    plan-done u f g = record { matches = ap (λ (p : ArrayVec Entry). map rule_match p.items) g ∙ ap (λ (v : rule.Left). v.made) (f ∙ whole) }
