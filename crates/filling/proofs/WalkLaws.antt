-- The loops of filling: what the code holds is what the match has, at every turn. Assumes nothing.
use mathlib.Core.Path.{◌≡◌, refl, sym, ap, subst, ◌∙◌}
use Prim.Native.Nat.{ℕ, zero, suc, ◌+◌, ◌≤◌, ◌<◌}
use native.Mathlib.Numerals.{add-one}
use native.Mathlib.Omega.{arith}
use mathlib.Core.Logic.{◌≢◌}
use mathlib.Core.Bool.{Bool, true, false}
use mathlib.Core.List.{map, List}
use Rattle.std.specs.Prelude.{Option, None}
use lib.ListN.{length-map, length, get_or, take, set}
use lib.Seq.{get_or-take, length-take-le, take_all}
use Rattle.lists.specs.Folds.{foldl, Every}
use Rattle.lists.proofs.FoldLaws.{foldl-take, every-index}
use Rattle.quantities.specs.declared.Yen.{Yen}
use Rattle.rule.specs.Day.{terms_of}
use Rattle.rule.specs.Value.{Terms, no_terms, value}
use Rattle.rule.specs.Filling.{worth, Taken, nothing, lots_of, others, become, walk, fill_preferential, first_pass, second_pass, fill_drawn, fill}
use Rattle.rule.proofs.FillingLaws.{Priced, apart, worth-become}
use Rattle.value.specs.Quotes.{QuotedAt}
use Rattle.value.specs.declared.Quote.{Quote}
use Rattle.value.proofs.TermLaws.{priced-at}
use Rattle.turns.specs.Passes.{next_of, Fresh}
use Rattle.turns.specs.declared.Pass.{Pass}
use Rattle.turns.specs.declared.Pass.TheVariants.{Units, Remainders, Rest}
use Rattle.turns.proofs.TurnLaws.{part-of}
use Rattle.filling.specs.Rows.{passes_of, TakeTurnAsks, RowTurned, TakeTurnGives, FillMatchAsks}
use Rattle.filling.specs.Match.{Supplied}
use Rattle.filling.proofs.PassLaws.{step, begun, over, after, Has, Stands, nothing-worth, stands_at, fresh-at, left}

-- the code's lots are the match's, and what it carries is what they are worth
pub record Held (ts : List Terms) (s : Taken) (lots : List ℕ) (reached : ℕ) : Type 0 where
  pub cells : lots ≡ s.lots
  pub sum : reached ≡ worth ts s.lots

-- and the amount is not reached
pub record Holds (ts : List Terms) (amount : ℕ) (s : Taken) (lots : List ℕ) (reached : ℕ) : Type 0 where
  pub below : reached < amount
  pub held : Held ts s lots reached

become-lots : (s : Taken) (i n : ℕ) → (become s i n).lots ≡ set s.lots i n
unfolding become
become-lots s i n = refl

-- ---- the passes in their order

-- what the match has where the pass at a place begins
abbrev pub begun-at : Bool → List Terms → List ℕ → List ℕ → ℕ → ℕ → Taken
begun-at preferential ts usable order amount zero = nothing (length usable)
begun-at preferential ts usable order amount (suc p) = over preferential ts usable order amount (get_or (passes_of preferential) p Rest)

module _ (ts : List Terms) (usable order : List ℕ) (amount : ℕ) where
  begun-is : (preferential : Bool) (p : ℕ) (d : Pass) → p < length (passes_of preferential)
      → begun-at preferential ts usable order amount p ≡ begun preferential ts usable order amount (get_or (passes_of preferential) p d)
  begun-is true zero d h = refl
  begun-is true (suc p) d h = absurd (omega arith)
  begun-is false zero d h = refl
  begun-is false (suc zero) d h = refl
  begun-is false (suc (suc zero)) d h = refl
  begun-is false (suc (suc (suc p))) d h = absurd (omega arith)

  over-is : (preferential : Bool) (p : ℕ) (d : Pass) → p < length (passes_of preferential)
      → over preferential ts usable order amount (get_or (passes_of preferential) p d) ≡ begun-at preferential ts usable order amount (suc p)
  over-is true zero d h = refl
  over-is true (suc p) d h = absurd (omega arith)
  over-is false zero d h = refl
  over-is false (suc zero) d h = refl
  over-is false (suc (suc zero)) d h = refl
  over-is false (suc (suc (suc p))) d h = absurd (omega arith)

  all-over : (preferential : Bool) (p : ℕ) → length (passes_of preferential) ≤ p → begun-at preferential ts usable order amount p ≡ fill preferential ts usable order amount
  all-over true zero h = absurd (omega arith)
  all-over true (suc zero) h = refl
  all-over true (suc (suc p)) h = refl
  all-over false zero h = absurd (omega arith)
  all-over false (suc zero) h = absurd (omega arith)
  all-over false (suc (suc zero)) h = absurd (omega arith)
  all-over false (suc (suc (suc zero))) h = refl
  all-over false (suc (suc (suc (suc p)))) h = refl

  -- the whole order gone through is the pass
  whole-pass : (preferential : Bool) (p : Pass)
      → foldl (step ts usable order amount p) (begun preferential ts usable order amount p) order ≡ over preferential ts usable order amount p
  unfolding first_pass second_pass fill fill_preferential fill_drawn walk
  whole-pass preferential Units = refl
  whole-pass preferential Remainders = refl
  whole-pass true Rest = refl
  whole-pass false Rest = refl

has-at : (preferential : Bool) (p : ℕ) (d : Pass) → p < length (passes_of preferential) → Has preferential (get_or (passes_of preferential) p d)
has-at true zero d h = tt
has-at true (suc p) d h = absurd (omega arith)
has-at false p d h = tt

-- ---- the invariants

module _ (preferential : Bool) (ts : List Terms) (usable order : List ℕ) (amount : ℕ) where
  -- at the head of the loop over the passes, and of that over the issues
  pub record AtPass (p : ℕ) (lots : List ℕ) (reached : ℕ) : Type 0 where
    pub holds : Holds ts amount (begun-at preferential ts usable order amount p) lots reached

  pub record InPass (pass : Pass) (k : ℕ) (lots : List ℕ) (reached : ℕ) : Type 0 where
    pub has : Has preferential pass
    pub holds : Holds ts amount (after preferential ts usable order amount pass k) lots reached

-- ---- the walks of a match

module _ {issues : List (List ℕ)} {quotes : List Quote} {notified usable order : List ℕ} {all : ℕ} (d : Supplied issues quotes notified usable order all) where
  abbrev ts : List Terms
  ts = map terms_of issues

  sized : length ts ≡ length usable
  sized = length-map issues terms_of ∙ d.issues_there

  pub priced : Priced ts
  priced i h = priced-at (d.quoted.each i h)

  named : Every (λ i. i < length ts) order
  named = every-index (λ i. i < length ts) 0 order (λ k b. omega (arith, d.named.inside k b, sized))

  -- nothing is held, it is worth nothing, and some amount is to be filled
  pub begin : {preferential : Bool} {amount : ℕ} {lots : List ℕ} → (amount ≡ 0 → ⊥) → FillMatchAsks (length usable) amount lots
      → AtPass preferential ts usable order amount 0 lots 0
  begin {amount = amount} some a = record {
    holds = record { below = omega arith; held = record { cells = a.empty; sum = sym (nothing-worth ts priced usable order amount (sym sized) named) } };
  }

  -- ---- one turn

  module _ {amount : ℕ} {pass : Pass} {s : Taken} (k : Stands ts usable order amount pass s) {lots : List ℕ} {reached : ℕ} (h : Held ts s lots reached)
      {i : ℕ} (inside : i < length usable) where
    in-terms : i < length ts
    in-terms = omega (arith, sized)

    its-part : others ts s i + value (get_or ts i no_terms) (lots_of s i) ≡ worth ts s.lots
    its-part = apart ts priced s i in-terms k.sized

    turn-ready : reached < amount → amount ≤ 10_000_000_000_000 → Fresh pass (lots_of s i) (worth ts s.lots) amount → TakeTurnAsks pass quotes lots usable i reached amount
    turn-ready below most fresh =
        let less : worth ts s.lots < amount = omega (arith, h.sum) in
        rw (h.cells, h.sum) (record {
          row = k.sized ∙ sized;
          inside = inside;
          part = λ past. part-of ((d.quoted.each i in-terms).quoted past) {had = lots_of s i} (omega (arith, its-part)) (omega arith);
          turnable = record {
            short = record { below = less; amount_most = most };
            bounded = k.bounded i;
            within = k.within i;
            usable_most = d.usable_most i inside;
            fresh = fresh;
          };
        })

    onward : {lots' : List ℕ} {r : ℕ} → RowTurned pass (get_or ts i no_terms) lots usable i reached amount lots' r → Held ts (step ts usable order amount pass s i) lots' r
    onward {lots'} {r} t =
        let n : ℕ = next_of pass (get_or ts i no_terms) (get_or usable i 0) (lots_of s i) (worth ts s.lots) amount in
        rw (k.turned i in-terms) (record {
          cells = (rw (h.cells, h.sum) at t.cells) ∙ sym (become-lots s i n);
          sum = (rw (h.cells, h.sum) at t.worth) ∙ omega (arith, its-part, worth-become ts priced s i n in-terms k.sized);
        })

  -- ---- the two walks

  module _ {preferential : Bool} {amount : ℕ} {ps : List Pass} (e : ps ≡ passes_of preferential) where
    pub enter : {p : ℕ} {lots : List ℕ} {reached : ℕ} → p < length ps → AtPass preferential ts usable order amount p lots reached
        → InPass preferential ts usable order amount (get_or ps p Units) 0 lots reached
    enter {p} {lots} {reached} h a =
        let l : p < length (passes_of preferential) = rw e at h in
        rw e (record {
          has = has-at preferential p Units l;
          holds = subst (λ (s : Taken). Holds ts amount s lots reached) (begun-is ts usable order amount preferential p Units l) a.holds;
        })

    pub leave : {p k : ℕ} {lots : List ℕ} {reached : ℕ} → p < length ps → length order ≤ k
        → InPass preferential ts usable order amount (get_or ps p Units) k lots reached → AtPass preferential ts usable order amount (p + 1) lots reached
    leave {p} {k} {lots} {reached} h l a =
        let pass : Pass = get_or (passes_of preferential) p Units in
        let q : after preferential ts usable order amount pass k ≡ begun-at preferential ts usable order amount (p + 1) =
        ap (foldl (step ts usable order amount pass) (begun preferential ts usable order amount pass)) (take_all k order l)
        ∙ whole-pass ts usable order amount preferential pass
        ∙ over-is ts usable order amount preferential p Units (rw e at h)
        ∙ ap (begun-at preferential ts usable order amount) (sym (add-one p)) in
        record { holds = subst (λ (s : Taken). Holds ts amount s lots reached) q (rw e at a).holds }

    pub done : {p : ℕ} {lots : List ℕ} {reached : ℕ} → length ps ≤ p → AtPass preferential ts usable order amount p lots reached
        → lots ≡ (fill preferential ts usable order amount).lots
    done {p} h a = a.holds.held.cells ∙ ap (λ (s : Taken). s.lots) (all-over ts usable order amount preferential p (rw e at h))

  module _ {preferential : Bool} {amount : ℕ} {pass : Pass} {k : ℕ} {lots : List ℕ} {reached : ℕ} (a : InPass preferential ts usable order amount pass k lots reached) (at : k < length order) where
    stands : Stands ts usable order amount pass (after preferential ts usable order amount pass k)
    stands = stands_at ts priced usable order amount (sym sized) named preferential pass k

    -- the issue in place k of the order is none of those before it
    not-met : Every (λ i. get_or order k 0 ≢ i) (take k order)
    not-met = every-index (λ i. get_or order k 0 ≢ i) 0 (take k order) (λ j b.
        let l : j < k = omega (arith, length-take-le k order (omega arith)) in
        rw (get_or-take k order j 0 l) (λ e. absurd (omega (arith, d.named.once k j at (omega arith) e))))

    pub ready : amount ≤ 10_000_000_000_000 → TakeTurnAsks pass quotes lots usable (get_or order k 0) reached amount
    ready most = turn-ready stands a.holds.held (d.named.inside k at) a.holds.below most
        (fresh-at ts priced usable order amount (sym sized) named preferential pass k (get_or order k 0) not-met)

    module _ {lots' : List ℕ} {r : ℕ} (t : (u : Terms) → QuotedAt u quotes (get_or order k 0) → RowTurned pass u lots usable (get_or order k 0) reached amount lots' r) where
      one_more : Held ts (after preferential ts usable order amount pass (k + 1)) lots' r
      one_more =
          rw (foldl-take (step ts usable order amount pass) order k 0 (begun preferential ts usable order amount pass) at)
          (onward stands a.holds.held (d.named.inside k at) (t (get_or ts (get_or order k 0) no_terms) (d.quoted.each (get_or order k 0) (omega (arith, d.named.inside k at, sized)))))

      pub on : r < amount → InPass preferential ts usable order amount pass (k + 1) lots' r
      on l = record { has = a.has; holds = record { below = l; held = one_more } }

      pub out : amount ≤ r → lots' ≡ (fill preferential ts usable order amount).lots
      out l = one_more.cells ∙ ap (λ (s : Taken). s.lots) (sym (left ts priced usable order amount (sym sized) named preferential pass a.has (k + 1) (omega (arith, one_more.sum))))

    -- the issue takes nothing
    pub passed : (turn : Option Yen) {lots' : List ℕ} → turn ≡ None → TakeTurnGives pass quotes lots usable (get_or order k 0) reached amount lots' turn
        → InPass preferential ts usable order amount pass (k + 1) lots' reached
    passed turn {lots'} none t =
        on (subst (λ (o : Option Yen). TakeTurnGives pass quotes lots usable (get_or order k 0) reached amount lots' o) none t) a.holds.below
