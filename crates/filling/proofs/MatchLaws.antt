-- One match: nothing for nothing, what is forced, what is carried, and when. Assumes nothing.
use mathlib.Core.Path.{◌≡◌, refl, sym, ap, ◌∙◌}
use Prim.Native.Nat.{ℕ, zero, suc, ◌+◌, ◌-◌, ◌≤◌, ◌<◌, min, zero-le}
use native.Mathlib.Nat.{not-suc-le-zero}
use native.Mathlib.Omega.{arith}
use mathlib.Core.Bool.{Bool}
use mathlib.Core.Logic.{◌⊎◌, inl, inr}
use mathlib.Core.List.{map, List}
use lib.ListN.{length-map, length, get_or}
use lib.Dec.{leb, eqb}
use borrow.Author.Tests.{le-leb, lt-leb}
use Rattle.lists.proofs.TableLaws.{length-table}
use Rattle.lists.proofs.TestLaws.{pick_yes, pick_no, pick-elim}
use Rattle.rule.specs.Day.{terms_of, marks_of}
use Rattle.rule.specs.Value.{Terms, no_terms, value, fewest}
use Rattle.rule.specs.Allocable.{unmarked, allocable, Marks}
use Rattle.rule.specs.Filling.{worth, Taken, nothing, others, fill, covered, forced_issue, plain, cover, force, carry, filled}
use Rattle.rule.proofs.FillingLaws.{apart}
use Rattle.rule.proofs.FilledLaws.{covered-all, covered-most}
use Rattle.value.specs.Quote.{QuoteOf}
use Rattle.value.specs.declared.Quote.{Quote}
use Rattle.turns.specs.Turns.{besides, Part}
use Rattle.turns.proofs.TurnLaws.{part-of}
use Rattle.forced.proofs.ChoiceLaws.{forced-inside}
use Rattle.filling.specs.Rows.{FillMatchAsks}
use Rattle.filling.specs.Match.{Idle, Supplied, FilledAs}
use Rattle.filling.specs.declared.Filling.{Filling}
use Rattle.filling.proofs.NothingLaws.{fill_none}
use Rattle.filling.proofs.WalkLaws.{priced}

-- ---- nothing for an amount of 0

pub fill-nothing : {issues amount : ℕ} {lots : List ℕ} → FillMatchAsks issues amount lots → amount ≡ 0 → (preferential : Bool) (ts : List Terms) (usable order : List ℕ)
    → issues ≡ length usable → lots ≡ (fill preferential ts usable order amount).lots
fill-nothing a z preferential ts usable order e = rw (z, fill_none preferential ts usable order, ← e) a.empty

pub row-places : {issues amount : ℕ} {lots : List ℕ} → FillMatchAsks issues amount lots → length lots ≡ issues
row-places {issues} a = ap length a.empty ∙ length-table {A = ℕ} issues (λ i. 0)

-- ---- the amount is carried in part, or whole

pub carried : {issues amount part : ℕ} {lots : List ℕ} (all : ℕ) → FillMatchAsks issues amount lots → part ≡ covered amount all → FillMatchAsks issues part lots
carried {amount = amount} all a e = record { amount_most = omega (arith, e, covered-most amount all, a.amount_most); empty = a.empty }

pub carry-filled : (preferential : Bool) (ts : List Terms) (usable order : List ℕ) (amount : ℕ) {all part : ℕ} {lots : List ℕ} {r : Filling}
    → all ≡ worth ts usable → part ≡ covered amount all → lots ≡ (fill preferential ts usable order part).lots
    → r.covered.0 ≡ part → r.forced ≡ 0 → r.forced_lots.0 ≡ 0 → FilledAs (carry preferential ts usable order amount) r lots
unfolding carry cover
carry-filled preferential ts usable order amount w e l c f x =
    let q = rw w at e in
    record { covered = c ∙ q; lots_are = rw (← q) l; forced = f; forced_lots = x }

-- ---- all usable lots go

module _ {issues : List (List ℕ)} {quotes : List Quote} {notified usable order : List ℕ} {all : ℕ} (d : Supplied issues quotes notified usable order all) where
  abbrev ts : List Terms
  ts = map terms_of issues

  sized : length ts ≡ length usable
  sized = length-map issues terms_of ∙ d.issues_there

  module _ (basket : ℕ) {i : ℕ} (e : i ≡ forced_issue basket (map terms_of issues) (map marks_of issues) notified) where
    pub forced-below : i < length usable
    forced-below = omega (arith, e, forced-inside basket ts (map marks_of issues) (omega (arith, sized, d.issues_least)) notified, sized)

    in-terms : i < length ts
    in-terms = omega (arith, forced-below, sized)

    abbrev taken : Taken
    taken = record { lots = usable; last = i }

    its-part : others ts taken i + value (get_or ts i no_terms) (get_or usable i 0) ≡ all
    its-part = apart ts (priced d) taken i in-terms (sym sized) ∙ sym d.all_is

    module _ (past : Quote) where
      its-quote : QuoteOf (get_or ts i no_terms) (get_or quotes i past)
      its-quote = (d.quoted.each i in-terms).quoted past

      pub forced-part : all ≤ 10_000_000_000_000 → Part (get_or quotes i past) (get_or usable i 0) all
      forced-part most = part-of its-quote (omega (arith, its-part)) most

      pub force-filled : {amount further : ℕ} {lots : List ℕ} {r : Filling}
          → ((t : Terms) → QuoteOf t (get_or quotes i past) → further ≡ fewest t (amount - besides t (get_or usable i 0) all) - get_or usable i 0)
          → lots ≡ usable → r.covered.0 ≡ amount → r.forced ≡ i → r.forced_lots.0 ≡ further
          → FilledAs (force ts usable (forced_issue basket (map terms_of issues) (map marks_of issues) notified) amount) r lots
      unfolding force
      force-filled g l c f x =
          let b : besides (get_or ts i no_terms) (get_or usable i 0) all ≡ others ts taken i = omega (arith, its-part) in
          rw (← e) (record { covered = c; lots_are = l; forced = f; forced_lots = x ∙ (rw b at (g (get_or ts i no_terms) its-quote)) })

-- ---- which of the two

module _ (preferential : Bool) (ts : List Terms) (usable order : List ℕ) (f amount : ℕ) {all : ℕ} (w : all ≡ worth ts usable) where
  pub third-short : (runs : ℕ) → 2 ≤ runs → all < amount → filled runs preferential ts usable order f amount ≡ force ts usable f amount
  unfolding filled
  third-short zero h l = absurd (not-suc-le-zero h)
  third-short (suc zero) h l = absurd (omega arith)
  third-short (suc (suc runs)) h l = pick_no (leb amount (worth ts usable)) _ _ (lt-leb amount (worth ts usable) (omega arith))

  pub otherwise : (runs : ℕ) → (runs < 2) ⊎ (amount ≤ all) → filled runs preferential ts usable order f amount ≡ carry preferential ts usable order amount
  unfolding filled carry
  otherwise zero k = refl
  otherwise (suc zero) k = refl
  otherwise (suc (suc runs)) (inl h) = absurd (omega arith)
  otherwise (suc (suc runs)) (inr h) =
      pick_yes (leb amount (worth ts usable)) _ _ (le-leb amount (worth ts usable) (omega arith))
      ∙ ap (λ (a : ℕ). cover preferential ts usable order a) (sym (covered-all amount (worth ts usable) (omega arith)))

  -- nothing is covered
  uncovered : (runs : ℕ) → runs < 2 → covered amount all ≡ 0 → filled runs preferential ts usable order f amount ≡ plain 0 (nothing (length usable))
  unfolding carry cover
  uncovered runs h e =
      let z : covered amount (worth ts usable) ≡ 0 = rw w at e in
      otherwise runs (inl h) ∙ rw (z, fill_none preferential ts usable order)

-- ---- where filling does not go through the issues

module _ (runs all amount : ℕ) where
  pub idle-forced : 2 ≤ runs → all < amount → Idle runs all amount
  idle-forced h l = record {
    same = λ preferential ts usable order order' f w.
        third-short preferential ts usable order f amount w runs h l ∙ sym (third-short preferential ts usable order' f amount w runs h l);
  }

  pub idle-uncovered : runs < 2 → covered amount all ≡ 0 → Idle runs all amount
  idle-uncovered h e = record {
    same = λ preferential ts usable order order' f w.
        uncovered preferential ts usable order f amount w runs h e ∙ sym (uncovered preferential ts usable order' f amount w runs h e);
  }

-- ---- for callers: no more may be used than was notified

pub allocable_most : (runs : ℕ) (m : Marks) (notified scheduled : ℕ) → allocable runs m notified scheduled ≤ notified
unfolding allocable
allocable_most zero m notified scheduled = pick-elim (λ n. n ≤ notified) (eqb m.redeemed 0) (min notified scheduled) 0 (omega arith) zero-le
allocable_most (suc runs) m notified scheduled = pick-elim (λ n. n ≤ notified) (unmarked m) notified 0 (omega arith) zero-le
