-- What all usable lots are worth, summed issue by issue. Assumes nothing.
use mathlib.Core.Path.{◌≡◌, refl, sym, ap, ◌∙◌}
use Prim.Native.Nat.{ℕ, zero, suc, ◌+◌, ◌*◌, ◌≤◌, ◌<◌}
use native.Mathlib.Nat.{not-suc-le-zero, le_of_suc-le-suc, le_refl}
use native.Mathlib.Numerals.{add-one}
use native.Mathlib.Omega.{arith}
use mathlib.Core.List.{List, [], ◌∷◌}
use lib.ListN.{length, get_or, set, take}
use lib.Seq.{take-set-le}
use Rattle.rule.specs.Value.{Terms, no_terms, value}
use Rattle.rule.specs.Filling.{worth}
use Rattle.rule.proofs.ValueLaws.{value-zero}
use Rattle.value.specs.Range.{most_lots, most_sum}
use Rattle.value.specs.Quote.{QuoteOf}
use Rattle.value.specs.Quotes.{Quotes}
use Rattle.value.specs.declared.Quote.{Quote}
use Rattle.value.proofs.QuoteLaws.{most_worth, worth-most, of-all}
use Rattle.value.proofs.TermLaws.{quote-at}

worth-more : (ts : List Terms) (ns : List ℕ) (k : ℕ) → k < length ns → k < length ts
    → worth ts (take (suc k) ns) ≡ worth ts (take k ns) + value (get_or ts k no_terms) (get_or ns k 0)
unfolding worth
worth-more ts [] k h l = absurd (not-suc-le-zero h)
worth-more [] (n ∷ ns) k h l = absurd (not-suc-le-zero l)
worth-more (t ∷ ts) (n ∷ ns) zero h l = omega arith
worth-more (t ∷ ts) (n ∷ ns) (suc k) h l = omega (arith, worth-more ts ns k (le_of_suc-le-suc h) (le_of_suc-le-suc l))

-- so far the first i issues are summed
pub record Summed (issues : ℕ) (usable : List ℕ) (quotes : List Quote) (sum i : ℕ) : Type 0 where
  pub at : i ≤ issues
  pub small : sum ≤ i * most_worth
  pub summed : (ts : List Terms) → length ts ≡ issues → Quotes ts quotes → sum ≡ worth ts (take i usable)

-- ---- a value added to a sum

pub part_small : (q : Quote) {lots part : ℕ} → lots ≤ most_lots → ((t : Terms) → QuoteOf t q → part ≡ value t lots) → part ≤ most_worth
part_small q {lots} h e = of-all q (λ t p. omega (arith, e t p, worth-most p {n = lots} h))

pub nothing-added : {lots : ℕ} (sum : ℕ) → lots ≡ 0 → (t : Terms) → sum ≡ sum + value t lots
nothing-added {lots} sum e t = omega (arith, ap (value t) e, value-zero t)

pub sum_small : (q : Quote) {lots next : ℕ} (sum : ℕ) → lots ≤ most_lots → ((t : Terms) → QuoteOf t q → next ≡ sum + value t lots) → next ≤ sum + most_worth
sum_small q {lots} sum h e = of-all q (λ t p. omega (arith, e t p, worth-most p {n = lots} h))

-- ---- issue by issue

module _ {issues : ℕ} {usable : List ℕ} {quotes : List Quote} where
  pub sum-none : Summed issues usable quotes 0 0
  unfolding worth
  sum-none = record { at = omega arith; small = omega arith; summed = λ ts sized quoted. refl }

  pub sum_most : {sum i : ℕ} → issues ≤ 32 → Summed issues usable quotes sum i → sum ≤ most_sum
  sum_most few s = omega (arith, s.at, s.small)

  pub sum_more : {q : Quote} {sum next i : ℕ} → i < issues → i < length usable → q ≡ get_or quotes i q → get_or usable i 0 ≤ most_lots
      → ((t : Terms) → QuoteOf t q → next ≡ sum + value t (get_or usable i 0)) → Summed issues usable quotes sum i → Summed issues usable quotes next (i + 1)
  sum_more {q} {sum} {i = i} h l here few e s = record {
    at = omega arith;
    small = omega (arith, s.small, sum_small q sum few e);
    summed = λ ts sized quoted.
        rw add-one (omega (
          arith,
          worth-more ts usable i l (omega arith),
          s.summed ts sized quoted,
          e (get_or ts i no_terms) (quote-at (quoted.each i (omega arith)) here),
        ));
  }

  pub sum-all : {sum i : ℕ} → Summed issues usable quotes sum i → issues ≤ i
      → (ts : List Terms) → length ts ≡ issues → Quotes ts quotes → sum ≡ worth ts (take issues usable)
  sum-all {i = i} s h ts sized quoted = let q : i ≡ issues = omega (arith, s.at) in rw q at (s.summed ts sized quoted)

-- a cell that is not summed yet is written
pub sum_kept : {issues : ℕ} {usable : List ℕ} {quotes : List Quote} {sum i : ℕ} (v : ℕ) → Summed issues usable quotes sum i → Summed issues (set usable i v) quotes sum i
sum_kept {usable = usable} {i = i} v s = record {
  at = s.at;
  small = s.small;
  summed = λ ts sized quoted. s.summed ts sized quoted ∙ ap (worth ts) (sym (take-set-le i usable i v (le_refl i)));
}
