-- The quotes of the day's issues, written issue by issue, and what a sound day says of their terms. Assumes nothing.
use mathlib.Core.Path.{◌≡◌, refl, sym, ◌∙◌, subst}
use Prim.Native.Nat.{ℕ, ◌+◌, ◌≤◌, ◌<◌}
use native.Mathlib.Nat.{not-suc-le-zero}
use native.Mathlib.Omega.{arith}
use mathlib.Core.Bool.{Bool, true, ◌&&◌}
use mathlib.Core.List.{List, [], map}
use lib.ListN.{length, get_or, set, length-map, length-set, get_or-map}
use lib.Seq.{get_or-set_same, get_or-set_other}
use lib.Dec.{leb}
use borrow.Author.Count.{below_more}
use borrow.Author.Tests.{leb-true}
use Rattle.lists.proofs.TestLaws.{and_left, and_right, all-at}
use Rattle.rule.specs.Value.{Terms, no_terms}
use Rattle.rule.specs.Allocable.{Marks, no_marks}
use Rattle.rule.specs.Day.{price_at, coupon_at, days_at, terms_of}
use Rattle.rule.specs.Sound.{terms_fit, marks_fit, all_terms_fit}
use Rattle.value.specs.Range.{InRange}
use Rattle.value.specs.Quote.{QuoteOf}
use Rattle.value.specs.Quotes.{QuotedAt, Quotes, QuoteFillAsks}
use Rattle.value.specs.declared.Quote.{Quote}
use Rattle.value.proofs.QuoteLaws.{some-price}

-- for callers: a quote that was read in its place
pub quote-at : {t : Terms} {quotes : List Quote} {i : ℕ} → QuotedAt t quotes i → {q : Quote} → q ≡ get_or quotes i q → QuoteOf t q
quote-at {t} a {q} e = subst (λ (x : Quote). QuoteOf t x) (sym e) (a.quoted q)

-- and what it says of the terms, whoever reads it
pub priced-at : {t : Terms} {quotes : List Quote} {i : ℕ} → QuotedAt t quotes i → 0 < t.price
priced-at a = some-price (a.quoted (record { rate = 3_650_000; rated = record { least = omega arith; most = omega arith } }))

module _ (issues : List (List ℕ)) where
  abbrev ts : List Terms
  ts = map terms_of issues

  its-terms : (i : ℕ) → get_or ts i no_terms ≡ terms_of (get_or issues i [])
  its-terms i = get_or-map terms_of issues i []

  -- the first i issues have their quotes
  pub record QuotesTo (quotes : List Quote) (i : ℕ) : Type 0 where
    pub at : i ≤ length issues
    pub places : length quotes ≡ length issues
    pub each : (k : ℕ) → k < i → QuotedAt (get_or ts k no_terms) quotes k

  pub quotes-none : {quotes : List Quote} → length quotes ≡ length issues → QuotesTo quotes 0
  quotes-none places = record { at = omega arith; places = places; each = λ k h. absurd (not-suc-le-zero h) }

  module _ {quotes : List Quote} {i : ℕ} (r : QuotesTo quotes i) (h : i < length issues) {q : Quote} where
    pub quotes-more :
        ((t : Terms) → t.price ≡ get_or (get_or issues i []) price_at 0 → t.coupon ≡ get_or (get_or issues i []) coupon_at 0 → t.days ≡ get_or (get_or issues i []) days_at 0 → QuoteOf t q)
        → QuotesTo (set quotes i q) (i + 1)
    quotes-more e = record {
      at = omega arith;
      places = length-set quotes i q ∙ r.places;
      each = below_more (λ k. QuotedAt (get_or ts k no_terms) (set quotes i q) k) i
          (λ k l. record { quoted = λ past. rw (get_or-set_other quotes i k q past (omega arith)) ((r.each k l).quoted past) })
          (record { quoted = λ past. rw (get_or-set_same quotes i q past (omega (arith, r.places)), its-terms i) (e (terms_of (get_or issues i [])) refl refl refl) });
    }

  pub quotes-all : {quotes : List Quote} {i : ℕ} → QuotesTo quotes i → length issues ≤ i → Quotes ts quotes
  quotes-all r h = record { each = λ k l. r.each k (omega (arith, length-map issues terms_of)) }

-- ---- for callers: what a sound day says of its terms

fit-terms : (t : Terms) → terms_fit t ≡ true → InRange t.price t.coupon t.days
unfolding terms_fit
fit-terms t h =
    let k : Bool = leb t.kind 6 in
    let low : Bool = leb 1000 t.price in
    let high : Bool = leb t.price 30000 in
    let coupon : Bool = leb t.coupon 20000 in
    let days : Bool = leb t.days 366 in
    let c = and_left (k && low && high && coupon) days h in
    let d = and_left (k && low && high) coupon c in
    record {
      price_least = leb-true _ _ (and_right k low (and_left (k && low) high d));
      price_most = leb-true _ _ (and_right (k && low) high d);
      coupon_most = leb-true _ _ (and_right (k && low && high) coupon c);
      days_most = leb-true _ _ (and_right (k && low && high && coupon) days h);
    }

pub sound-termed : (n : ℕ) (issues : List (List ℕ)) (ms : List Marks) → length issues ≡ n → all_terms_fit n (map terms_of issues) ms ≡ true → QuoteFillAsks n issues
unfolding all_terms_fit
sound-termed n issues ms e fit = record {
  many = e;
  in_range = λ i h.
      let t : Terms = get_or (map terms_of issues) i no_terms in
      let x : Terms = terms_of (get_or issues i []) in
      let both = all-at (λ i. terms_fit (get_or (map terms_of issues) i no_terms) && marks_fit (get_or ms i no_marks)) n fit i h in
      subst (λ (u : Terms). InRange u.price u.coupon u.days) (get_or-map terms_of issues i [])
      (fit-terms t (and_left (terms_fit t) (marks_fit (get_or ms i no_marks)) both));
}
