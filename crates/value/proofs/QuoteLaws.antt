-- A quote in place of the terms. For callers: what a quote says of a value. For the proofs of this crate: the rule's value, fewest and most
-- as one division each. Assumes nothing.
use mathlib.Core.Path.{◌≡◌, sym, ◌∙◌}
use Prim.Native.Nat.{ℕ, suc, ◌+◌, ◌-◌, ◌*◌, ◌/◌, ◌≤◌, ◌<◌}
use native.Mathlib.Nat.{le_refl, mul-le-mul, div-add-mod', mod-lt, le-div_iff_mul-le, div-lt_iff_lt-mul}
use native.Mathlib.Omega.{arith}
use lib.Dec.{leb, eqb}
use borrow.Author.Tests.{leb-true, le-leb, eqb-true, eq-eqb}
use Rattle.lists.proofs.TestLaws.{and_left, and_right, go}
use Rattle.rule.specs.Value.{Terms, value, fewest, most}
use Rattle.rule.proofs.ValueLaws.{least_worth, lot-worth, fewest-reaches, fewest-least, most-keeps, most-greatest}
use Rattle.value.specs.Range.{InRange, most_lots}
use Rattle.value.specs.Quote.{rate, is_quote, QuoteOf}
use Rattle.value.specs.declared.Quote.{Quote}

-- ---- a quote is opened and shut: in this crate alone

-- what it says of its terms
pub record Parts (t : Terms) (q : Quote) : Type 0 where
  pub priced : 1_000 ≤ t.price
  pub rate_is : q.rate ≡ rate t

pub opened : {t : Terms} {q : Quote} → QuoteOf t q → Parts t q
unfolding is_quote
opened {t} {q} p = record {
  priced = leb-true _ _ (and_left (leb 1_000 t.price) (eqb q.rate (rate t)) p.holds);
  rate_is = eqb-true _ _ (and_right (leb 1_000 t.price) (eqb q.rate (rate t)) p.holds);
}

pub shut : {t : Terms} {q : Quote} → Parts t q → QuoteOf t q
unfolding is_quote
shut p = record { holds = go _ _ (le-leb _ _ p.priced) (eq-eqb _ _ p.rate_is) }

pub rate-of : {price coupon days : ℕ} → InRange price coupon days → {q : Quote} → q.rate ≡ 3650 * price + coupon * days
    → (t : Terms) → t.price ≡ price → t.coupon ≡ coupon → t.days ≡ days → QuoteOf t q
unfolding rate
rate-of r e t p c d = shut (record { priced = rw p r.price_least; rate_is = cc })

value-rate : (t : Terms) (n : ℕ) → n * rate t / 730 ≡ value t n
unfolding value rate
value-rate t n = omega arith

module _ {t : Terms} {q : Quote} (p : QuoteOf t q) where
  pub value-closed : (n : ℕ) → n * q.rate / 730 ≡ value t n
  value-closed n = rw (opened p).rate_is (value-rate t n)

  -- further lots are worth no less than so many times the rate
  pub least-below : (n lots : ℕ) → value t n + lots / 730 * q.rate ≤ value t (n + lots)
  least-below n lots =
      let h : 730 * (lots / 730) ≤ lots = omega arith in
      omega (arith, value-closed n, value-closed (n + lots), mul-le-mul h (le_refl q.rate))

-- ---- for callers

-- what lots are worth at most
abbrev pub most_worth : ℕ
most_worth = 1_600_273_972_602_739

module _ {t : Terms} {q : Quote} (p : QuoteOf t q) where
  pub some-price : 0 < t.price
  some-price = omega (arith, (opened p).priced)

  pub worth-least : (n : ℕ) → least_worth * n ≤ value t n
  worth-least n = lot-worth t (opened p).priced n

  pub worth-most : {n : ℕ} → n ≤ most_lots → value t n ≤ most_worth
  worth-most {n} h = omega (arith, value-closed p n, mul-le-mul h q.rated.most)

  -- two issues of one quote have one value
  pub one_value : {u : Terms} → QuoteOf u q → (n : ℕ) → value t n ≡ value u n
  one_value {u} r n = sym (value-closed p n) ∙ value-closed r n

-- Every quote is that of some terms. What is so of all of them is so
module _ (q : Quote) where
  some-terms : Terms
  some-terms = record { kind = 0; price = 1000; coupon = q.rate - 3_650_000; days = 1 }

  some-quote : QuoteOf some-terms q
  unfolding rate some-terms
  some-quote = shut (record { priced = le_refl 1000; rate_is = omega (arith, q.rated.least) })

  pub of-all : {a b : ℕ} → ((t : Terms) → QuoteOf t q → a ≤ b) → a ≤ b
  of-all h = h some-terms some-quote

-- ---- fewest and most: of the quotient and the rule's number each is at most the other

module _ {w : ℕ} (some : 0 < w) (v : ℕ) where
  -- so many lots reach v, and no fewer do
  reaches : v ≤ (730 * v + (w - 1)) / w * w / 730
  reaches = omega (arith, div-add-mod' (730 * v + (w - 1)) w, mod-lt (730 * v + (w - 1)) some)

  least : {n : ℕ} → v ≤ n * w / 730 → (730 * v + (w - 1)) / w ≤ n
  least {n} h = let k : (730 * v + (w - 1)) / w < suc n = (div-lt_iff_lt-mul some).1 (omega arith) in omega arith

  -- so many lots stay within v, and no more do
  keeps : (730 * v + 729) / w * w / 730 ≤ v
  keeps = omega (arith, div-add-mod' (730 * v + 729) w)

  greatest : {n : ℕ} → n * w / 730 ≤ v → n ≤ (730 * v + 729) / w
  greatest h = (le-div_iff_mul-le some).1 (omega arith)

module _ {t : Terms} {q : Quote} (p : QuoteOf t q) (v : ℕ) where
  some : 0 < q.rate
  some = omega (arith, q.rated.least)

  pub fewest-closed : (730 * v + (q.rate - 1)) / q.rate ≡ fewest t v
  fewest-closed =
      let m : ℕ = (730 * v + (q.rate - 1)) / q.rate in
      omega (
        arith,
        least some v {n = fewest t v} (rw (value-closed p (fewest t v)) (fewest-reaches t (some-price p) v (omega arith))),
        fewest-least t (some-price p) v {n = m} (rw (value-closed p m) at (reaches some v)),
      )

  pub most-closed : (730 * v + 729) / q.rate ≡ most t v
  most-closed =
      let m : ℕ = (730 * v + 729) / q.rate in
      omega (
        arith,
        greatest some v {n = most t v} (rw (value-closed p (most t v)) (most-keeps t (some-price p) v (omega arith))),
        most-greatest t (some-price p) v {n = m} (rw (value-closed p m) at (keeps some v)),
      )
