-- An issue's turn: the code's numbers, by what its calls ensure of them, are the rule's. Assumes nothing.
use mathlib.Core.Path.{◌≡◌, sym, ap, ◌∙◌}
use Prim.Native.Nat.{ℕ, ◌+◌, ◌-◌, ◌*◌, ◌/◌, ◌≤◌, ◌<◌, min, max}
use native.Mathlib.Nat.{le_refl}
use native.Mathlib.Decide.{dec_le}
use native.Mathlib.Omega.{arith}
use Rattle.rule.specs.Value.{Terms, value, fewest, most}
use Rattle.rule.specs.Filling.{unit, target}
use Rattle.rule.proofs.ValueLaws.{value-zero, fewest-reaches, fewest-least, most-keeps, most-greatest}
use Rattle.value.specs.Range.{most_lots, most_yen}
use Rattle.value.specs.Quote.{QuoteOf}
use Rattle.value.specs.declared.Quote.{Quote}
use Rattle.value.proofs.QuoteLaws.{some-price, worth-least, one_value, of-all}
use Rattle.turns.specs.Turns.{besides, Part, WithLotsAsks, FurtherLotsAsks, TakeUpToAsks, TakeUnitsAsks, Turned, WithLotsGives, lots_up_to, whole_units}
use Rattle.turns.specs.Passes.{bound_of, NextAsks}
use Rattle.turns.specs.declared.Turn.{Turn}
use Rattle.turns.specs.declared.Pass.{Pass}
use Rattle.turns.specs.declared.Pass.TheVariants.{Units, Remainders}

-- what a call on a quote ensures, for all terms of the quote
abbrev pub Ensured : Quote → (Terms → ℕ) → ℕ → Type 0
Ensured q f n = (t : Terms) → QuoteOf t q → n ≡ f t

-- for callers: where a match stands at the turn of an issue of these terms
pub part-of : {t : Terms} {q : Quote} → QuoteOf t q → {had reached : ℕ} → value t had ≤ reached → reached ≤ most_yen → Part q had reached
part-of p {had} h most = record { within = λ u r. omega (arith, one_value p r had); reached_most = most }

-- the match has no lot of the issue
pub besides-none : (t : Terms) {had : ℕ} (reached : ℕ) → had ≡ 0 → reached ≡ besides t had reached
besides-none t reached e = omega (arith, value-zero t, ap (value t) e)

alone : (q : Quote) {had : ℕ} (reached : ℕ) → had ≡ 0 → Ensured q (λ t. besides t had reached) reached
alone q reached e t p = besides-none t reached e

module _ {q : Quote} {had reached : ℕ} (s : Part q had reached) where
  -- a lot is worth a yen or more
  pub had-most : had ≤ most_lots
  had-most = of-all q (λ t p. omega (arith, worth-least p had, s.within t p, s.reached_most))

  -- what the issue is worth, in the match
  pub part-there : {part : ℕ} → Ensured q (λ t. value t had) part → part ≤ reached
  part-there e = of-all q (λ t p. omega (arith, e t p, s.within t p))

-- ---- all up to a bound, or the fewest that reach the amount

-- the match has that much
pub up_none : {had bound reached amount : ℕ} → TakeUpToAsks had bound reached amount → (t : Terms) → bound ≤ had → lots_up_to t bound had reached amount ≡ had
unfolding lots_up_to
up_none p t h = omega (arith, p.bounded)

-- what is short, beside the others
module _ {q : Quote} {had reached amount : ℕ} (s : Part q had reached) (p : FurtherLotsAsks reached amount) {rest : ℕ} (o : Ensured q (λ t. besides t had reached) rest) where
  rest-most : rest ≤ reached
  rest-most = of-all q (λ t r. omega (arith, o t r))

  pub rest_below : rest < amount
  rest_below = omega (arith, rest-most, p.below)

  -- the fewest lots that reach are no fewer than the match has
  more : {t : Terms} → QuoteOf t q → had ≤ fewest t (amount - rest)
  more {t} r = go (dec_le had (fewest t (amount - rest)))
    where
      go : Dec (had ≤ fewest t (amount - rest)) → had ≤ fewest t (amount - rest)
      go (yes h) = h
      go (no h) = absurd (omega (arith, fewest-reaches t (some-price r) (amount - rest) {n = had} (omega arith), o t r, s.within t r, p.below))

  needed : {need n : ℕ} → need ≡ amount - rest → Ensured q (λ t. fewest t need) n → Ensured q (λ t. fewest t (amount - rest)) n
  needed s e t r = rw s at (e t r)

  pub further-most : {need n : ℕ} → need ≡ amount - rest → Ensured q (λ t. fewest t need) n → had ≤ n
  further-most s e = of-all q (λ t r. omega (arith, more r, needed s e t r))

  pub further : {need n m : ℕ} → need ≡ amount - rest → Ensured q (λ t. fewest t need) n → m ≡ n - had
      → Ensured q (λ t. fewest t (amount - besides t had reached) - had) m
  further s e d t r = let f = needed s e t r in d ∙ rw (← o t r) (ap (λ (n : ℕ). n - had) f)

  module _ {bound : ℕ} (b : TakeUpToAsks had bound reached amount) where
    pub bound-addable : WithLotsAsks rest bound
    bound-addable = record { lots_most = b.bound_most; others_most = omega (arith, rest_below, p.amount_most) }

    -- all of it stays below the amount
    pub up-all : {t : Terms} {x : Turn} → QuoteOf t q → WithLotsGives q rest bound x → x.reached.0 < amount → Turned t (besides t had reached) (lots_up_to t bound had reached amount) x
    unfolding lots_up_to
    up-all {t} {x} r a low = go (dec_le (fewest t (amount - besides t had reached)) bound)
      where
        go : Dec (fewest t (amount - besides t had reached) ≤ bound) → Turned t (besides t had reached) (min bound (max had (fewest t (amount - besides t had reached)))) x
        go (yes h) = absurd (omega (arith, fewest-reaches t (some-price r) (amount - besides t had reached) h, o t r, (a t r).worth))
        go (no h) =
            let e : min bound (max had (fewest t (amount - besides t had reached))) ≡ bound = omega (arith, b.bounded) in
            rw (e, ← o t r) (a t r)

    -- not all of it is needed
    module _ {x : Turn} (v : WithLotsGives q rest bound x) (enough : amount ≤ x.reached.0) {need n : ℕ} (d : need ≡ amount - rest) (e : Ensured q (λ t. fewest t need) n) where
      few : {t : Terms} → QuoteOf t q → fewest t (amount - rest) ≤ bound
      few {t} r = fewest-least t (some-price r) (amount - rest) (omega (arith, (v t r).worth))

      pub few-addable : WithLotsAsks rest n
      few-addable = record {
        lots_most = of-all q (λ t r. omega (arith, needed d e t r, few r, b.bound_most));
        others_most = omega (arith, rest_below, p.amount_most);
      }

      pub up-few : {t : Terms} {x : Turn} → QuoteOf t q → WithLotsGives q rest n x → Turned t (besides t had reached) (lots_up_to t bound had reached amount) x
      unfolding lots_up_to
      up-few {t} r a =
          let k : min bound (max had (fewest t (amount - rest))) ≡ n = omega (arith, needed d e t r, few r, more r) in
          rw (← o t r, k) (a t r)

-- ---- whole units within the target

-- no whole unit may be used
pub units-none : {had usable reached goal : ℕ} → TakeUnitsAsks had usable reached goal → (t : Terms) → usable < unit → whole_units t usable had reached goal ≡ had
unfolding whole_units
units-none {usable = usable} p t h =
    let e : usable / unit ≡ 0 = omega arith in
    rw e (omega (arith, p.none))

units-addable : {had usable reached goal n : ℕ} → TakeUnitsAsks had usable reached goal → n ≤ usable → WithLotsAsks reached n
units-addable p h = record { lots_most = omega (arith, h, p.usable_most); others_most = omega (arith, p.kept, p.goal_most) }

module _ {q : Quote} {had usable reached goal : ℕ} (p : TakeUnitsAsks had usable reached goal) where
  -- the match has no lot of the issue: all of it are others
  abbrev o : Ensured q (λ t. besides t had reached) reached
  o = alone q reached p.none

  module _ {t : Terms} (r : QuoteOf t q) where
    -- n lots beside the others stay within the target, or do not
    within : {n : ℕ} → reached + value t n ≤ goal → n ≤ most t (goal - reached)
    within {n} h = most-greatest t (some-price r) (goal - reached) {n = n} (omega arith)

    past : {n : ℕ} → goal < reached + value t n → most t (goal - reached) < n
    past {n} h = go (dec_le n (most t (goal - reached)))
      where
        go : Dec (n ≤ most t (goal - reached)) → most t (goal - reached) < n
        go (yes k) = absurd (omega (arith, most-keeps t (some-price r) (goal - reached) k, p.kept))
        go (no k) = omega arith

    pub units-all : {n : ℕ} {x : Turn} → n ≡ usable / unit * unit → WithLotsGives q reached n x → x.reached.0 ≤ goal
        → Turned t (besides t had reached) (whole_units t usable had reached goal) x
    unfolding whole_units
    units-all {n} e a low =
        let d : min (usable / unit) (most t (goal - reached) / unit) * unit ≡ n = omega (arith, within {n = n} (omega (arith, (a t r).worth))) in
        rw (← o t r, d) (a t r)

    -- not one unit stays within it
    pub units-one : goal < reached + value t unit → whole_units t usable had reached goal ≡ had
    unfolding whole_units
    units-one h =
        let d : min (usable / unit) (most t (goal - reached) / unit) * unit ≡ 0 = omega (arith, past {n = unit} h) in
        rw (← o t r, d) (sym p.none)

  -- not all whole units stay within it
  module _ {whole : ℕ} {x : Turn} (w : whole ≡ usable / unit * unit) (v : WithLotsGives q reached whole x) (some : goal < x.reached.0)
      {room n : ℕ} (s : room ≡ goal - reached) (e : Ensured q (λ t. most t room) n) where
    within-room : Ensured q (λ t. most t (goal - reached)) n
    within-room t r = rw s at (e t r)

    less : {t : Terms} → QuoteOf t q → n < whole
    less {t} r = omega (arith, within-room t r, past r {n = whole} (omega (arith, (v t r).worth)))

    most_few : n ≤ usable
    most_few = of-all q (λ t r. omega (arith, less r))

    module _ {m : ℕ} (d : m ≡ n / unit * unit) where
      pub most-addable : WithLotsAsks reached m
      most-addable = units-addable p (omega (arith, most_few))

      pub units-most : {t : Terms} {x : Turn} → QuoteOf t q → WithLotsGives q reached m x → Turned t (besides t had reached) (whole_units t usable had reached goal) x
      unfolding whole_units
      units-most {t} r a =
          let k : min (usable / unit) (most t (goal - reached) / unit) * unit ≡ m = omega (arith, within-room t r, less r) in
          rw (← o t r, k) (a t r)

-- ---- a pass

module _ {had usable reached amount : ℕ} where
  pub rounding : NextAsks Units had usable reached amount → TakeUnitsAsks had usable reached (target amount)
  unfolding target
  rounding p = record {
    none = p.fresh.0;
    usable_most = p.usable_most;
    kept = p.fresh.1;
    goal_most = omega (arith, p.short.amount_most);
  }

  raising : {pass : Pass} {bound : ℕ} → NextAsks pass had usable reached amount → bound ≡ bound_of pass usable had → bound ≤ most_lots → TakeUpToAsks had bound reached amount
  raising p e h = record { short = p.short; bounded = rw e p.bounded; bound_most = h }

  -- ---- the second pass

  module _ (p : NextAsks Remainders had usable reached amount) where
    -- beside the whole units of what may be used there is its remainder
    bound-remainder : {whole : ℕ} → whole ≡ usable / unit * unit → had + (usable - whole) ≡ bound_of Remainders usable had
    bound-remainder e = omega (arith, p.fresh)

    -- which is none
    pub remainder-none : {whole rest : ℕ} → whole ≡ usable / unit * unit → rest ≡ usable - whole → rest ≡ 0
        → (t : Terms) → lots_up_to t (bound_of Remainders usable had) had reached amount ≡ had
    remainder-none e r z t =
        let b : had ≡ bound_of Remainders usable had = omega (arith, bound-remainder e) in
        rw (← b) (up_none (raising p b (omega (arith, p.within, p.usable_most))) t (le_refl had))
