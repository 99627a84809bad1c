-- Soundness as facts, group by group of its tests, and both ways. Assumes nothing.
use mathlib.Core.Path.{◌≡◌}
use mathlib.Core.Logic.{◌⊎◌, inl, inr}
use Prim.Native.Nat.{ℕ, ◌+◌, ◌*◌, ◌≤◌, ◌<◌}
use native.Mathlib.Decide.{dec_lt}
use native.Mathlib.Omega.{arith}
use mathlib.Core.Bool.{Bool, true, ◌&&◌, ◌||◌}
use mathlib.Core.List.{List}
use lib.Dec.{leb, ltb, eqb}
use borrow.Author.Tests.{le-leb, leb-true, lt-ltb, ltb-true, eq-eqb, eqb-true}
use Rattle.lists.specs.Tests.{all_below}
use Rattle.lists.specs.Tables.{row, cell}
use Rattle.lists.specs.Folds.{sum, joined, Every}
use Rattle.lists.proofs.FoldLaws.{every-parts, every-join}
use Rattle.lists.proofs.TestLaws.{each-holds, holds-all, or_left, or_right, all-at, all_of, and_left, and_right, or_cases, go}
use Rattle.rule.specs.Isin.{codes_right}
use Rattle.rule.specs.Day.{Given, Day, baskets}
use Rattle.rule.specs.Sound.{sizes_fit, all_terms_fit, at_most, receipts_fit, pairs_fit, tradable, position_limit, notice_limit, tally_limit, trade_limit, limit_tests, given_tests, position_tests, tally_tests, sound_tests, sound}

-- every cell of n rows of m is at most a bound
abbrev pub Most : ℕ → ℕ → ℕ → List (List ℕ) → Type 0
Most bound n m t = (p i : ℕ) → p < n → i < m → cell t p i ≤ bound

pub most-of : (bound n m : ℕ) (t : List (List ℕ)) → at_most bound n m t ≡ true → Most bound n m t
unfolding at_most
most-of bound n m t h p i l k =
    leb-true (cell t p i) bound (all-at (λ i. leb (cell t p i) bound) m (all-at (λ p. all_below m (λ i. leb (cell t p i) bound)) n h p l) i k)

pub of-most : (bound n m : ℕ) (t : List (List ℕ)) → Most bound n m t → at_most bound n m t ≡ true
unfolding at_most
of-most bound n m t h =
    all_of (λ p. all_below m (λ i. leb (cell t p i) bound)) n (λ p l. all_of (λ i. leb (cell t p i) bound) m (λ i k. le-leb (cell t p i) bound (h p i l k)))

-- the sizes of a day
pub record Sizes (n m : ℕ) : Type 0 where
  pub two : 2 ≤ n
  pub few : n ≤ 12
  pub one : 1 ≤ m
  pub most : m ≤ 32

pub sizes-of : (n m : ℕ) → sizes_fit n m ≡ true → Sizes n m
unfolding sizes_fit
sizes-of n m h =
    let three : (leb 2 n && leb n 12 && leb 1 m) ≡ true = and_left (leb 2 n && leb n 12 && leb 1 m) (leb m 32) h in
    let pair : (leb 2 n && leb n 12) ≡ true = and_left (leb 2 n && leb n 12) (leb 1 m) three in
    record {
      two = leb-true 2 n (and_left (leb 2 n) (leb n 12) pair);
      few = leb-true n 12 (and_right (leb 2 n) (leb n 12) pair);
      one = leb-true 1 m (and_right (leb 2 n && leb n 12) (leb 1 m) three);
      most = leb-true m 32 (and_right (leb 2 n && leb n 12 && leb 1 m) (leb m 32) h);
    }

-- every test of a group holds
abbrev pub All : List Bool → Type 0
All ts = Every (λ t. t ≡ true) ts

-- ---- "runs done are at most 3, .. notice and trade limits hold"

pub record Limited (n m done made : ℕ) (lots : List (List ℕ)) : Type 0 where
  pub runs : done ≤ 3
  pub notices : Most notice_limit n m lots
  pub trades : made ≤ trade_limit

limits-of : (y : Day) → All (limit_tests y) → Limited y.given.participants y.given.issues y.state.runs y.state.trades y.state.notices
limits-of y (runs, (notices, (trades, _))) =
    record {
      runs = leb-true y.state.runs 3 runs;
      notices = most-of notice_limit y.given.participants y.given.issues y.state.notices notices;
      trades = leb-true y.state.trades trade_limit trades;
    }

of-limits : (y : Day) → Limited y.given.participants y.given.issues y.state.runs y.state.trades y.state.notices → All (limit_tests y)
of-limits y l =
    (le-leb y.state.runs 3 l.runs, (of-most notice_limit y.given.participants y.given.issues y.state.notices l.notices, (le-leb y.state.trades trade_limit l.trades, tt)))

-- ---- ".. all opening ranges, codes .. hold", "pair marks are 0 or 1 with none on oneself": what opening brought

pub record SoundGiven (g : Given) : Type 0 where
  pub sizes : sizes_fit g.participants g.issues ≡ true
  pub codes : codes_right g.codes ≡ true
  pub terms : all_terms_fit g.issues g.terms g.marks ≡ true
  pub receipts : receipts_fit g.participants g.issues g.receipts ≡ true
  pub pairs : pairs_fit g.participants g.pairs ≡ true

given-of : (g : Given) → All (given_tests g) → SoundGiven g
given-of g (sizes, (codes, (terms, (receipts, (pairs, _))))) =
    record {
      sizes = sizes;
      codes = codes;
      terms = terms;
      receipts = receipts;
      pairs = pairs;
    }

of-given : (g : Given) → SoundGiven g → All (given_tests g)
of-given g s = (s.sizes, (s.codes, (s.terms, (s.receipts, (s.pairs, tt)))))

-- ---- "positions are within 10^13 and sum to zero per basket, a basket with a position has an unmarked issue"

-- a basket's positions are all 0, or it has an unmarked issue
abbrev pub Free : Given → List (List ℕ) → List (List ℕ) → ℕ → Type 0
Free g owed due k = (sum (row owed k) + sum (row due k) ≡ 0) ⊎ (tradable k g.terms g.marks ≡ true)

pub record SoundPositions (g : Given) (out back : List (List ℕ)) : Type 0 where
  pub owed : Most position_limit baskets g.participants out
  pub due : Most position_limit baskets g.participants back
  pub even : (k : ℕ) → k < baskets → sum (row out k) ≡ sum (row back k)
  pub tradable : (k : ℕ) → k < baskets → Free g out back k

free-or-tradable : (a b : ℕ) (t : Bool) → (eqb (a + b) 0 || t) ≡ true → (a + b ≡ 0) ⊎ (t ≡ true)
free-or-tradable a b t h = cases (or_cases (eqb (a + b) 0) t h)
  where
    cases : (eqb (a + b) 0 ≡ true) ⊎ (t ≡ true) → (a + b ≡ 0) ⊎ (t ≡ true)
    cases (inl e) = inl (eqb-true (a + b) 0 e)
    cases (inr e) = inr e

tradable-or-free : (a b : ℕ) (t : Bool) → (a + b ≡ 0) ⊎ (t ≡ true) → (eqb (a + b) 0 || t) ≡ true
tradable-or-free a b t (inl e) = or_left (eqb (a + b) 0) t (eq-eqb (a + b) 0 e)
tradable-or-free a b t (inr e) = or_right (eqb (a + b) 0) t e

module _ (y : Day) where
  abbrev g : Given
  g = y.given

  abbrev out : List (List ℕ)
  out = y.state.owed

  abbrev back : List (List ℕ)
  back = y.state.due

  positions-of : All (position_tests y) → SoundPositions g out back
  positions-of (owed, (due, (even, (free, _)))) =
      record {
        owed = most-of position_limit baskets g.participants out owed;
        due = most-of position_limit baskets g.participants back due;
        even = λ k l. eqb-true (sum (row out k)) (sum (row back k)) (all-at (λ k. eqb (sum (row out k)) (sum (row back k))) baskets even k l);
        tradable = λ k l.
            free-or-tradable (sum (row out k)) (sum (row back k)) (tradable k g.terms g.marks)
            (all-at (λ k. eqb (sum (row out k) + sum (row back k)) 0 || tradable k g.terms g.marks) baskets free k l);
      }

  of-positions : SoundPositions g out back → All (position_tests y)
  of-positions p = (
    of-most position_limit baskets g.participants out p.owed,
    (
      of-most position_limit baskets g.participants back p.due,
      (
        all_of (λ k. eqb (sum (row out k)) (sum (row back k))) baskets (λ k l. eq-eqb _ _ (p.even k l)),
        (
          all_of (λ k. eqb (sum (row out k) + sum (row back k)) 0 || tradable k g.terms g.marks) baskets (λ k l.
              tradable-or-free (sum (row out k)) (sum (row back k)) (tradable k g.terms g.marks) (p.tradable k l)),
          tt,
        ),
      ),
    ),
  )

-- ---- "a tally is within 10^11 × runs done"

pub record Tallied (n m done : ℕ) (out back : List (List ℕ)) : Type 0 where
  pub delivered : Most (tally_limit * done) n m out
  pub received : Most (tally_limit * done) n m back

tallies-of : (y : Day) → All (tally_tests y) → Tallied y.given.participants y.given.issues y.state.runs y.state.delivered y.state.received
tallies-of y (delivered, (received, _)) =
    record {
      delivered = most-of (tally_limit * y.state.runs) y.given.participants y.given.issues y.state.delivered delivered;
      received = most-of (tally_limit * y.state.runs) y.given.participants y.given.issues y.state.received received;
    }

of-tallies : (y : Day) → Tallied y.given.participants y.given.issues y.state.runs y.state.delivered y.state.received → All (tally_tests y)
of-tallies y t = (
  of-most (tally_limit * y.state.runs) y.given.participants y.given.issues y.state.delivered t.delivered,
  (of-most (tally_limit * y.state.runs) y.given.participants y.given.issues y.state.received t.received, tt),
)

-- ---- "after three runs positions and notices are zero"

pub record Zeroed (n m : ℕ) (out back lots : List (List ℕ)) : Type 0 where
  pub owed : Most 0 baskets n out
  pub due : Most 0 baskets n back
  pub notices : Most 0 n m lots

module _ (n m : ℕ) (owed due notices : List (List ℕ)) where
  abbrev zeros_there : Bool
  zeros_there = at_most 0 baskets n owed && at_most 0 baskets n due && at_most 0 n m notices

  zeroed-of : zeros_there ≡ true → Zeroed n m owed due notices
  zeroed-of h =
      let two : (at_most 0 baskets n owed && at_most 0 baskets n due) ≡ true = and_left (at_most 0 baskets n owed && at_most 0 baskets n due) (at_most 0 n m notices) h in
      record {
        owed = most-of 0 baskets n owed (and_left (at_most 0 baskets n owed) (at_most 0 baskets n due) two);
        due = most-of 0 baskets n due (and_right (at_most 0 baskets n owed) (at_most 0 baskets n due) two);
        notices = most-of 0 n m notices (and_right (at_most 0 baskets n owed && at_most 0 baskets n due) (at_most 0 n m notices) h);
      }

  of-zeroed : Zeroed n m owed due notices → zeros_there ≡ true
  of-zeroed z = go _ _ (go _ _ (of-most 0 baskets n owed z.owed) (of-most 0 baskets n due z.due)) (of-most 0 n m notices z.notices)

  end-of : (runs : ℕ) → (ltb runs 3 || zeros_there) ≡ true → runs ≡ 3 → Zeroed n m owed due notices
  end-of runs h e = cases (or_cases (ltb runs 3) zeros_there h)
    where
      cases : (ltb runs 3 ≡ true) ⊎ (zeros_there ≡ true) → Zeroed n m owed due notices
      cases (inl l) = absurd (omega (arith, ltb-true runs 3 l))
      cases (inr z) = zeroed-of z

  of-end : (runs : ℕ) → runs ≤ 3 → (runs ≡ 3 → Zeroed n m owed due notices) → (ltb runs 3 || zeros_there) ≡ true
  of-end runs l z = cases (dec_lt runs 3)
    where
      cases : Dec (runs < 3) → (ltb runs 3 || zeros_there) ≡ true
      cases (yes h) = or_left (ltb runs 3) zeros_there (lt-ltb runs 3 h)
      cases (no h) = or_right (ltb runs 3) zeros_there (of-zeroed (z (omega arith)))

-- ---- the whole

pub record SoundDay (y : Day) : Type 0 where
  pub limits : Limited y.given.participants y.given.issues y.state.runs y.state.trades y.state.notices
  pub given : SoundGiven y.given
  pub positions : SoundPositions y.given y.state.owed y.state.due
  pub tallies : Tallied y.given.participants y.given.issues y.state.runs y.state.delivered y.state.received
  pub today : pairs_fit y.given.participants y.state.today ≡ true
  pub done : y.state.runs ≡ 3 → Zeroed y.given.participants y.given.issues y.state.owed y.state.due y.state.notices

pub sound-facts : (y : Day) → sound y ≡ true → SoundDay y
unfolding sound
sound-facts y h = shown (every-parts (λ t. t ≡ true) (sound_tests y) (each-holds (joined (sound_tests y)) h))
  where
    shown : Every All (sound_tests y) → SoundDay y
    shown (limits, (given, (positions, (tallies, (today, (end, _)))))) = record {
      limits = limits-of y limits;
      given = given-of y.given given;
      positions = positions-of y positions;
      tallies = tallies-of y tallies;
      today = today.0;
      done = end-of y.given.participants y.given.issues y.state.owed y.state.due y.state.notices y.state.runs end.0;
    }

pub facts-sound : (y : Day) → SoundDay y → sound y ≡ true
unfolding sound
facts-sound y d =
    holds-all (joined (sound_tests y)) (every-join (λ t. t ≡ true) (sound_tests y) (
      of-limits y d.limits,
      (
        of-given y.given d.given,
        (
          of-positions y d.positions,
          (
            of-tallies y d.tallies,
            (
              (d.today, tt),
              ((of-end y.given.participants y.given.issues y.state.owed y.state.due y.state.notices y.state.runs d.limits.runs d.done, tt), tt),
            ),
          ),
        ),
      ),
    ))
