-- Laws of the matches of a run: at most 77, each between two participants and filled as demand 2 says, no covered yen beyond a position,
-- and every position covered in the third run. Assumes nothing.
use mathlib.Core.Path.{◌≡◌, refl, sym, ap, ◌∙◌, subst}
use mathlib.Core.Logic.{◌≢◌}
use Prim.Native.Nat.{ℕ, ◌+◌, ◌≤◌, ◌<◌, min, zero-le}
use native.Mathlib.Decide.{dec_lt}
use native.Mathlib.Omega.{arith}
use mathlib.Core.Bool.{Bool, true, false, ◌&&◌}
use mathlib.Core.List.{List, [], ◌∷◌, ◌++◌, Memᴰ}
use lib.ListN.{length, get_or, get_or-eq_default}
use lib.Dec.{leb, eqb}
use borrow.Author.Tests.{leb-true, eq-eqb}
use Rattle.lists.specs.Tests.{pick}
use Rattle.lists.specs.Tables.{up_to, row, cell}
use Rattle.lists.specs.Folds.{foldl, total, Every}
use Rattle.lists.specs.Order.{ranked}
use Rattle.lists.proofs.TestLaws.{pick_yes, and_left, and_right, all-at}
use Rattle.lists.proofs.FoldLaws.{total-append, total-cong, total-bound, length-total, fold-kept, every_append, every-from, every_map, every-mem}
use Rattle.lists.proofs.TableLaws.{length-table}
use Rattle.lists.proofs.OrderLaws.{ranked-mem, ranked-below}
use Rattle.rule.specs.Allocable.{Marks, no_marks}
use Rattle.rule.specs.Value.{Terms, no_terms}
use Rattle.rule.specs.Matching.{OneZero, Match, plan}
use Rattle.rule.specs.Filling.{worth, filled, forced_issue, all_lots, match_lots}
use Rattle.rule.specs.Day.{Day}
use Rattle.rule.specs.Run.{Allocation, used_table, usable, issue_order, allocate, basket_plan, basket, allocations, covered_from, covered_to}
use Rattle.rule.specs.Sound.{terms_fit, all_terms_fit, marks_fit}
use Rattle.rule.proofs.SoundLaws.{Sizes, sizes-of, SoundDay}
use Rattle.rule.proofs.LayoutLaws.{Shaped, Signed}
use Rattle.rule.proofs.DrawLaws.{EachOnce, draw-names}
use Rattle.rule.proofs.MatchingLaws.{Positive, plan-positive, out_of, in_to, out-of-owed, in-to-due, few_matches, all-owed, all-due}
use Rattle.rule.proofs.FillingLaws.{Priced}
use Rattle.rule.proofs.FilledLaws.{Order, Fewest, FilledRight, filled-right, third-covers}
use Rattle.rule.proofs.FilledBounds.{FilledSized, filled-sized, forced-of-day}
use Rattle.rule.proofs.SumLaws.{every-there, total-mem, total-most, total-same, total-swap, total-one, total-both, total-each}

-- what an accepted run has shown, of a sound day
pub record Runnable (y : Day) (draw : List ℕ) : Type 0 where
  pub shaped : Shaped y
  pub signed : Signed y shaped
  pub day : SoundDay y
  pub runs : y.state.runs < 3
  pub once : EachOnce draw y.given.participants

-- ---- the matches of a run are those of the baskets, each filled

module _ (y : Day) where
  abbrev fill_next : ℕ → List (List ℕ) → List Allocation → Match → List Allocation
  fill_next k before done m = done ++ (allocate y k before done m ∷ [])

  abbrev basket_next : List ℕ → List Allocation → ℕ → List Allocation
  basket_next draw done k = done ++ basket y draw (used_table y.given done) k

  module _ (g : ℕ → Match → ℕ) where
    abbrev part : Allocation → ℕ
    part a = g a.basket a.match

    total-fills : (k : ℕ) (before : List (List ℕ)) (ms : List Match) (done : List Allocation) → total part (foldl (fill_next k before) done ms) ≡ total part done + total (g k) ms
    unfolding allocate
    total-fills k before [] done = omega arith
    total-fills k before (m ∷ ms) done =
        total-fills k before ms (fill_next k before done m) ∙ omega (arith, total-append part done (allocate y k before done m ∷ []))

    total-baskets : (draw ks : List ℕ) (done : List Allocation) → total part (foldl (basket_next draw) done ks) ≡ total part done + total (λ k. total (g k) (basket_plan y draw k)) ks
    unfolding basket
    total-baskets draw [] done = omega arith
    total-baskets draw (k ∷ ks) done =
        total-baskets draw ks (basket_next draw done k)
        ∙ omega (
          arith,
          total-append part done (basket y draw (used_table y.given done) k),
          total-fills k (used_table y.given done) (basket_plan y draw k) [],
        )

    -- a sum over the matches of a run
    pub total-run : (draw : List ℕ) → total part (allocations y draw) ≡ total (λ k. total (g k) (basket_plan y draw k)) (up_to 7)
    unfolding allocations
    total-run draw = total-baskets draw (up_to 7) [] ∙ omega arith

  -- what holds of every match of a run: Q is known of the matches of a basket
  pub every-run : (P : Allocation → Type 0) (Q : ℕ → Match → Type 0) (draw : List ℕ)
      → ((k : ℕ) (before : List (List ℕ)) (done : List Allocation) (m : Match) → k < 7 → Q k m → P (allocate y k before done m))
      → ((k : ℕ) → k < 7 → Every (Q k) (basket_plan y draw k)) → Every P (allocations y draw)
  unfolding allocations basket
  every-run P Q draw step known =
      fold-kept (Every P) (λ k. k < 7) (basket_next draw)
      (λ done k l h.
      let before : List (List ℕ) = used_table y.given done in
      every_append P done (basket y draw before k) h
      (fold-kept (Every P) (Q k) (fill_next k before)
      (λ made m q a. every_append P made (allocate y k before made m ∷ []) a (step k before made m l q, tt)) (basket_plan y draw k) (known k l) [] tt))
      (up_to 7) (every-from (λ k. k < 7) 0 7 (λ k a b. omega arith)) [] tt

-- ---- a match is between two participants of the day

pub record Between (n : ℕ) (m : Match) : Type 0 where
  pub deliverer : m.deliverer < n
  pub receiver : m.receiver < n
  pub apart : m.deliverer ≢ m.receiver
  pub positive : 0 < m.amount

-- who has a position is one
has-place : (l : List ℕ) (n i : ℕ) → length l ≡ n → 0 < get_or l i 0 → i < n
has-place l n i e h = go (dec_lt i n)
  where
    go : Dec (i < n) → i < n
    go (yes k) = k
    go (no k) = absurd (omega (arith, get_or-eq_default l 0 {n = i} (omega arith)))

module _ (n runs : ℕ) (marks : List (List ℕ)) (draw o d : List ℕ) (eo : length o ≡ n) (ed : length d ≡ n) (one : OneZero o d) where
  amount-owed : (m : Match) → Memᴰ m (plan runs marks draw o d) → m.amount ≤ get_or o m.deliverer 0
  unfolding out_of
  amount-owed m k =
      omega (
        arith,
        total-mem (λ a. pick (eqb a.deliverer m.deliverer) a.amount 0) m (plan runs marks draw o d) k,
        pick_yes (eqb m.deliverer m.deliverer) m.amount 0 (eq-eqb m.deliverer m.deliverer refl),
        out-of-owed runs marks draw o d m.deliverer,
      )

  amount-due : (m : Match) → Memᴰ m (plan runs marks draw o d) → m.amount ≤ get_or d m.receiver 0
  unfolding in_to
  amount-due m k =
      omega (
        arith,
        total-mem (λ a. pick (eqb a.receiver m.receiver) a.amount 0) m (plan runs marks draw o d) k,
        pick_yes (eqb m.receiver m.receiver) m.amount 0 (eq-eqb m.receiver m.receiver refl),
        in-to-due runs marks draw o d m.receiver,
      )

  pub plan-between : Every (Between n) (plan runs marks draw o d)
  plan-between = every-there (Between n) (plan runs marks draw o d) (λ m k.
      let some : 0 < m.amount = every-mem Positive m (plan runs marks draw o d) (plan-positive runs marks draw o d) k in
      record {
        deliverer = has-place o n m.deliverer eo (omega (arith, amount-owed m k));
        receiver = has-place d n m.receiver ed (omega (arith, amount-due m k));
        apart = λ e. omega (arith, amount-owed m k, amount-due m k, one m.deliverer, ap (λ (p : ℕ). get_or d p 0) e);
        positive = some;
      })

-- ---- what each match of a run is, and is filled with

pub record Allocated (y : Day) (a : Allocation) : Type 0 where
  pub basket : a.basket < 7
  pub deliverer : a.match.deliverer < y.given.participants
  pub receiver : a.match.receiver < y.given.participants
  pub apart : a.match.deliverer ≢ a.match.receiver
  pub positive : 0 < a.match.amount
  pub covered : a.filled.covered ≤ a.match.amount
  pub issues : length a.filled.lots ≡ y.given.issues
  pub forced : a.filled.forced < y.given.issues
  -- demand 2: the lots are worth the covered yen, and with one lot fewer of the issue taken last they are not
  pub enough : a.filled.covered ≤ worth y.given.terms (match_lots a.filled)
  pub fewest : 0 < a.filled.covered → Fewest y.given.terms a.filled
  -- "Covered 0 has no line"
  pub none : a.filled.covered ≡ 0 → (i : ℕ) → all_lots a.filled i ≡ 0
  -- nothing is forced in runs 1 and 2, and the third covers all
  pub early : y.state.runs < 2 → a.filled.forced_lots ≡ 0
  pub third : y.state.runs ≡ 2 → a.filled.covered ≡ a.match.amount

-- "price (.. 1,000 to 30,000)"
second-of : (a b c d e : Bool) → (a && b && c && d && e) ≡ true → b ≡ true
second-of a b c d e h = and_right a b (and_left (a && b) c (and_left (a && b && c) d (and_left (a && b && c && d) e h)))

price-from : (t : Terms) → terms_fit t ≡ true → 1000 ≤ t.price
unfolding terms_fit
price-from t h = leb-true 1000 t.price (second-of (leb t.kind 6) (leb 1000 t.price) (leb t.price 30000) (leb t.coupon 20000) (leb t.days 366) h)

pub prices : (m : ℕ) (ts : List Terms) (ms : List Marks) → all_terms_fit m ts ms ≡ true → length ts ≡ m → (i : ℕ) → i < length ts → 1000 ≤ (get_or ts i no_terms).price
unfolding all_terms_fit
prices m ts ms h e i l =
    price-from (get_or ts i no_terms)
    (and_left (terms_fit (get_or ts i no_terms)) _ (all-at (λ i. terms_fit (get_or ts i no_terms) && marks_fit (get_or ms i no_marks)) m h i (omega arith)))

module _ (y : Day) (draw : List ℕ) (h : Runnable y draw) where
  abbrev n : ℕ
  n = y.given.participants

  abbrev ts : List Terms
  ts = y.given.terms

  abbrev sizes : Sizes n y.given.issues
  sizes = sizes-of n y.given.issues h.day.given.sizes

  priced : Priced ts
  priced i l = omega (arith, prices y.given.issues ts y.given.marks h.day.given.terms h.shaped.given.terms i l)

  length-usable : (k : ℕ) (before : List (List ℕ)) (done : List Allocation) (d : ℕ) → length (usable y k before done d) ≡ length ts
  unfolding usable
  length-usable k before done d = length-table y.given.issues _ ∙ sym h.shaped.given.terms

  ranked-order : (key : ℕ → ℕ) → Order (length ts) (ranked key y.given.issues)
  ranked-order key = subst (λ (i : ℕ). Order i (ranked key y.given.issues)) (sym h.shaped.given.terms)
      (record { inside = ranked-below key y.given.issues; all = ranked-mem key y.given.issues })

  order-named : (before : List (List ℕ)) (preferential : Bool) (d : ℕ) → Order (length ts) (issue_order y before preferential d)
  unfolding issue_order
  order-named before true d = ranked-order _
  order-named before false d = ranked-order _

  some-issue : 0 < length ts
  some-issue = omega (arith, h.shaped.given.terms, sizes.one)

  module _ (k : ℕ) (before : List (List ℕ)) (done : List Allocation) (m : Match) where
    abbrev f : ℕ
    f = forced_issue k ts y.given.marks (row y.state.notices m.deliverer)

    pub allocate-right : FilledRight ts (usable y k before done m.deliverer) m.amount (allocate y k before done m).filled
    unfolding allocate
    allocate-right =
        filled-right ts priced (usable y k before done m.deliverer) (length-usable k before done m.deliverer) (issue_order y before m.preferential m.deliverer)
        (order-named before m.preferential m.deliverer) m.preferential m.amount y.state.runs f (forced-of-day k ts y.given.marks some-issue _)

    allocate-sized : 0 < m.amount → FilledSized ts y.state.runs (allocate y k before done m).filled
    unfolding allocate
    allocate-sized some =
        filled-sized ts priced (usable y k before done m.deliverer) (length-usable k before done m.deliverer) (issue_order y before m.preferential m.deliverer)
        (order-named before m.preferential m.deliverer) m.preferential some-issue y.state.runs f m.amount (forced-of-day k ts y.given.marks some-issue _) some

    allocate-third : y.state.runs ≡ 2 → (allocate y k before done m).filled.covered ≡ m.amount
    unfolding allocate
    allocate-third e =
        ap (λ (r : ℕ). (filled r m.preferential ts (usable y k before done m.deliverer) (issue_order y before m.preferential m.deliverer) f m.amount).covered) e
        ∙ third-covers ts priced (usable y k before done m.deliverer) (length-usable k before done m.deliverer) (issue_order y before m.preferential m.deliverer)
        (order-named before m.preferential m.deliverer) m.preferential m.amount 0 f

    allocate-allocated : k < 7 → Between n m → Allocated y (allocate y k before done m)
    allocate-allocated l b =
        let r : FilledRight ts (usable y k before done m.deliverer) m.amount (allocate y k before done m).filled = allocate-right in
        let s : FilledSized ts y.state.runs (allocate y k before done m).filled = allocate-sized b.positive in
        unfold allocate in record {
          basket = l;
          deliverer = b.deliverer;
          receiver = b.receiver;
          apart = b.apart;
          positive = b.positive;
          covered = r.most;
          issues = s.sized ∙ h.shaped.given.terms;
          forced = omega (arith, s.forced, h.shaped.given.terms);
          enough = r.enough;
          fewest = r.fewest;
          none = s.none;
          early = s.early;
          third = allocate-third;
        }

  -- ---- a basket

  abbrev o : ℕ → List ℕ
  o k = row y.state.owed k

  abbrev d : ℕ → List ℕ
  d k = row y.state.due k

  one_zero : (k : ℕ) → k < 7 → OneZero (o k) (d k)
  one_zero k l p = go (dec_lt p n)
    where
      go : Dec (p < n) → min (get_or (o k) p 0) (get_or (d k) p 0) ≡ 0
      go (yes q) = (h.signed.positions k p l q).one
      go (no q) = omega (arith, get_or-eq_default (o k) 0 {n = p} (omega (arith, h.shaped.owed.cells k l)))

  pub basket-between : (k : ℕ) → k < 7 → Every (Between n) (basket_plan y draw k)
  unfolding basket_plan
  basket-between k l =
      plan-between n y.state.runs (row y.given.pairs k) draw (o k) (d k) (h.shaped.owed.cells k l) (h.shaped.due.cells k l) (one_zero k l)

  pub allocated : Every (Allocated y) (allocations y draw)
  allocated = every-run y (Allocated y) (λ k. Between n) draw allocate-allocated basket-between

  -- "run 77 matches": 11 a basket
  pub few-allocations : length (allocations y draw) ≤ 77
  unfolding basket_plan
  few-allocations =
      let made : ℕ → ℕ = λ k. total (λ m. 1) (basket_plan y draw k) in
      let each : (k : ℕ) → k < 0 + 7 → made k ≤ 11 = λ k j.
      let l : k < 7 = omega arith in
      omega (
        arith,
        length-total (basket_plan y draw k),
        h.shaped.owed.cells k l,
        h.shaped.given.few,
        few_matches y.state.runs (row y.given.pairs k) draw (o k) (d k) (h.shaped.due.cells k l ∙ sym (h.shaped.owed.cells k l)) (one_zero k l),
      ) in
      omega (arith, length-total (allocations y draw), total-run y (λ k m. 1) draw, total-bound made 11 0 7 each)

  -- ---- covered yen, of the deliverers or of the receivers

  module _ (who : Match → ℕ) where
    abbrev of : (Allocation → ℕ) → ℕ → ℕ → Allocation → ℕ
    of yen k p a = pick (eqb a.basket k && eqb (who a.match) p) (yen a) 0

    -- the amounts of a run are those of its baskets
    amounts : (k p : ℕ) → k < 7 → total (of (λ a. a.match.amount) k p) (allocations y draw) ≡ total (λ m. pick (eqb (who m) p) m.amount 0) (basket_plan y draw k)
    amounts k p l =
        let mine : ℕ → ℕ = λ j. total (λ m. pick (eqb (who m) p) m.amount 0) (basket_plan y draw j) in
        total-run y (λ j m. pick (eqb j k && eqb (who m) p) m.amount 0) draw
        ∙ total-cong (λ j. total (λ m. pick (eqb j k && eqb (who m) p) m.amount 0) (basket_plan y draw j)) (λ j. pick (eqb j k) (mine j) 0)
        (λ j. total-both (eqb j k) (λ m. eqb (who m) p) (λ m. m.amount) (basket_plan y draw j)) (up_to 7)
        ∙ total-one mine k 7 l

    pick-most : (b : Bool) (x z : ℕ) → x ≤ z → pick b x 0 ≤ pick b z 0
    pick-most true x z h = h
    pick-most false x z h = zero-le

    covered-amounts : (k p : ℕ) → total (of (λ a. a.filled.covered) k p) (allocations y draw) ≤ total (of (λ a. a.match.amount) k p) (allocations y draw)
    covered-amounts k p =
        total-most (of (λ a. a.filled.covered) k p) (of (λ a. a.match.amount) k p) (allocations y draw)
        (every_map (Allocated y) (λ a. of (λ a. a.filled.covered) k p a ≤ of (λ a. a.match.amount) k p a)
        (λ a r. pick-most (eqb a.basket k && eqb (who a.match) p) a.filled.covered a.match.amount r.covered) (allocations y draw) allocated)

    third-amounts : y.state.runs ≡ 2 → (k p : ℕ)
        → total (of (λ a. a.filled.covered) k p) (allocations y draw) ≡ total (of (λ a. a.match.amount) k p) (allocations y draw)
    third-amounts e k p =
        total-same (of (λ a. a.filled.covered) k p) (of (λ a. a.match.amount) k p) (allocations y draw)
        (every_map (Allocated y) (λ a. of (λ a. a.filled.covered) k p a ≡ of (λ a. a.match.amount) k p a)
        (λ a r. ap (λ (x : ℕ). pick (eqb a.basket k && eqb (who a.match) p) x 0) (r.third e)) (allocations y draw) allocated)

    -- all participants together
    covered-all : ((a : Allocation) → Allocated y a → who a.match < n) → (k : ℕ)
        → total (λ p. total (of (λ a. a.filled.covered) k p) (allocations y draw)) (up_to n) ≡ total (λ a. pick (eqb a.basket k) a.filled.covered 0) (allocations y draw)
    covered-all inside k =
        total-swap (of (λ a. a.filled.covered) k) (up_to n) (allocations y draw)
        ∙ total-same (λ a. total (λ p. of (λ a. a.filled.covered) k p a) (up_to n)) (λ a. pick (eqb a.basket k) a.filled.covered 0) (allocations y draw)
        (every_map (Allocated y) (λ a. total (λ p. of (λ a. a.filled.covered) k p a) (up_to n) ≡ pick (eqb a.basket k) a.filled.covered 0)
        (λ a r.
        total-both (eqb a.basket k) (λ p. eqb (who a.match) p) (λ p. a.filled.covered) (up_to n)
        ∙ ap (λ (x : ℕ). pick (eqb a.basket k) x 0) (total-each (who a.match) a.filled.covered n (inside a r))) (allocations y draw) allocated)

  -- "The covered yen leave both positions": never more than is there
  pub covered-from : (k p : ℕ) → k < 7 → covered_from (allocations y draw) k p ≤ cell y.state.owed k p
  unfolding covered_from out_of basket_plan
  covered-from k p l =
      omega (
        arith,
        covered-amounts (λ m. m.deliverer) k p,
        amounts (λ m. m.deliverer) k p l,
        out-of-owed y.state.runs (row y.given.pairs k) draw (o k) (d k) p,
      )

  pub covered-to : (k p : ℕ) → k < 7 → covered_to (allocations y draw) k p ≤ cell y.state.due k p
  unfolding covered_to in_to basket_plan
  covered-to k p l =
      omega (
        arith,
        covered-amounts (λ m. m.receiver) k p,
        amounts (λ m. m.receiver) k p l,
        in-to-due y.state.runs (row y.given.pairs k) draw (o k) (d k) p,
      )

  -- as many yen leave what is owed as what is due
  pub covered-even : (k : ℕ) → total (covered_from (allocations y draw) k) (up_to n) ≡ total (covered_to (allocations y draw) k) (up_to n)
  unfolding covered_from covered_to
  covered-even k = covered-all (λ m. m.deliverer) (λ a r. r.deliverer) k ∙ sym (covered-all (λ m. m.receiver) (λ a r. r.receiver) k)

  -- "until nothing is left": every position is matched whole
  module _ (k : ℕ) (l : k < 7) where
    same : length (d k) ≡ length (o k)
    same = h.shaped.due.cells k l ∙ sym (h.shaped.owed.cells k l)

    named : (p : ℕ) → p < length (o k) → Memᴰ p draw
    named p q = draw-names n draw h.once p (omega (arith, h.shaped.owed.cells k l))

  pub matched-from : (k p : ℕ) → k < 7 → total (λ a. pick (eqb a.basket k && eqb a.match.deliverer p) a.match.amount 0) (allocations y draw) ≡ cell y.state.owed k p
  unfolding out_of basket_plan
  matched-from k p l =
      amounts (λ m. m.deliverer) k p l
      ∙ all-owed y.state.runs (row y.given.pairs k) draw (o k) (d k) (same k l) (h.day.positions.even k l) (named k l) p

  pub matched_to : (k p : ℕ) → k < 7 → total (λ a. pick (eqb a.basket k && eqb a.match.receiver p) a.match.amount 0) (allocations y draw) ≡ cell y.state.due k p
  unfolding in_to basket_plan
  matched_to k p l =
      amounts (λ m. m.receiver) k p l
      ∙ all-due y.state.runs (row y.given.pairs k) draw (o k) (d k) (same k l) (h.day.positions.even k l) (named k l) p

  -- the third run covers every position
  pub third-from : y.state.runs ≡ 2 → (k p : ℕ) → k < 7 → covered_from (allocations y draw) k p ≡ cell y.state.owed k p
  unfolding covered_from
  third-from e k p l = third-amounts (λ m. m.deliverer) e k p ∙ matched-from k p l

  pub third-to : y.state.runs ≡ 2 → (k p : ℕ) → k < 7 → covered_to (allocations y draw) k p ≡ cell y.state.due k p
  unfolding covered_to
  third-to e k p l = third-amounts (λ m. m.receiver) e k p ∙ matched_to k p l
