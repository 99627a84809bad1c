-- Laws of the next match of a basket: that the code fills the definition's match. Assumes nothing.
use mathlib.Core.Path.{◌≡◌, refl, sym, ap, ap₂, ◌∙◌, subst}
use mathlib.Core.Logic.{◌⊎◌, inl, inr}
use mathlib.Core.Bool.{Bool, true, false}
use mathlib.Core.List.{List, [], ◌∷◌, ◌++◌, map}
use Prim.Native.Nat.{ℕ, ◌+◌, ◌-◌, ◌<◌}
use native.Mathlib.Nat.{le_refl}
use native.Mathlib.Omega.{arith}
use lib.ListN.{length, get_or, length-map}
use Rattle.lists.specs.Tests.{pick}
use Rattle.lists.specs.Tables.{table, row, cell}
use Rattle.lists.specs.Folds.{keep, Every}
use Rattle.lists.specs.Order.{ranked}
use Rattle.lists.specs.Parts.{block}
use Rattle.lists.proofs.TableLaws.{get_or-table, get_d_map}
use Rattle.lists.proofs.PartLaws.{blocks-agree, table-agree}
use Rattle.rule.specs.Allocable.{Marks}
use Rattle.rule.specs.Value.{Terms, no_terms}
use Rattle.rule.specs.Baskets.{within}
use Rattle.rule.specs.Matching.{Match}
use Rattle.rule.specs.Filling.{Filled, filled, forced_issue}
use Rattle.rule.specs.Day.{Day, baskets, terms_of, marks_of}
use Rattle.rule.specs.Run.{Allocation, used, used_table, allocable_of, usable, issue_order, allocate, basket_plan}
use Rattle.rule.specs.Layout.{notices_at, view, lots_cell, lots_row, row_cell, runs_at}
use Rattle.rule.proofs.LayoutLaws.{view-shaped, view-signed}
use Rattle.rule.proofs.RunLaws.{Runnable, Allocated, allocated}
use Rattle.rule.proofs.RunLots.{used-append, used-cell}
use Rattle.matching.specs.Plans.{rule_match}
use Rattle.matching.specs.declared.Match.{Match as Entry}
use Rattle.filling.specs.Match.{Idle}
use Rattle.filling.proofs.KeptLaws.{filled-kept}
use Rattle.issue_order.specs.Ordered.{Ordered, order_key}
use Rattle.issue_order.proofs.OrderLaws.{ordered-moved}
use Rattle.lists.proofs.FoldLaws.{every_map}
use Rattle.lists.proofs.OrderLaws.{ranked-alike, ranked-below}
use Rattle.arrayvec.specs.ArrayVec.{ArrayVec}
use Rattle.run_usable.specs.Stock.{inside_of, usable_of}
use Rattle.layout.specs.InBook.{participants_in, issues_in, book_terms, book_marks}
use Rattle.run_order.specs.Orders.{key_in, OrderedAt, OrderForGives}
use Rattle.run_match.specs.Filled.{match_may_use, match_usable, UsableLotsGives, filled_in}
use Rattle.run_match.specs.declared.Basket.{Basket}
use Rattle.run_post.specs.declared.listing.Lists.{Lists}
use Rattle.run_basket.specs.Running.{done_to, done_in, done_at, RunAsks, Running, Stocked, Planning}
use Rattle.run_basket.proofs.DoneLaws.{next_of, done_next, Part, part_at, part-every}
use Rattle.run_basket.proofs.ReadLaws.{terms-read, notices-read, runs-read, allocable-read, terms-are, low-kept, issues-kept, rows-kept, marks-are, notices-kept}

pub runnable : (b draw m₀ l₀ : List ℕ) → RunAsks b draw m₀ l₀ → Runnable (view b) draw
unfolding view
runnable b draw m₀ l₀ s = record {
  shaped = view-shaped b s.book.readable;
  signed = view-signed b s.book.readable;
  day = s.book.day;
  runs = s.runs;
  once = s.once;
}

last_of : (P : Allocation → Type 0) (xs : List Allocation) (a : Allocation) → Every P (xs ++ (a ∷ [])) → P a
last_of P [] a h = h.0
last_of P (x ∷ xs) a h = last_of P xs a h.1

module _ (b draw m₀ l₀ : List ℕ) (S : RunAsks b draw m₀ l₀) (B : Basket) (basket : B.number < baskets) (made : List Entry)
    (P : Planning b draw B made) (j : ℕ) (e : Entry) (l : j < length made) (E : e ≡ get_or made j e) where
  abbrev k : ℕ
  k = B.number

  abbrev before : List ℕ
  before = B.before.now

  abbrev y : Day
  y = view b

  abbrev m : ℕ
  m = issues_in b

  abbrev d : ℕ
  d = e.deliverer

  abbrev done : List Allocation
  done = done_at (view b) draw k j

  -- the matches of the baskets before, and the lots they used; and those of this one
  abbrev earlier : List Allocation
  earlier = done_to (view b) draw k

  abbrev used-earlier : List (List ℕ)
  used-earlier = used_table (view b).given earlier

  abbrev of-basket : List Allocation
  of-basket = done_in (view b) draw k j

  -- the match of the plan, filled
  abbrev pub next : Allocation
  next = next_of (view b) draw k j (rule_match e)

  counted : length (basket_plan (view b) draw k) ≡ length made
  counted = sym (ap length P.planned) ∙ length-map made rule_match

  planned-here : rule_match e ≡ get_or (basket_plan (view b) draw k) j (rule_match e)
  planned-here =
      ap rule_match E ∙ sym (get_d_map rule_match made j e (rule_match e) l) ∙ ap (λ (ms : List Match). get_or ms j (rule_match e)) P.planned

  pub next-is : done_at (view b) draw k (j + 1) ≡ done ++ (next ∷ [])
  next-is =
      done_next (view b) draw k j (rule_match e) (omega (arith, counted))
      ∙ ap (λ (x : Match). done ++ (next_of (view b) draw k j x ∷ [])) (sym planned-here)

  pub next-part : Part (view b) draw (done ++ (next ∷ []))
  next-part = subst (Part (view b) draw) next-is (part_at (view b) draw k (j + 1) basket (omega (arith, counted)) (rule_match e))

  pub next-allocated : Allocated (view b) next
  next-allocated = last_of (Allocated (view b)) done next (part-every (view b) draw (Allocated (view b)) next-part (allocated (view b) draw (runnable b draw m₀ l₀ S)))

  -- what it says
  pub next-deliverer : next.match.deliverer ≡ d
  unfolding next_of allocate
  next-deliverer = refl

  pub next-receiver : next.match.receiver ≡ e.receiver
  unfolding next_of allocate
  next-receiver = refl

  pub next-amount : next.match.amount ≡ e.amount.0
  unfolding next_of allocate
  next-amount = refl

  pub deliverer-of-day : d < participants_in b
  unfolding view
  deliverer-of-day = omega (arith, next-allocated.deliverer, next-deliverer)

  pub receiver-of-day : e.receiver < participants_in b
  unfolding view
  receiver-of-day = omega (arith, next-allocated.receiver, next-receiver)

  -- ---- filled as the definition fills it

  module _ (T : Stocked b B.stock) (c used' : List ℕ) (t : Lists) (R : Running b m₀ l₀ done c used' t)
      (usable' : List ℕ) (all : ℕ) (U : UsableLotsGives c B e used' usable' all) (orders : List (ArrayVec ℕ)) (order : List ℕ) (O : OrderForGives c before e usable' all orders order) where
    used-here : (i : ℕ) → i < m → get_or used' (row_cell d i) 0 ≡ cell used-earlier d i + used of-basket d i
    unfolding done_at view
    used-here i h =
        R.gone d i deliverer-of-day h ∙ used-append earlier of-basket d i
        ∙ ap (λ (x : ℕ). x + used of-basket d i) (sym (used-cell (view b).given earlier d i deliverer-of-day h))

    usable-cell : (i : ℕ) → i < m
        → match_may_use B used' d i
        ≡ pick (within k (get_or (view b).given.terms i no_terms)) (allocable_of (view b) d i - (cell used-earlier d i + used of-basket d i)) 0
    unfolding usable_of inside_of
    usable-cell i h =
        ap₂ (λ (t : Bool) (x : ℕ). pick {X = ℕ} t x 0)
        (ap (λ (r : List Bool). get_or r i false) P.inside_is ∙ get_or-table m (inside_of b k) i false h ∙ ap (within k) (sym (terms-read b i h)))
        (ap₂ (λ (x z : ℕ). x - z) (T.lots.each d i deliverer-of-day h ∙ sym (allocable-read b d i deliverer-of-day h)) (used-here i h))

    usable_same : match_usable c B used' d ≡ usable (view b) k used-earlier of-basket d
    unfolding usable view
    usable_same =
        ap (λ (x : ℕ). table x (match_may_use B used' d)) (issues-kept b S.book done c R.booked)
        ∙ table-agree m (match_may_use B used' d) _ usable-cell

    -- the order's keys are the definition's
    order-of : (preferential : Bool) → ranked (λ i. order_key preferential (get_or b (lots_cell notices_at d i) 0) (get_or before (row_cell d i) 0)) m
        ≡ issue_order (view b) used-earlier preferential d
    unfolding issue_order view
    order-of true = ranked-alike _ _ m (λ i h. sym (notices-read b d i deliverer-of-day h))
    order-of false =
        ranked-alike _ _ m (λ i h.
        ap₂ (λ (x z : ℕ). x - z) (sym (notices-read b d i deliverer-of-day h))
        (P.before_at d i deliverer-of-day h ∙ sym (used-cell (view b).given earlier d i deliverer-of-day h)))

    issues-same : issues_in c ≡ m
    issues-same = issues-kept b S.book done c R.booked

    notice-same : (i : ℕ) → i < m → get_or c (lots_cell notices_at d i) 0 ≡ get_or b (lots_cell notices_at d i) 0
    notice-same i h =
        notices-kept b S.book done c R.booked (lots_cell notices_at d i) (omega arith) (omega (arith, deliverer-of-day, S.book.sizes.few, S.book.sizes.most))

    abbrev pref : Bool
    pref = e.preferential

    abbrev o : List ℕ
    o = issue_order (view b) used-earlier pref d

    abbrev key : ℕ → ℕ
    key = key_in b before d pref

    order-moved : OrderedAt c before e (λ i. get_or usable' i 0) order → Ordered m key (λ i. get_or usable' i 0) order
    order-moved h =
        ordered-moved issues-same
        (λ i l. ap (λ (x : ℕ). order_key pref x (get_or before (row_cell d i) 0)) (notice-same i (omega (arith, issues-same)))) (λ i l. le_refl _) h

    abbrev notified : List ℕ
    notified = block c (lots_row notices_at d) (issues_in c)

    notified-same : notified ≡ row (view b).state.notices d
    unfolding view
    notified-same =
        ap (block c (lots_row notices_at d)) issues-same
        ∙ blocks-agree c b (lots_row notices_at d) m (R.booked.size ∙ sym S.book.readable.size) notice-same
        ∙ sym (get_or-table (participants_in b) (λ p. block b (lots_row notices_at p) m) d [] deliverer-of-day)

    terms-same : book_terms c ≡ (view b).given.terms
    terms-same = ap (map terms_of) (rows-kept b S.book done c R.booked) ∙ terms-are b

    marks-same : book_marks c ≡ (view b).given.marks
    marks-same = ap (map marks_of) (rows-kept b S.book done c R.booked) ∙ marks-are b

    runs_same : get_or c runs_at 0 ≡ (view b).state.runs
    runs_same = low-kept b S.book done c R.booked runs_at (omega arith) ∙ sym (runs-read b)

    abbrev amount : ℕ
    amount = e.amount.0

    -- the issue that is forced
    abbrev forced : ℕ
    forced = forced_issue k (book_terms c) (book_marks c) notified

    abbrev with-order : List ℕ → Filled
    with-order x = filled (get_or c runs_at 0) pref (book_terms c) usable' x forced amount

    -- an issue that the order leaves out takes nothing in its turn
    order-kept : (h : Ordered m key (λ i. get_or usable' i 0) order) → with-order (keep h.live (ranked key m)) ≡ with-order (ranked key m)
    order-kept h =
        filled-kept (get_or c runs_at 0) pref (book_terms c) usable' (ranked key m) h.live forced amount
        (every_map (λ i. i < m) (λ i. h.live i ≡ false → get_or usable' i 0 ≡ 0)
        (λ i l e. h.rest i l e) (ranked key m) (ranked-below key m))

    order-right : OrderedAt c before e (λ i. get_or usable' i 0) order ⊎ Idle (get_or c runs_at 0) all amount → with-order order ≡ with-order o
    order-right (inl h) = ap with-order (order-moved h).names ∙ order-kept (order-moved h) ∙ ap with-order (order-of pref)
    order-right (inr h) = h.same pref (book_terms c) usable' order o _ U.worth_is

    pub next-filled : filled_in c k e usable' order ≡ next.filled
    unfolding filled_in next_of allocate
    next-filled =
        let u : List ℕ = usable (view b) k used-earlier of-basket d in
        order-right O.fits
        ∙ ap₂ (λ (r : ℕ) (x : List ℕ). filled r pref (book_terms c) x o forced amount) runs_same (U.row ∙ usable_same)
        ∙ ap (λ (f : List ℕ). filled (view b).state.runs pref (book_terms c) u o (forced_issue k (book_terms c) (book_marks c) f) amount) notified-same
        ∙ ap₂ (λ (ts : List Terms) (ms : List Marks). filled (view b).state.runs pref ts u o (forced_issue k ts ms (row (view b).state.notices d)) amount) terms-same marks-same
