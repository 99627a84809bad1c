-- Laws of a run in progress: what the next match asks, and what it leaves. Assumes nothing.
use mathlib.Core.Path.{◌≡◌, refl, sym, ap, ap₂, ◌∙◌, subst}
use mathlib.Core.Logic.{◌≢◌}
use mathlib.Core.Bool.{Bool, true, false, ◌&&◌}
use mathlib.Core.List.{List, [], ◌∷◌, ◌++◌, map}
use Prim.Native.Nat.{ℕ, ◌+◌, ◌-◌, ◌*◌, ◌≤◌, ◌<◌}
use native.Mathlib.Decide.{ℕ_discrete}
use native.Mathlib.Omega.{arith}
use lib.ListN.{length, get_or, length-append}
use Rattle.std.specs.Prelude.{Option}
use lib.Seq.{get_or-set_same}
use lib.Dec.{eqb}
use borrow.Author.Tests.{eq-eqb, ne_eqb}
use Rattle.lists.specs.Tests.{pick}
use Rattle.lists.specs.Tables.{zeros}
use Rattle.lists.specs.Folds.{joined}
use Rattle.lists.specs.Parts.{over}
use Rattle.lists.proofs.TestLaws.{go}
use Rattle.lists.proofs.TableLaws.{length-table, get_or-table}
use Rattle.lists.proofs.PartLaws.{length_over}
use Rattle.rule.specs.Day.{baskets, terms_of}
use Rattle.rule.specs.Value.{Terms}
use Rattle.rule.specs.Entries.{match_size, line_size}
use Rattle.rule.specs.Calls.{most_matches, most_lines}
use Rattle.rule.specs.Filling.{Filled, all_lots}
use Rattle.rule.specs.Allocable.{allocable}
use Rattle.rule.specs.Run.{Allocation, used, allocate, lots_from, match_entry, match_list, line_list, lines_of, lines_from}
use Rattle.rule.specs.Layout.{receipts_at, notices_at, view, lots_cell, row_cell, runs_at, most_participants}
use Rattle.rule.proofs.RunLaws.{Runnable, Allocated, matched-from, few-allocations}
use Rattle.rule.proofs.RunLots.{used-most, lots-from-most}
use Rattle.rule.proofs.RunLists.{few_lines}
use Rattle.matching.specs.declared.Match.{Match as Entry}
use Rattle.value.specs.Quotes.{Quotes}
use Rattle.filling.specs.Match.{FilledAs}
use Rattle.filling.specs.declared.Filling.{Filling}
use Rattle.filling.proofs.MatchLaws.{allocable_most}
use Rattle.issue_order.specs.Ordered.{order_key}
use Rattle.issue_order.proofs.OrderLaws.{ordered-moved}
use Rattle.arrayvec.specs.ArrayVec.{ArrayVec}
use Rattle.run_usable.specs.Stock.{marks_in, allocable_in, inside_of, usable_of}
use Rattle.run_post.specs.Listed.{entry_cells, lines_for}
use Rattle.run_post.specs.Booked.{MoveYenGives, LotsMoved}
use Rattle.layout.specs.InBook.{participants_in, issues_in}
use Rattle.run_order.specs.Orders.{Same, notified_in, Orders, OrderedAt, OrderForAsks, OrderForGives}
use Rattle.run_match.specs.declared.Basket.{Basket}
use Rattle.run_match.specs.Filled.{match_may_use, QuotesOf, UsableLotsAsks, UsableLotsGives, FillNextAsks, filled_in, lots_with, WriteNextAsks, WriteNextGives}
use Rattle.run_order.proofs.OrderLaws.{orders-moved}
use Rattle.run_post.specs.declared.listing.Lists.{Lists}
use Rattle.run_basket.specs.Running.{done_at, BookedTo, RunAsks, Running, Stocked, Planning}
use Rattle.run_basket.proofs.DoneLaws.{next_of, Part, part-total, part_length}
use Rattle.run_basket.proofs.BookedLaws.{booked-more, more_yes, more_no}
use Rattle.run_basket.proofs.ReadLaws.{notices-read, allocable-read, sized-kept, issues-kept, rows-kept, notices-kept}
use Rattle.run_basket.proofs.NextLaws.{runnable, next, next-is, next-part, next-allocated, next-deliverer, next-receiver, next-amount, deliverer-of-day, receiver-of-day, next-filled}
use Rattle.run_post.proofs.ListingLaws.{cells-for}
use Rattle.run_basket.proofs.ListedLaws.{lines-append, lines_more, entry-is, all-lots, all-size, lines_are, entries-more, rows_more}
use Rattle.rule.specs.Sound.{tally_limit, notice_limit}

-- the more is used, the less may be
usable-falls : (inside : Bool) (allocable used used' : ℕ) → used ≤ used' → usable_of inside allocable used' ≤ usable_of inside allocable used
unfolding usable_of
usable-falls inside allocable used used' h = cases inside
  where
    cases : (t : Bool) → pick t (allocable - used') 0 ≤ pick t (allocable - used) 0
    cases true = omega arith
    cases false = omega arith

-- what may be used is as long as there are issues
pub usable-wide : {c : List ℕ} {B : Basket} {e : Entry} {used usable : List ℕ} {all : ℕ} → UsableLotsGives c B e used usable all → length usable ≡ issues_in c
usable-wide {c} {B} {e} {used} U = ap length U.row ∙ length-table (issues_in c) (match_may_use B used e.deliverer)

module _ (b draw m₀ l₀ : List ℕ) (S : RunAsks b draw m₀ l₀) (B : Basket) (basket : B.number < baskets) (made : List Entry)
    (P : Planning b draw B made) (j : ℕ) (e : Entry) (l : j < length made) (E : e ≡ get_or made j e) (T : Stocked b B.stock) where
  abbrev k : ℕ
  k = B.number

  abbrev before : List ℕ
  before = B.before.now

  abbrev m : ℕ
  m = issues_in b

  abbrev d : ℕ
  d = e.deliverer

  abbrev r : ℕ
  r = e.receiver

  abbrev pref : Bool
  pref = e.preferential

  abbrev done : List Allocation
  done = done_at (view b) draw k j

  abbrev a : Allocation
  a = next b draw m₀ l₀ S B basket made P j e l E

  abbrev after : List Allocation
  after = done ++ (a ∷ [])

  h : Runnable (view b) draw
  h = runnable b draw m₀ l₀ S

  part : Part (view b) draw after
  part = next-part b draw m₀ l₀ S B basket made P j e l E

  z : Allocated (view b) a
  z = next-allocated b draw m₀ l₀ S B basket made P j e l E

  deliverer : d < participants_in b
  deliverer = deliverer-of-day b draw m₀ l₀ S B basket made P j e l E

  receiver : r < participants_in b
  receiver = receiver-of-day b draw m₀ l₀ S B basket made P j e l E

  of-deliverer : a.match.deliverer ≡ d
  of-deliverer = next-deliverer b draw m₀ l₀ S B basket made P j e l E

  of-receiver : a.match.receiver ≡ r
  of-receiver = next-receiver b draw m₀ l₀ S B basket made P j e l E

  amount : e.amount.0 ≡ a.match.amount
  amount = sym (next-amount b draw m₀ l₀ S B basket made P j e l E)

  -- ---- bounds, from the whole run

  amount_most : e.amount.0 ≤ 10_000_000_000_000
  unfolding view
  amount_most =
      let f : Allocation → ℕ = λ x. pick (eqb x.basket a.basket && eqb x.match.deliverer a.match.deliverer) x.match.amount 0 in
      omega (
        arith,
        amount,
        more_yes (λ x. eqb x.basket a.basket && eqb x.match.deliverer a.match.deliverer) (λ x. x.match.amount) done a
            (go (eqb a.basket a.basket) (eqb a.match.deliverer a.match.deliverer) (eq-eqb a.basket a.basket refl) (eq-eqb a.match.deliverer a.match.deliverer refl)),
        part-total (view b) draw f part,
        matched-from (view b) draw h a.basket a.match.deliverer z.basket,
        S.book.day.positions.owed a.basket a.match.deliverer z.basket z.deliverer,
      )

  lots-notified : (i : ℕ) → i < m → get_or b (lots_cell notices_at d i) 0 ≤ notice_limit
  unfolding view
  lots-notified i q = omega (arith, notices-read b d i deliverer q, S.book.day.limits.notices d i deliverer q)

  allocable-few : (i : ℕ) → i < m → allocable_in b d i ≤ notice_limit
  unfolding allocable_in view
  allocable-few i q =
      omega (
        arith,
        allocable_most (get_or b runs_at 0) (marks_in b i) (get_or b (lots_cell notices_at d i) 0) (get_or b (lots_cell receipts_at d i) 0),
        lots-notified i q,
      )

  used-more : (i : ℕ) → used after d i ≡ used done d i + get_or a.filled.lots i 0
  unfolding used
  used-more i =
      more_yes (λ x. eqb x.match.deliverer d) (λ x. get_or x.filled.lots i 0) done a
      (eq-eqb a.match.deliverer d of-deliverer)

  used-else : (p i : ℕ) → d ≢ p → used after p i ≡ used done p i
  unfolding used
  used-else p i other =
      more_no (λ x. eqb x.match.deliverer p) (λ x. get_or x.filled.lots i 0) done a
      (ne_eqb a.match.deliverer p (λ q. other (sym of-deliverer ∙ q)))

  used-within : (i : ℕ) → i < m → used done d i + get_or a.filled.lots i 0 ≤ allocable_in b d i
  unfolding used view
  used-within i q =
      omega (
        arith,
        used-more i,
        part-total (view b) draw (λ x. pick (eqb x.match.deliverer d) (get_or x.filled.lots i 0) 0) part,
        used-most (view b) draw h d i deliverer q,
        allocable-read b d i deliverer q,
      )

  used-few : (i : ℕ) → i < m → used done d i + get_or a.filled.lots i 0 ≤ notice_limit
  used-few i q = omega (arith, used-within i q, allocable-few i q)

  used-enough : (i : ℕ) → i < m → used done d i ≤ allocable_in b d i
  used-enough i q = omega (arith, used-within i q)

  lots-few : (i : ℕ) → i < m → all_lots a.filled i ≤ tally_limit
  unfolding lots_from view
  lots-few i q =
      omega (
        arith,
        more_yes (λ x. eqb x.match.deliverer d) (λ x. all_lots x.filled i) done a (eq-eqb a.match.deliverer d of-deliverer),
        part-total (view b) draw (λ x. pick (eqb x.match.deliverer d) (all_lots x.filled i) 0) part,
        lots-from-most (view b) draw h d i deliverer q,
      )

  matches-few : length done + 1 ≤ most_matches
  matches-few = omega (arith, part_length (view b) draw part, length-append done (a ∷ []), few-allocations (view b) draw h)

  lines-few : length (line_list after) ≤ most_lines
  lines-few =
      omega (
        arith,
        ap (λ (x : List Allocation). length (line_list x)) part.whole,
        ap length (lines-append after part.rest),
        length-append (line_list after) (lines_from (length after) part.rest),
        few_lines (view b) draw h,
      )

  issues : length a.filled.lots ≡ m
  unfolding view
  issues = z.issues

  forced : a.filled.forced < length a.filled.lots
  unfolding view
  forced = omega (arith, z.forced, z.issues)

  module _ (c used' : List ℕ) (t : Lists) (R : Running b m₀ l₀ done c used' t) where
    -- ---- what is asked

    issues-same : issues_in c ≡ m
    issues-same = issues-kept b S.book done c R.booked

    notice-same : (p i : ℕ) → p < most_participants → i < m → notified_in c p i ≡ notified_in b p i
    notice-same p i y x = notices-kept b S.book done c R.booked (lots_cell notices_at p i) (omega arith) (omega (arith, S.book.sizes.most))

    deliverer-few : d < most_participants
    deliverer-few = omega (arith, deliverer, S.book.sizes.few)

    quotes-same : QuotesOf c B.stock
    quotes-same = record {
      there = omega (arith, issues-same, T.quotes.there);
      quoted = subst (λ (ts : List Terms). Quotes ts B.stock.quotes.now) (sym (ap (map terms_of) (rows-kept b S.book done c R.booked))) T.quotes.quoted;
    }

    pub usable-asks : (places : ℕ) → places ≡ issues_in c → UsableLotsAsks c B e used' places
    usable-asks places v = record {
      sized = sized-kept b S.book done c R.booked;
      deliverer = omega (arith, deliverer, S.book.sizes.few);
      quotes = quotes-same;
      marked = omega (arith, ap length P.inside_is, length-table (issues_in b) (inside_of b k), issues-same);
      stock = T.lots.places;
      gone = R.places;
      allocable_most = λ i x. omega (arith, T.lots.each d i deliverer (omega (arith, issues-same)), allocable-few i (omega (arith, issues-same)));
      enough = λ i x v.
          omega (
            arith,
            T.lots.each d i deliverer (omega (arith, issues-same)),
            R.gone d i deliverer (omega (arith, issues-same)),
            used-enough i (omega (arith, issues-same)),
          );
      row = v;
    }

    -- the deliverers' rankings are those of the book as it was
    pub orders-kept : (orders : List (ArrayVec ℕ)) → Orders c orders → Orders b orders
    orders-kept orders O = orders-moved c b issues-same (λ p i y x. notice-same p i y (omega (arith, issues-same))) O

    module _ (usable' : List ℕ) (all : ℕ) (U : UsableLotsGives c B e used' usable' all) where
      usable_at : (i : ℕ) → i < issues_in c → get_or usable' i 0 ≡ match_may_use B used' d i
      usable_at i x = ap (λ (v : List ℕ). get_or v i 0) U.row ∙ get_or-table (issues_in c) (match_may_use B used' d) i 0 x

      -- an order of the book as it was is one of the book as it is
      order-now : (order : List ℕ) → OrderedAt b before e (match_may_use B used' d) order → OrderedAt c before e (λ i. get_or usable' i 0) order
      order-now order o =
          ordered-moved (sym issues-same) (λ i x. ap (λ (v : ℕ). order_key pref v (get_or before (row_cell d i) 0)) (sym (notice-same d i deliverer-few x)))
          (λ i x. omega (arith, usable_at i (omega (arith, issues-same)))) o

      pub order-asks : (last : Option Entry) (orders : List (ArrayVec ℕ)) (order : List ℕ) → Orders b orders → (0 < length order → Same last e → OrderedAt b before e (match_may_use B used' d) order)
          → OrderForAsks c before last e usable' orders order
      order-asks last orders order O same = record {
        amount = amount_most;
        loadable = record {
          sized = sized-kept b S.book done c R.booked;
          usable_there = omega (arith, usable-wide U);
          deliverer = deliverer-few;
          notified_most = λ i x. omega (arith, notice-same d i deliverer-few (omega (arith, issues-same)), lots-notified i (omega (arith, issues-same)));
          earlier = P.earlier;
          kept = orders-moved b c (sym issues-same) (λ p i y x. sym (notice-same p i y x)) O;
        };
        last_is = λ x s. order-now order (same x s);
      }

    module _ (usable' : List ℕ) (all : ℕ) (U : UsableLotsGives c B e used' usable' all) (orders : List (ArrayVec ℕ)) (order : List ℕ) (O : OrderForGives c before e usable' all orders order) where
      pub fill-asks : (lots : List ℕ) → lots ≡ zeros (issues_in c) → FillNextAsks c B.stock e usable' all order lots
      fill-asks lots v = record {
        sized = sized-kept b S.book done c R.booked;
        deliverer = omega (arith, deliverer, S.book.sizes.few);
        amount = amount_most;
        quotes = quotes-same;
        wide = usable-wide U;
        most = U.most;
        worth_is = U.worth_is;
        named = O.named;
        empty = v;
      }

      module _ (f : Filling) (lots : List ℕ) (A : FilledAs (filled_in c k e usable' order) f lots) where
        F : FilledAs a.filled f lots
        F = subst (λ (x : Filled). FilledAs x f lots) (next-filled b draw m₀ l₀ S B basket made P j e l E T c used' t R usable' all U orders order O) A

        row-size : length lots ≡ m
        row-size = ap length F.lots_are ∙ issues

        all_is : (i : ℕ) → get_or (lots_with f lots) i 0 ≡ all_lots a.filled i
        all_is = all-lots a.filled f lots F forced

        lines-is : lines_for t.counts.matches (lots_with f lots) ≡ lines_of t.counts.matches a
        lines-is = lines_are t.counts.matches (lots_with f lots) a (all-size a.filled f lots F forced) all_is

        used-at : (i : ℕ) → i < m → get_or used' (row_cell d i) 0 ≡ used done d i
        used-at i x = R.gone d i deliverer x

        lines_fit : line_size * length (line_list done) + line_size * length (lines_of (length done) a) ≤ line_size * most_lines
        lines_fit = omega (arith, lines-few, ap length (lines_more done a), length-append (line_list done) (lines_of (length done) a))

        pub write-asks : WriteNextAsks c k e f lots used' t
        write-asks = record {
          basket = basket;
          match_room = omega (arith, R.match_count, matches-few, R.match_size, S.match_places);
          match_few = omega (arith, R.match_count, matches-few);
          lots_asked = record {
            book = R.booked.size;
            deliverer = omega (arith, deliverer, S.book.sizes.few);
            receiver = omega (arith, receiver, S.book.sizes.few);
            apart = λ x. z.apart (of-deliverer ∙ x ∙ sym of-receiver);
            few = omega (arith, row-size, S.book.sizes.most);
            gone = R.places;
            small = λ i x. omega (arith, used-at i (omega (arith, row-size)), used-few i (omega (arith, row-size)), all_is i, lots-few i (omega (arith, row-size, issues)));
            forced = omega (arith, F.forced, forced, ap length F.lots_are);
            forced_small = omega (arith, sum_is, lots-few a.filled.forced (omega (arith, forced, issues)));
            room = omega (arith, R.line_count, R.line_size, lines_fit, ap length lines-is, ap (λ (x : ℕ). length (lines_of x a)) R.match_count, S.line_places);
          };
        }
          where
            sum_is : get_or lots f.forced 0 + f.forced_lots.0 ≡ all_lots a.filled a.filled.forced
            sum_is =
                sym (get_or-set_same lots f.forced (get_or lots f.forced 0 + f.forced_lots.0) 0 (omega (arith, F.forced, forced, ap length F.lots_are)))
                ∙ all_is f.forced ∙ ap (all_lots a.filled) F.forced

        -- ---- what is left

        module _ (c' used'' : List ℕ) (t' : Lists) (W : WriteNextGives c k e f lots used' t c' used'' t') where
          yen : MoveYenGives c W.between a.basket a.match.deliverer a.match.receiver a.filled.covered
          unfolding next_of allocate
          yen = subst (λ (x : ℕ). MoveYenGives c W.between k d r x) F.covered W.yen

          moved : LotsMoved W.between c' a.match.deliverer a.match.receiver (lots_with f lots)
          unfolding next_of allocate
          moved = W.moved

          entry : entry_cells k d r e.amount.0 f ≡ match_entry a
          unfolding next_of allocate match_entry
          entry = entry-is a.filled f lots F k d r e.amount.0

          gone : (p i : ℕ) → p < participants_in b → i < m → get_or used'' (row_cell p i) 0 ≡ used after p i
          gone p i x v = cases (ℕ_discrete d p)
            where
              cases : Dec (d ≡ p) → get_or used'' (row_cell p i) 0 ≡ used after p i
              cases (yes e) =
                  subst (λ (o : ℕ). get_or used'' (row_cell o i) 0 ≡ used after o i) e
                  (W.gone.more i (omega (arith, row-size)) ∙ ap₂ (λ (o w : ℕ). o + w) (used-at i v) (ap (λ (v : List ℕ). get_or v i 0) F.lots_are) ∙ sym (used-more i))
              cases (no e) =
                  W.gone.kept (row_cell p i) (λ o w s. e (omega (arith, row-size, S.book.sizes.most))) ∙ R.gone p i x v ∙ sym (used-else p i e)

          -- more is used, so that less may be used than before, and the order is still right
          used-grows : (i : ℕ) → i < m → get_or used' (row_cell d i) 0 ≤ get_or used'' (row_cell d i) 0
          used-grows i x = omega (arith, W.gone.more i (omega (arith, row-size)))

          less-usable : (i : ℕ) → i < m → match_may_use B used'' d i ≤ get_or usable' i 0
          less-usable i x =
              omega (
                arith,
                usable_at usable' all U i (omega (arith, issues-same)),
                usable-falls (get_or B.inside.now i false) (get_or B.stock.allocable.now (row_cell d i) 0) _ _ (used-grows i x),
              )

          pub order-next : 0 < length order → OrderedAt b before e (match_may_use B used'' d) order
          order-next x =
              ordered-moved issues-same (λ i v. ap (λ (w : ℕ). order_key pref w (get_or before (row_cell d i) 0)) (notice-same d i deliverer-few (omega (arith, issues-same))))
              (λ i v. less-usable i (omega (arith, issues-same))) (O.listed x)

          -- the lists stay as long as they are, and have the match's entry and its lines
          matches-long : length t'.matches.now ≡ length m₀
          matches-long =
              ap length W.entry
              ∙ length_over t.matches.now (entry_cells k d r e.amount.0 f) (match_size * t.counts.matches) (omega (arith, write-asks.match_room))
              ∙ R.match_size

          abbrev new-lines : List (List ℕ)
          new-lines = lines_for t.counts.matches (lots_with f lots)

          lines-long : length t'.lines.now ≡ length l₀
          lines-long =
              let room : line_size * t.counts.lines + length (joined new-lines) ≤ length t.lines.now =
              omega (arith, write-asks.lots_asked.room, cells-for t.counts.matches (lots_with f lots)) in
              ap length W.listed.cells ∙ length_over t.lines.now (joined new-lines) (line_size * t.counts.lines) room ∙ R.line_size

          entries-after : t'.matches.now ≡ over m₀ 0 (joined (match_list after))
          entries-after =
              entries-more m₀ t.matches.now t'.matches.now done a t.counts.matches R.entries R.match_count (omega (arith, matches-few, S.match_places))
              (W.entry ∙ ap (over t.matches.now (match_size * t.counts.matches)) entry)

          lines-after : (t'.lines.now ≡ over l₀ 0 (joined (line_list after))) × (t'.counts.lines ≡ length (line_list after))
          lines-after =
              rows_more l₀ t.lines.now t'.lines.now done a t.counts.matches t.counts.lines t'.counts.lines (lots_with f lots)
              R.rows R.match_count R.line_count (omega (arith, lines_fit, S.line_places)) lines-is W.listed

          booked-after : BookedTo b after c'
          booked-after =
              booked-more b S.book draw h done a part z c W.between c' (lots_with f lots) R.booked yen moved
              (all-size a.filled f lots F forced ∙ issues) all_is

          pub running_more : Running b m₀ l₀ (done_at (view b) draw k (j + 1)) c' used'' t'
          running_more =
              subst (λ (x : List Allocation). Running b m₀ l₀ x c' used'' t') (sym (next-is b draw m₀ l₀ S B basket made P j e l E)) (record {
                booked = booked-after;
                places = W.gone.size ∙ R.places;
                gone = gone;
                match_size = matches-long;
                line_size = lines-long;
                entries = entries-after;
                rows = lines-after.0;
                match_count = W.matched ∙ omega (arith, R.match_count, length-append done (a ∷ []));
                line_count = lines-after.1;
              })
