-- Laws of a whole run: the loop over the baskets, the notices cleared, and the book that is left. Assumes nothing.
use mathlib.Core.Path.{◌≡◌, refl, sym, ap, ap₂, ◌∙◌, subst}
use mathlib.Core.Logic.{◌≢◌, ◌⊎◌, inl, inr}
use mathlib.Core.List.{map, List, []}
use Prim.Native.Nat.{ℕ, ◌+◌, ◌-◌, ◌≤◌, ◌<◌}
use native.Mathlib.Decide.{ℕ_discrete}
use native.Mathlib.Omega.{arith}
use lib.ListN.{length, get_or, set, take, drop, replicate, length-set, length-replicate, get_or-replicate}
use lib.Seq.{get_or-set_same, get_or-set_other, length-take-le}
use borrow.Rule.Slice.PartMut.{put_mid}
use lib.Dec.{ltb}
use Rattle.lists.specs.Tests.{pick}
use Rattle.lists.specs.Tables.{table, zeros, row, cell}
use Rattle.lists.specs.Folds.{joined, Every}
use Rattle.lists.proofs.TableLaws.{get_or-table, get_or-zeros}
use Rattle.lists.proofs.PartLaws.{Outside, Stands}
use mathlib.Core.Bool.{true}
use Rattle.layout.specs.InBook.{participants_in, issues_in, issue_rows, book_terms, book_marks}
use Rattle.rule.specs.Day.{Day, baskets, mark, terms_of}
use Rattle.rule.specs.Sound.{all_terms_fit}
use Rattle.rule.specs.Run.{Allocation, used, allocations, ran, covered_from, covered_to, covered_pair, lots_from, lots_to, match_list, line_list, lines_from}
use Rattle.rule.specs.Layout.{runs_at, row_cell, book_length, positions_at, notices_at, today_at, tally_at, view, stored, signed, signed_rows, tables_of, position_cell, lots_cell, mark_cell, most_participants, most_issues, lots_size, lots_row, mark_square}
use Rattle.rule.proofs.BookLaws.{SoundBook}
use Rattle.rule.proofs.LayoutLaws.{Shaped, Holds, view-shaped, view-holds, signed-cell, given-kept, stored_is, outside-sizes, outside-position, outside-notice, outside-pair, outside-tally}
use Rattle.rule.proofs.RunLaws.{Runnable}
use Rattle.rule.proofs.RunSound.{ran-shaped}
use Rattle.value.specs.Quotes.{Quotes, QuoteFillAsks}
use Rattle.value.specs.declared.Quote.{Quote}
use Rattle.value.proofs.TermLaws.{sound-termed}
use Rattle.std.specs.Array.{AllOfLen}
use Rattle.arrayvec.specs.ArrayVec.{ArrayVec}
use denote.Bor.{Bor}
use Rattle.lists.specs.Rows.{Becomes}
use Rattle.run_usable.specs.Stock.{AllocableRowsGives}
use Rattle.run_usable.specs.declared.Stock.{Stock}
use Rattle.run_post.specs.declared.listing.Lists.{Lists}
use Rattle.run_post.specs.Listed.{SameLists}
use Rattle.run_post.proofs.ListingLaws.{same-lists, same-then}
use Rattle.run_order.specs.Sizes.{DaySized}
use Rattle.run_basket.specs.Running.{done_to, BookedTo, RunAsks, Running, Stocked, Done, RunBasketAsks}
use Rattle.run.specs.Ran.{RunBasketsAsks, RunBasketsGives, ClearNoticesGives, RunGives}
use Rattle.lists.proofs.RowLaws.{lent-size, lent-in, lent_out, where-is}
use Rattle.run_order.proofs.OrderLaws.{orders-begin}
use Rattle.run_basket.proofs.DoneLaws.{done_none, done_all}
use Rattle.run_basket.proofs.BookedLaws.{booked-none}
use Rattle.run_basket.proofs.ReadLaws.{terms-are, low-kept, participants-kept, issues-kept, sized-kept, marks-are}
use Rattle.lists.proofs.AppendLaws.{over_none}
use Rattle.run_basket.proofs.NextLaws.{runnable}

-- ---- the seven baskets

-- those before k are done
pub record Baskets (b draw : List ℕ) (t₀ : Lists) (c : List ℕ) (orders : List (ArrayVec ℕ)) (used' : List ℕ) (t : Lists) (k : ℕ) : Type 0 where
  pub here : k ≤ baskets
  pub done : Done b t₀.matches.now t₀.lines.now (done_to (view b) draw k) c orders used' t
  pub same : SameLists t₀ t

module _ (b draw : List ℕ) (stock : Stock) (t₀ : Lists) (h : RunBasketsAsks b draw stock t₀) where
  nothing-done : Running b t₀.matches.now t₀.lines.now [] b (zeros lots_size) t₀
  unfolding used match_list line_list lines_from
  nothing-done = record {
    booked = booked-none b h.start.book;
    places = refl;
    gone = λ d i x v. get_or-zeros lots_size (row_cell d i);
    match_size = refl;
    entries = sym (over_none t₀.matches.now 0);
    line_size = refl;
    rows = sym (over_none t₀.lines.now 0);
    match_count = h.no_match;
    line_count = h.no_line;
  }

  -- no deliverer's issues are ranked
  pub baskets-none : {orders : List (ArrayVec ℕ)} → AllOfLen (λ o. o.items ≡ []) orders most_participants → Baskets b draw t₀ b orders (zeros lots_size) t₀ 0
  baskets-none {orders} e = record {
    here = omega arith;
    done = record {
      running = subst (λ (x : List Allocation). Running b t₀.matches.now t₀.lines.now x b (zeros lots_size) t₀) (sym (done_none (view b) draw)) nothing-done;
      kept = orders-begin b orders e.long (λ d x. e.at d (record { items = [] }) x);
    };
    same = same-lists t₀;
  }

  module _ {c : List ℕ} {orders : List (ArrayVec ℕ)} {used' : List ℕ} {t : Lists} {k : ℕ} (w : Baskets b draw t₀ c orders used' t k) where
    pub basket-asked : k < baskets → RunBasketAsks k c draw stock orders used' t
    basket-asked x = record { b₀ = b; m₀ = t₀.matches.now; l₀ = t₀.lines.now; begun = record { start = h.start; basket = x; stocked = h.stocked; running = w.done.running; kept = w.done.kept } }

    pub baskets-more : (x : k < baskets) {c' : List ℕ} {orders' : List (ArrayVec ℕ)} {used'' : List ℕ} {t' : Lists}
        → ((s : RunBasketAsks k c draw stock orders used' t) → Done s.b₀ s.m₀ s.l₀ (done_to (view s.b₀) draw (k + 1)) c' orders' used'' t')
        → SameLists t t' → Baskets b draw t₀ c' orders' used'' t' (k + 1)
    unfolding basket-asked
    baskets-more x f e = record { here = omega arith; done = f (basket-asked x); same = same-then w.same e }

    pub baskets-all : baskets ≤ k → RunBasketsGives b draw t₀.matches.now t₀.lines.now c t
    baskets-all x =
        let e : k ≡ baskets = omega (arith, w.here) in
        record {
          used = used';
          running = subst (λ (d : List Allocation). Running b t₀.matches.now t₀.lines.now d c used' t) (ap (done_to (view b) draw) e ∙ done_all (view b) draw) w.done.running;
        }

-- ---- the notices

-- those of the participants below p are cleared
pub record ClearedTo (b c : List ℕ) (p : ℕ) : Type 0 where
  pub here : p ≤ participants_in b
  pub size : length c ≡ length b
  pub none : (q i : ℕ) → q < p → i < issues_in b → get_or c (lots_cell notices_at q i) 0 ≡ 0
  pub kept : (j : ℕ) → ((q i : ℕ) → q < p → i < issues_in b → j ≢ lots_cell notices_at q i) → get_or c j 0 ≡ get_or b j 0

module _ (b : List ℕ) (s : DaySized b) where
  abbrev n : ℕ
  n = participants_in b

  abbrev m : ℕ
  m = issues_in b

  module _ {c : List ℕ} {p at : ℕ} (w : ClearedTo b c p) (x : p < n) (place : at ≡ lots_row notices_at p) where
    -- the row as it is lent, and the book with a part in its place
    abbrev lent-row : List ℕ
    lent-row = take (at + m - at) (drop at c)

    abbrev back : List ℕ → List ℕ
    back part = put_mid at (at + m - at) c part

    cleared-room : at + m ≤ length c
    cleared-room = omega (arith, place, w.size, s.cells, s.participants, s.issues)

    pub cleared_more : (part : List ℕ) → part ≡ replicate (length (take (at + m - at) (drop at c))) 0 → ClearedTo b (put_mid at (at + m - at) c part) (p + 1)
    cleared_more part e = record {
      here = omega arith;
      size = lent-size P c at m part cleared-room v ∙ w.size;
      none = λ q i y z. cases q i y z (ℕ_discrete q p);
      kept = λ j f.
          lent_out P c at m part cleared-room v j (where-is j at m (λ i z q. f p i (omega arith) z (q ∙ ap (λ (o : ℕ). o + i) place)))
          ∙ w.kept j (λ q i y z. f q i (omega arith) z);
    }
      where
        P : ℕ → ℕ → Type 0
        P i q = q ≡ 0

        v : Becomes P lent-row part
        v = record {
          size = ap length e ∙ length-replicate (length lent-row) 0;
          cells = λ i z. ap (λ (o : List ℕ). get_or o i 0) e ∙ get_or-replicate (length lent-row) i 0 0 z;
        }

        cases : (q i : ℕ) → q < p + 1 → i < m → Dec (q ≡ p) → get_or (back part) (lots_cell notices_at q i) 0 ≡ 0
        cases q i y z (yes f) =
            ap (λ (o : ℕ). get_or (back part) o 0) (ap (λ (o : ℕ). lots_cell notices_at o i) f ∙ ap (λ (o : ℕ). o + i) (sym place))
            ∙ lent-in P c at m part cleared-room v i z
        cases q i y z (no f) =
            lent_out P c at m part cleared-room v (lots_cell notices_at q i) (inl (omega (arith, place, s.issues))) ∙ w.none q i (omega arith) z

  pub cleared-all : {c : List ℕ} {p : ℕ} → ClearedTo b c p → n ≤ p → ClearNoticesGives b c
  cleared-all w y = record { size = w.size; none = λ q i x v. w.none q i (omega arith) v; kept = λ j f. w.kept j (λ q i x v. f q i (omega (arith, w.here)) v) }

-- ---- the book that is left

-- a table's cells are those that it was made of
abbrev rectangle : ℕ → ℕ → (ℕ → ℕ → ℕ) → List (List ℕ)
rectangle rows columns f = table rows (λ r. table columns (λ c. f r c))

rectangle-cell : (rows columns : ℕ) (f : ℕ → ℕ → ℕ) (r c : ℕ) → r < rows → c < columns → cell (rectangle rows columns f) r c ≡ f r c
rectangle-cell rows columns f r c l x =
    ap (λ (o : List ℕ). get_or o c 0) (get_or-table rows (λ r. table columns (λ c. f r c)) r [] l) ∙ get_or-table columns (λ c. f r c) c 0 x

module _ (b draw : List ℕ) (s : SoundBook b) (h : Runnable (view b) draw) (c d : List ℕ) (w : BookedTo b (allocations (view b) draw) c) (v : ClearNoticesGives c d) where
  abbrev done : List Allocation
  done = allocations (view b) draw

  abbrev y : Day
  y = view b

  abbrev q : ℕ
  q = participants_in b

  abbrev e : List ℕ
  e = set d 2 (get_or d 2 0 + 1)

  same-n : participants_in c ≡ participants_in b
  same-n = participants-kept b s done c w

  same-m : issues_in c ≡ issues_in b
  same-m = issues-kept b s done c w

  few : q ≤ most_participants
  few = s.sizes.few

  most : issues_in b ≤ most_issues
  most = s.sizes.most

  size : length e ≡ book_length
  size = length-set d 2 (get_or d 2 0 + 1) ∙ v.size ∙ w.size

  -- no notice, and not the count of runs
  else-kept : (j : ℕ) → j ≢ 2 → ((p i : ℕ) → p < q → i < issues_in b → j ≢ lots_cell notices_at p i) → get_or e j 0 ≡ get_or c j 0
  else-kept j f g = get_or-set_other d 2 j (get_or d 2 0 + 1) 0 f ∙ v.kept j (λ p i x z. g p i (omega (arith, same-n)) (omega (arith, same-m)))

  low : (j : ℕ) → j ≢ 2 → j < positions_at → get_or e j 0 ≡ get_or b j 0
  low j f l = else-kept j f (λ p i x z k. omega arith) ∙ low-kept b s done c w j l

  count : get_or e runs_at 0 ≡ get_or b runs_at 0 + 1
  count =
      get_or-set_same d 2 (get_or d 2 0 + 1) 0 (omega (arith, v.size, w.size))
      ∙ ap (λ (x : ℕ). x + 1) (v.kept 2 (λ p i x z k. omega arith) ∙ low-kept b s done c w 2 (omega arith))

  shape : Shaped (ran (view b) done)
  shape = ran-shaped (view b) draw h

  positions-stand : Stands e positions_at most_participants baskets q (signed_rows (ran (view b) done).state.owed (ran (view b) done).state.due)
  unfolding ran view
  positions-stand k p l x =
      let o : ℕ → ℕ → ℕ = λ k p. cell y.state.owed k p - covered_from done k p in
      let u : ℕ → ℕ → ℕ = λ k p. cell y.state.due k p - covered_to done k p in
      else-kept (position_cell k p) (λ z. omega arith) (λ r i z m g. omega (arith, few)) ∙ w.positions k p l x
      ∙ sym (signed-cell (rectangle baskets q o) (rectangle baskets q u) baskets q k p shape.owed l x
      ∙ ap₂ signed (rectangle-cell baskets q o k p l x) (rectangle-cell baskets q u k p l x))

  today-stand : (k : ℕ) → k < baskets → Stands e (mark_square today_at k) most_participants q q (row (ran (view b) done).state.today k)
  unfolding ran view
  today-stand k l r t x z =
      let f : ℕ → ℕ → ℕ → ℕ = λ k d r. pick (ltb 0 (covered_pair done k d r)) 1 (mark y.state.today k d r) in
      else-kept (mark_cell today_at k r t) (λ g. omega arith) (λ p i m n g. omega (arith, few, most)) ∙ w.marks k r t l x z
      ∙ sym (ap (λ (o : List (List ℕ)). cell o r t) (get_or-table baskets (λ k. rectangle q q (f k)) k [] l)
      ∙ rectangle-cell q q (f k) r t x z)

  tally-stand : Stands e tally_at most_issues q (issues_in b) (signed_rows (ran (view b) done).state.delivered (ran (view b) done).state.received)
  unfolding ran view
  tally-stand p i l x =
      let out : ℕ → ℕ → ℕ = λ p i. cell y.state.delivered p i + lots_from done p i in
      let back : ℕ → ℕ → ℕ = λ p i. cell y.state.received p i + lots_to done p i in
      let n : ℕ = issues_in b in
      let gone : ℕ → ℕ → ℕ = λ p i. out p i - back p i in
      let come : ℕ → ℕ → ℕ = λ p i. back p i - out p i in
      else-kept (lots_cell tally_at p i) (λ g. omega arith) (λ r t m o g. omega (arith, few, most)) ∙ w.tally p i l x
      ∙ sym (signed-cell (rectangle q n gone) (rectangle q n come) q n p i shape.delivered l x
      ∙ ap₂ signed (rectangle-cell q n gone p i l x) (rectangle-cell q n come p i l x))

  notices-stand : Stands e notices_at most_issues q (issues_in b) (ran (view b) done).state.notices
  unfolding ran view
  notices-stand p i l x =
      get_or-set_other d 2 (lots_cell notices_at p i) (get_or d 2 0 + 1) 0 (λ z. omega arith) ∙ v.none p i (omega (arith, same-n)) (omega (arith, same-m))
      ∙ sym (ap (λ (r : List ℕ). get_or r i 0) (get_or-table q (λ p. zeros (issues_in b)) p [] l) ∙ get_or-zeros (issues_in b) i)

  holds : Holds e (ran (view b) done)
  unfolding ran view
  holds =
      let z : Holds b (view b) = view-holds b s.readable in
      record {
        participants = low 0 (λ k. omega arith) (omega arith);
        issues = low 1 (λ k. omega arith) (omega arith);
        runs = count;
        trades = low 3 (λ k. omega arith) (omega arith);
        given = given-kept (view b) (view-shaped b s.readable) b e (λ j l x. low j (λ k. omega arith) x) z.given;
        positions = positions-stand;
        notices = notices-stand;
        today = today-stand;
        tally = tally-stand;
      }

  -- a place outside the day's tables stays
  frame : (j : ℕ) → Every (Outside j) (joined (tables_of (ran (view b) done))) → get_or e j 0 ≡ get_or b j 0
  unfolding ran view
  frame j o =
      let r : Day = ran (view b) done in
      else-kept j (λ z. omega (arith, outside-sizes r shape b s.readable.size j o)) (λ p i l x z. past (outside-notice r shape b s.readable.size j o p l) z x)
      ∙ w.kept j (record {
        positions = λ k p l x z. past (outside-position r shape b s.readable.size j o k l) z x;
        marks = λ k a t l x m z. past (outside-pair r shape b s.readable.size j o k a l x) z m;
        tally = λ p i l x z. past (outside-tally r shape b s.readable.size j o p l) z x;
      })
    where
      past : {a i n : ℕ} → (j < a) ⊎ (a + n ≤ j) → j ≡ a + i → i < n → ⊥
      past (inl l) k x = omega arith
      past (inr l) k x = omega arith

  pub book-left : e ≡ stored b (ran (view b) done)
  book-left = sym (stored_is (ran (view b) done) shape b s.readable.size e size holds frame)

-- ---- the whole

module _ (b draw m₀ l₀ : List ℕ) (h : RunAsks b draw m₀ l₀) where
  terms-sound : all_terms_fit (issues_in b) (view b).given.terms (view b).given.marks ≡ true
  unfolding view
  terms-sound = h.book.day.given.terms

  -- the row of the quotes, as long as there are issues, was lent and is back
  module _ (row : List Quote) (wide : length row ≡ most_issues) {issues : List (List ℕ)} (size : length issues ≡ issues_in b) (there : issues ≡ issue_rows b) where
    lent : length (take (issues_in b) row) ≡ issues_in b
    lent = length-take-le (issues_in b) row (omega (arith, wide, h.book.sizes.most))

    pub quotes-lent : QuoteFillAsks (length (take (issues_in b) row)) issues
    quotes-lent =
        sound-termed (length (take (issues_in b) row)) issues (book_marks b) (size ∙ sym lent)
        (rw there (ap (λ (n : ℕ). all_terms_fit n (book_terms b) (book_marks b)) lent
        ∙ ap₂ (all_terms_fit (issues_in b)) (terms-are b) (marks-are b) ∙ terms-sound))

    -- the stock has them
    pub stocked : {quotes : Bor (List Quote)} {allocable : Bor (List ℕ)} → length quotes.now ≡ length (take (issues_in b) row) → Quotes (map terms_of issues) quotes.now
        → AllocableRowsGives b allocable.now → Stocked b (record { quotes = quotes; allocable = allocable })
    stocked {quotes} e r a = record {
      quotes = record { there = omega (arith, e, lent); quoted = subst (λ (rows : List (List ℕ)). Quotes (map terms_of rows) quotes.now) there r };
      lots = a;
    }

  module _ {c : List ℕ} {t : Lists} (w : RunBasketsGives b draw m₀ l₀ c t) where
    pub clear-asked : DaySized c
    clear-asked = sized-kept b h.book (allocations (view b) draw) c w.running.booked

    -- the lists that were lent are those that the run wrote
    pub run-done : {d matches lines : List ℕ} → ClearNoticesGives c d → matches ≡ t.matches.now → lines ≡ t.lines.now
        → RunGives b draw m₀ l₀ (set d 2 (get_or d 2 0 + 1)) matches lines t.counts.matches t.counts.lines
    run-done {d} v x y = record {
      book = book-left b draw h.book (runnable b draw m₀ l₀ h) c d w.running.booked v;
      entries = x ∙ w.running.entries;
      rows = y ∙ w.running.rows;
      match_count = w.running.match_count;
      line_count = w.running.line_count;
    }

    -- the count of runs stays small
    pub runs-few : {d : List ℕ} → ClearNoticesGives c d → get_or d 2 0 < 3
    unfolding view
    runs-few v = omega (arith, v.kept 2 (λ p i x z k. omega arith), low-kept b h.book (allocations (view b) draw) c w.running.booked 2 (omega arith), h.runs)
