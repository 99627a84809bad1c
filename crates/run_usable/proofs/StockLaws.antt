-- Laws of what may be used. Assumes nothing.
use mathlib.Core.Path.{◌≡◌, refl, sym, ap, ap₂, ◌∙◌}
use mathlib.Core.Logic.{inl}
use mathlib.Core.Bool.{Bool, false}
use mathlib.Core.List.{List, []}
use Prim.Native.Nat.{ℕ, ◌+◌, ◌-◌, ◌*◌, ◌≤◌, ◌<◌}
use native.Mathlib.Nat.{not-suc-le-zero}
use native.Mathlib.Omega.{arith}
use native.Mathlib.Decide.{ℕ_discrete}
use lib.ListN.{length, get_or, set, take, drop, length-set}
use lib.Seq.{ext_get_or, get_or-set_same, get_or-set_other, take_all}
use borrow.Rule.Slice.PartMut.{put_mid}
use borrow.Author.Count.{below_more}
use Rattle.lists.specs.Tables.{table}
use Rattle.lists.specs.Parts.{block, grid}
use Rattle.lists.proofs.TestLaws.{pick-elim}
use Rattle.lists.proofs.TableLaws.{length-table, get_or-table}
use Rattle.lists.proofs.PartLaws.{block-get}
use Rattle.rule.specs.Day.{term_size, terms_of, marks_of}
use Rattle.rule.specs.Value.{Terms, value}
use Rattle.rule.specs.Baskets.{within}
use Rattle.rule.specs.Allocable.{allocable, Marks}
use Rattle.rule.specs.Filling.{worth}
use Rattle.rule.specs.Layout.{terms_at, receipts_at, notices_at, most_issues, lots_size, issue_terms, runs_at, lots_row, row_cell, row_start, issues_at, most_participants}
use Rattle.lists.specs.Rows.{Becomes}
use Rattle.lists.proofs.RowLaws.{lent-size, lent-in, lent_out, Changed, changed-none, changed-more}
use Rattle.value.specs.Range.{most_lots, most_sum}
use Rattle.value.specs.Quote.{QuoteOf}
use Rattle.value.specs.declared.Quote.{Quote}
use Rattle.value.proofs.SumLaws.{Summed, sum-none, sum_kept, sum_most, sum_more, sum-all}
use Rattle.run_usable.specs.Stock.{terms_in, marks_in, allocable_in, inside_of, usable_of, may_use, UsableRowAsks, UsableRowGives}

module _ (b : List ℕ) (n i : ℕ) (l : i < n) {issues : List (List ℕ)} (there : issues ≡ grid b terms_at term_size n term_size) where
  its-terms : get_or issues i [] ≡ block b (issue_terms i) term_size
  its-terms = ap (λ (rows : List (List ℕ)). get_or rows i []) there ∙ get_or-table n (λ p. block b (terms_at + term_size * p) term_size) i [] l

  -- what the window's rule answers is the allocable quantity
  pub allocable-cell : (p : ℕ) {notices receipts : List ℕ} {m : Marks} {r : ℕ} → notices ≡ block b (lots_row notices_at p) n → receipts ≡ block b (lots_row receipts_at p) n
      → m ≡ marks_of (get_or issues i []) → r ≡ allocable (get_or b runs_at 0) m (get_or notices i 0) (get_or receipts i 0) → r ≡ allocable_in b p i
  unfolding allocable_in marks_in
  allocable-cell p {notices} {receipts} e f q h =
      let runs : ℕ = get_or b runs_at 0 in
      h ∙ ap (λ (x : Marks). allocable runs x (get_or notices i 0) (get_or receipts i 0)) (q ∙ ap marks_of its-terms)
      ∙ ap₂ (allocable runs (marks_of (block b (issue_terms i) term_size)))
      (ap (λ (x : List ℕ). get_or x i 0) e ∙ block-get b (lots_row notices_at p) n i l)
      (ap (λ (x : List ℕ). get_or x i 0) f ∙ block-get b (lots_row receipts_at p) n i l)

  pub inside-cell : (k : ℕ) {w : Bool} → w ≡ within k (terms_of (get_or issues i [])) → w ≡ inside_of b k i
  unfolding inside_of terms_in
  inside-cell k e = e ∙ ap (λ (x : List ℕ). within k (terms_of x)) its-terms

-- ---- the issues of a basket

-- those below i are marked, in a row for as many issues as row₀
pub record MarkedTo (b : List ℕ) (k : ℕ) (row₀ row : List Bool) (i : ℕ) : Type 0 where
  pub size : length row ≡ length row₀
  pub cells : (j : ℕ) → j < i → get_or row j false ≡ inside_of b k j

pub marked-none : (b : List ℕ) (k : ℕ) (row : List Bool) → MarkedTo b k row row 0
marked-none b k row = record { size = refl; cells = λ j l. absurd (not-suc-le-zero l) }

module _ {b : List ℕ} {k : ℕ} {row₀ row : List Bool} {i : ℕ} (w : MarkedTo b k row₀ row i) where
  pub marked-more : {v : Bool} → i < length row → v ≡ inside_of b k i → MarkedTo b k row₀ (set row i v) (i + 1)
  marked-more {v} l e = record {
    size = length-set row i v ∙ w.size;
    cells = below_more (λ j. get_or (set row i v) j false ≡ inside_of b k j) i
        (λ j h. get_or-set_other row i j v false (omega arith) ∙ w.cells j h) (get_or-set_same row i v false l ∙ e);
  }

  pub marked-all : length row₀ ≤ i → row ≡ table (length row₀) (inside_of b k)
  marked-all l =
      ext_get_or false row (table (length row₀) (inside_of b k)) (w.size ∙ sym (length-table (length row₀) (inside_of b k)))
      (λ j h. w.cells j (omega (arith, w.size)) ∙ sym (get_or-table (length row₀) (inside_of b k) j false (omega (arith, w.size))))

-- ---- the rows of all participants

-- those of the participants below p are written
pub record AllocableTo (b cells : List ℕ) (p : ℕ) : Type 0 where
  pub places : length cells ≡ lots_size
  pub each : (q i : ℕ) → q < p → i < get_or b issues_at 0 → get_or cells (row_cell q i) 0 ≡ allocable_in b q i

module _ (b cells : List ℕ) where
  pub allocable-none : length cells ≡ lots_size → AllocableTo b cells 0
  allocable-none h = record { places = h; each = λ q i l. absurd (not-suc-le-zero l) }

  -- row p was lent, and written
  pub allocable-more : {at p m : ℕ} {part : List ℕ} → at ≡ row_start p → p < most_participants → m ≡ get_or b issues_at 0 → m ≤ most_issues
      → Becomes (λ i c. c ≡ allocable_in b p i) (take (at + m - at) (drop at cells)) part
      → AllocableTo b cells p → AllocableTo b (put_mid at (at + m - at) cells part) (p + 1)
  allocable-more {at} {p} {m} {part} place h few e w a = record {
    places = lent-size P cells at m part fit w ∙ a.places;
    each = λ q i l k. cases q i k l (ℕ_discrete q p);
  }
    where
      P : ℕ → ℕ → Type 0
      P i c = c ≡ allocable_in b p i

      fit : at + m ≤ length cells
      fit = omega (arith, place, a.places)

      back : List ℕ
      back = put_mid at (at + m - at) cells part

      cases : (q i : ℕ) → i < get_or b issues_at 0 → q < p + 1 → Dec (q ≡ p) → get_or back (row_cell q i) 0 ≡ allocable_in b q i
      cases q i k l (yes f) =
          let here : at + i ≡ row_cell q i = omega (arith, place, f) in
          ap (λ (j : ℕ). get_or back j 0) (sym here) ∙ lent-in P cells at m part fit w i (omega arith) ∙ ap (λ (r : ℕ). allocable_in b r i) (sym f)
      cases q i k l (no f) = lent_out P cells at m part fit w (row_cell q i) (inl (omega (arith, place))) ∙ a.each q i (omega arith) k

-- ---- what may be used, issue by issue

pub usable_most : (inside : Bool) (allocable used c : ℕ) → allocable ≤ c → usable_of inside allocable used ≤ c
unfolding usable_of
usable_most inside allocable used c h = pick-elim (λ (x : ℕ). x ≤ c) inside (allocable - used) 0 (omega arith) (omega arith)

-- the issues below i are written and summed
pub record UsableTo (inside : List Bool) (allocable used : List ℕ) (quotes : List Quote) (row₀ row : List ℕ) (all i : ℕ) : Type 0 where
  pub written : Changed (λ j c. c ≡ may_use inside allocable used j) row₀ row i
  pub summed : Summed (length row₀) row quotes all i

pub usable-none : (inside : List Bool) (allocable used : List ℕ) (quotes : List Quote) (row : List ℕ) → UsableTo inside allocable used quotes row row 0 0
usable-none inside allocable used quotes row = record { written = changed-none _ row; summed = sum-none }

module _ {inside : List Bool} {allocable used : List ℕ} {quotes : List Quote} {row₀ : List ℕ} (h : UsableRowAsks inside allocable used quotes (length row₀)) {row : List ℕ} {all i : ℕ}
    (w : UsableTo inside allocable used quotes row₀ row all i) where
  module _ (l : i < length row₀) {v : ℕ} (e : v ≡ may_use inside allocable used i) where
    abbrev row' : List ℕ
    row' = set row i v

    inside-row : i < length row
    inside-row = omega (arith, w.written.size)

    here : get_or row' i 0 ≡ v
    here = get_or-set_same row i v 0 inside-row

    -- what the value asks
    pub few : v ≤ most_lots
    few = omega (arith, e, usable_most (get_or inside i false) (get_or allocable i 0) (get_or used i 0) 200_000_000 (h.allocable_most i l))

    pub small : all ≤ most_sum
    small = sum_most h.few w.summed

    pub usable-more : {q : Quote} {next : ℕ} → q ≡ get_or quotes i q → ((t : Terms) → QuoteOf t q → next ≡ all + value t v)
        → UsableTo inside allocable used quotes row₀ row' next (i + 1)
    usable-more read g = record {
      written = changed-more _ v inside-row e w.written;
      summed = sum_more l (omega (arith, length-set row i v, inside-row)) read (omega (arith, here, few)) (λ t q. g t q ∙ ap (λ (x : ℕ). all + value t x) (sym here)) (sum_kept v w.summed);
    }

  pub usable-all : length row₀ ≤ i → UsableRowGives inside allocable used quotes (length row₀) row all
  usable-all l = record {
    row_is = ext_get_or 0 row (table (length row₀) (may_use inside allocable used)) (w.written.size ∙ sym (length-table (length row₀) _))
        (λ j k. w.written.cells j (omega (arith, w.written.size)) ∙ sym (get_or-table (length row₀) (may_use inside allocable used) j 0 (omega (arith, w.written.size))));
    worth_is = λ ts sized quoted. sum-all w.summed l ts sized quoted ∙ ap (worth ts) (take_all (length row₀) row (omega (arith, w.written.size)));
  }
