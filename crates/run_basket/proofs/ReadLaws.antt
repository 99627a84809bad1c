-- Laws of reading the book: what the cells say of the day, and that a run's bookings leave them. Assumes nothing.
use mathlib.Core.Path.{◌≡◌, refl, sym, ap, ap₂, ◌∙◌, subst}
use mathlib.Core.Logic.{◌≢◌}
use mathlib.Core.Bool.{◌&&◌}
use mathlib.Core.List.{List, [], ◌∷◌, ◌++◌, map}
use Prim.Native.Nat.{ℕ, zero, suc, ◌+◌, ◌-◌, ◌*◌, ◌≤◌, ◌<◌}
use native.Mathlib.Numerals.{add-one}
use native.Mathlib.Omega.{arith}
use lib.ListN.{length, get_or}
use lib.Dec.{eqb}
use borrow.Author.Tests.{ne_eqb}
use Rattle.lists.specs.Tests.{pick}
use Rattle.lists.specs.Tables.{table, row, cell}
use Rattle.lists.specs.Folds.{total, Every}
use Rattle.lists.specs.Parts.{block, grid}
use Rattle.lists.proofs.TestLaws.{pick_no, stop}
use Rattle.lists.proofs.FoldLaws.{fold-kept, every_append, every-all}
use Rattle.lists.proofs.TableLaws.{get_or-table, get_d_map, length-table}
use Rattle.lists.proofs.PartLaws.{blocks-agree, grid-get, grid-agree}
use Rattle.rule.specs.Value.{no_terms}
use Rattle.rule.specs.Allocable.{allocable, Marks, no_marks}
use Rattle.rule.specs.Matching.{plan}
use Rattle.rule.specs.Day.{Day, baskets, terms_of, term_size, marks_of}
use Rattle.rule.specs.Run.{Allocation, used_table, allocate, basket_plan, basket, allocable_of, covered_from, covered_to}
use Rattle.rule.specs.Layout.{terms_at, receipts_at, pairs_at, positions_at, notices_at, today_at, plus, minus, view, signed, position_cell, most_participants, most_issues, participants_at, issues_at, runs_at, issue_terms, lots_cell, position_row, mark_square}
use Rattle.rule.proofs.BookLaws.{SoundBook}
use Rattle.run_usable.specs.Stock.{terms_in, marks_in, allocable_in}
use Rattle.layout.specs.InBook.{participants_in, issues_in, issue_rows, book_terms, book_marks}
use Rattle.run_order.specs.Sizes.{DaySized}
use Rattle.run_match.specs.Filled.{positions_in, plan_in}
use Rattle.run_basket.specs.Running.{done_to, BookedTo}
use Rattle.run_basket.proofs.DoneLaws.{to-more}
use Rattle.run_basket.proofs.BookedLaws.{booked-none}

-- ---- the day in the cells

-- yesterday's marks of basket k's pairs
abbrev pair_marks : List ℕ → ℕ → List (List ℕ)
pair_marks b k = grid b (mark_square pairs_at k) most_participants (participants_in b) (participants_in b)

module _ (b : List ℕ) where
  issue-read : {A : Type 0} (f : List ℕ → A) (d : A) (i : ℕ) → i < issues_in b → get_or (map f (issue_rows b)) i d ≡ f (block b (issue_terms i) term_size)
  issue-read f d i l =
      let rows : ℕ → List ℕ = λ p. block b (issue_terms p) term_size in
      get_d_map f (issue_rows b) i [] d (omega (arith, length-table (issues_in b) rows)) ∙ ap f (get_or-table (issues_in b) rows i [] l)

  pub terms-read : (i : ℕ) → i < issues_in b → get_or (view b).given.terms i no_terms ≡ terms_in b i
  unfolding view terms_in
  terms-read i l = issue-read terms_of no_terms i l

  marks-read : (i : ℕ) → i < issues_in b → get_or (view b).given.marks i no_marks ≡ marks_in b i
  unfolding view marks_in
  marks-read i l = issue-read marks_of no_marks i l

  pub notices-read : (p i : ℕ) → p < participants_in b → i < issues_in b → cell (view b).state.notices p i ≡ get_or b (lots_cell notices_at p i) 0
  unfolding view
  notices-read p i l k = grid-get b notices_at most_issues (participants_in b) (issues_in b) p i l k

  receipts-read : (p i : ℕ) → p < participants_in b → i < issues_in b → cell (view b).given.receipts p i ≡ get_or b (lots_cell receipts_at p i) 0
  unfolding view
  receipts-read p i l k = grid-get b receipts_at most_issues (participants_in b) (issues_in b) p i l k

  pub runs-read : (view b).state.runs ≡ get_or b runs_at 0
  unfolding view
  runs-read = refl

  pub allocable-read : (p i : ℕ) → p < participants_in b → i < issues_in b → allocable_of (view b) p i ≡ allocable_in b p i
  unfolding allocable_of allocable_in
  allocable-read p i l k =
      ap₂ (λ (r : ℕ) (m : Marks). allocable r m (cell (view b).state.notices p i) (cell (view b).given.receipts p i)) runs-read (marks-read i k)
      ∙ ap₂ (λ (x z : ℕ). allocable (get_or b runs_at 0) (marks_in b i) x z) (notices-read p i l k) (receipts-read p i l k)

  pub terms-are : book_terms b ≡ (view b).given.terms
  unfolding view
  terms-are = refl

  pub marks-are : book_marks b ≡ (view b).given.marks
  unfolding view
  marks-are = refl

  pub plan-read : (draw : List ℕ) (k : ℕ) → k < baskets → plan_in b draw k ≡ basket_plan (view b) draw k
  unfolding plan_in basket_plan view
  plan-read draw k l =
      let n : ℕ = participants_in b in
      let rows : ℕ → List ℕ = λ q. block b (position_row q) n in
      let size : length (table baskets rows) ≡ baskets = length-table baskets rows in
      let side : (f : ℕ → ℕ) → map f (positions_in b k) ≡ row (map (map f) (table baskets rows)) k =
      λ f. sym (get_d_map (map f) (table baskets rows) k [] [] (omega arith) ∙ ap (map f) (get_or-table baskets rows k [] l)) in
      ap₂ (λ (x : List ℕ) (z : List ℕ). plan (get_or b runs_at 0) (pair_marks b k) draw x z) (side plus) (side minus)
      ∙ ap (λ (x : List (List ℕ)). plan (get_or b runs_at 0) x draw (row (map (map plus) (table baskets rows)) k) (row (map (map minus) (table baskets rows)) k))
      (sym (get_or-table baskets (λ q. grid b (mark_square pairs_at q) most_participants n n) k [] l))

-- ---- what a run's bookings leave

module _ (b : List ℕ) (s : SoundBook b) (done : List Allocation) (c : List ℕ) (w : BookedTo b done c) where
  -- all before the positions, and the notices
  pub low-kept : (j : ℕ) → j < positions_at → get_or c j 0 ≡ get_or b j 0
  low-kept j h = w.kept j (record { positions = λ k p l q e. omega arith; marks = λ k d r l q m e. omega arith; tally = λ p i l q e. omega arith })

  pub notices-kept : (j : ℕ) → notices_at ≤ j → j < today_at → get_or c j 0 ≡ get_or b j 0
  notices-kept j h l =
      w.kept j (record { positions = λ k p m q e. omega (arith, s.sizes.few); marks = λ k d r m q o e. omega arith; tally = λ p i m q e. omega arith })

  pub issues-kept : issues_in c ≡ issues_in b
  issues-kept = low-kept issues_at (omega arith)

  pub participants-kept : participants_in c ≡ participants_in b
  participants-kept = low-kept participants_at (omega arith)

  pub sized-kept : DaySized c
  sized-kept = record {
    cells = w.size;
    participants = omega (arith, participants-kept, s.sizes.few);
    some = omega (arith, issues-kept, s.sizes.one);
    issues = omega (arith, issues-kept, s.sizes.most);
  }

  -- the issues' terms and marks
  issue-kept : (i : ℕ) → i < most_issues → block c (issue_terms i) term_size ≡ block b (issue_terms i) term_size
  issue-kept i l = blocks-agree c b (issue_terms i) term_size (w.size ∙ sym s.readable.size) (λ j h. low-kept (issue_terms i + j) (omega arith))

  pub terms-in-kept : (i : ℕ) → i < most_issues → terms_in c i ≡ terms_in b i
  unfolding terms_in
  terms-in-kept i l = ap terms_of (issue-kept i l)

  pub rows-kept : issue_rows c ≡ issue_rows b
  rows-kept =
      ap (λ (n : ℕ). grid c terms_at term_size n term_size) issues-kept
      ∙ grid-agree c b terms_at term_size (issues_in b) term_size (λ p l. issue-kept p (omega (arith, s.sizes.most)))

  none_from : (k p : ℕ) → covered_from [] k p ≡ 0
  unfolding covered_from
  none_from k p = refl

  none-to : (k p : ℕ) → covered_to [] k p ≡ 0
  unfolding covered_to
  none-to k p = refl

  -- a basket of which nothing is covered yet
  module _ (k : ℕ) (basket : k < baskets) (fresh : (p : ℕ) → (covered_from done k p ≡ 0) × (covered_to done k p ≡ 0)) where
    position-kept : (p : ℕ) → p < participants_in b → get_or c (position_cell k p) 0 ≡ get_or b (position_cell k p) 0
    position-kept p l =
        w.positions k p basket l
        ∙ ap₂ (λ (x z : ℕ). signed (cell (view b).state.owed k p - x) (cell (view b).state.due k p - z)) ((fresh p).0 ∙ sym (none_from k p)) ((fresh p).1 ∙ sym (none-to k p))
        ∙ sym ((booked-none b s).positions k p basket l)

    plan-same : (draw : List ℕ) → get_or c runs_at 0 ≡ get_or b runs_at 0 → pair_marks c k ≡ pair_marks b k
        → positions_in c k ≡ positions_in b k → plan_in c draw k ≡ plan_in b draw k
    unfolding plan_in
    plan-same draw r g p =
        ap₂ (λ (x : ℕ) (z : List (List ℕ)). plan x z draw (map plus (positions_in c k)) (map minus (positions_in c k))) r g
        ∙ ap (λ (x : List ℕ). plan (get_or b runs_at 0) (pair_marks b k) draw (map plus x) (map minus x)) p

    pub plan-kept : (draw : List ℕ) → plan_in c draw k ≡ basket_plan (view b) draw k
    plan-kept draw =
        let e : length c ≡ length b = w.size ∙ sym s.readable.size in
        let n : ℕ = participants_in b in
        let positions : positions_in c k ≡ positions_in b k =
        ap (block c (position_row k)) participants-kept ∙ blocks-agree c b (position_row k) n e (λ p l. position-kept p l) in
        let square : ℕ = mark_square pairs_at k in
        let pair : ℕ → ℕ → ℕ = λ p i. square + most_participants * p + i in
        let pairs : pair_marks c k ≡ pair_marks b k =
        ap (λ (q : ℕ). grid c square most_participants q q) participants-kept
        ∙ grid-agree c b square most_participants n n
        (λ p l. blocks-agree c b (square + most_participants * p) n e (λ i m. low-kept (pair p i) (omega (arith, s.sizes.few)))) in
        plan-same draw (low-kept runs_at (omega arith)) pairs positions
        ∙ plan-read b draw k basket

-- ---- the baskets before k have covered nothing of basket k

module _ (y : Day) (draw : List ℕ) where
  of-basket : (k : ℕ) (before : List (List ℕ)) → Every (λ a. a.basket ≡ k) (basket y draw before k)
  unfolding basket allocate
  of-basket k before =
      fold-kept (Every (λ a. a.basket ≡ k)) (λ m. Unit {0}) (λ done m. done ++ (allocate y k before done m ∷ []))
      (λ done m u h. every_append (λ a. a.basket ≡ k) done (allocate y k before done m ∷ []) h (refl, tt))
      (basket_plan y draw k) (every-all (λ m. Unit {0}) (λ m. tt) (basket_plan y draw k)) [] tt

  every-imp : (P Q : Allocation → Type 0) → ((a : Allocation) → P a → Q a) → (l : List Allocation) → Every P l → Every Q l
  every-imp P Q f [] h = tt
  every-imp P Q f (a ∷ l) h = (f a h.0, every-imp P Q f l h.1)

  before-first : Every (λ a. a.basket < 0) (done_to y draw 0)
  unfolding done_to
  before-first = tt

  before-basket : (k : ℕ) → Every (λ a. a.basket < k) (done_to y draw k)
  before-basket zero = before-first
  before-basket (suc k) =
      let before : List (List ℕ) = used_table y.given (done_to y draw k) in
      subst (λ (l : List Allocation). Every (λ a. a.basket < suc k) l) (sym (to-more y draw k) ∙ ap (done_to y draw) (add-one k))
      (every_append (λ a. a.basket < suc k) (done_to y draw k) (basket y draw before k)
      (every-imp (λ a. a.basket < k) (λ a. a.basket < suc k) (λ a h. omega arith) (done_to y draw k) (before-basket k))
      (every-imp (λ a. a.basket ≡ k) (λ a. a.basket < suc k) (λ a h. omega arith) (basket y draw before k) (of-basket k before)))

  no-sum : (k : ℕ) (f g : Allocation → ℕ) (p : ℕ) (l : List Allocation) → Every (λ a. a.basket < k) l → total (λ a. pick (eqb a.basket k && eqb (g a) p) (f a) 0) l ≡ 0
  no-sum k f g p [] h = refl
  no-sum k f g p (a ∷ l) h =
      omega (arith, pick_no (eqb a.basket k && eqb (g a) p) (f a) 0 (stop (eqb a.basket k) (eqb (g a) p) (ne_eqb a.basket k (apart h.0))), no-sum k f g p l h.1)
    where
      apart : {x z : ℕ} → x < z → x ≢ z
      apart q e = omega arith

  pub nothing-covered : (k p : ℕ) → (covered_from (done_to y draw k) k p ≡ 0) × (covered_to (done_to y draw k) k p ≡ 0)
  unfolding covered_from covered_to
  nothing-covered k p =
      let none : (side : Allocation → ℕ) → total (λ a. pick (eqb a.basket k && eqb (side a) p) a.filled.covered 0) (done_to y draw k) ≡ 0 =
      λ side. no-sum k (λ a. a.filled.covered) side p (done_to y draw k) (before-basket k) in
      (none (λ a. a.match.deliverer), none (λ a. a.match.receiver))
