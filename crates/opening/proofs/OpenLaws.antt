-- Laws that the proofs of an opening cite. Assumes nothing.
use mathlib.Core.Path.{◌≡◌, refl, sym, ap, ap₂, ◌∙◌}
use mathlib.Core.Logic.{◌≢◌}
use Prim.Native.Nat.{ℕ, zero, suc, ◌+◌, ◌*◌, ◌/◌, ◌≤◌, ◌<◌}
use native.Mathlib.Nat.{mul-le-mul, mul-le-mul_left, mul-suc, mul_comm, le_refl}
use native.Mathlib.Numerals.{add-one}
use native.Mathlib.Omega.{arith}
use mathlib.Core.Bool.{Bool, true, false}
use borrow.Author.Rules.{rules}
use mathlib.Core.List.{List, [], ◌++◌, map, append_assoc, append-nil}
use lib.ListN.{length, set, length-set}
use Rattle.lists.specs.Tables.{from, table, zeros, row}
use Rattle.lists.specs.Folds.{joined}
use Rattle.lists.specs.Parts.{grid, rows_at, written}
use Rattle.lists.proofs.TableLaws.{length-zeros, get_or-table, length-table}
use Rattle.lists.proofs.PartLaws.{Shape, grid-shape, table-agree, written-append}
use Rattle.ranges.specs.Ranges.{terms_in_range}
use Rattle.lists.proofs.CutLaws.{cut, cut-all}
use Rattle.rule.specs.Isin.{codes_right}
use Rattle.rule.specs.Sound.{sizes_fit, at_most, receipts_fit, pairs_fit}
use Rattle.rule.specs.Day.{given_of, opened, code_size, term_size}
use Rattle.rule.specs.Calls.{Reply, accepted, refused, open_checks}
use Rattle.rule.specs.Layout.{book_length, codes_at, terms_at, receipts_at, pairs_at, cube_rows, stored, book_fits, open_of, most_participants, most_issues, participants_at, issues_at, mark_square}
use Rattle.rule.proofs.LayoutLaws.{terms-rows}
use Rattle.rule.proofs.SoundLaws.{Sizes, sizes-of}
use Rattle.rule.proofs.AnswerLaws.{answers}
use Rattle.rule.proofs.OpenLaws.{Openable, open-stored}
use Rattle.lists.proofs.CopyLaws.{Copies, copied-length}
use Rattle.opening.specs.Opened.{Lengths, marks_written, open_written, open_lengths}

-- ---- the pair marks, basket by basket

joined-more : {A : Type 0} (f : ℕ → List A) (k n : ℕ) → joined (map f (from k (suc n))) ≡ joined (map f (from k n)) ++ (f (k + n) ++ [])
joined-more f k zero = ap (λ (i : ℕ). f i ++ []) (omega arith)
joined-more {A} f k (suc n) =
    let e : suc k + n ≡ k + suc n = omega arith in
    ap (λ (l : List A). f k ++ l) (joined-more f (suc k) n ∙ ap (λ (i : ℕ). joined (map f (from (suc k) n)) ++ (f i ++ [])) e)
    ∙ sym (append_assoc (f k) (joined (map f (from (suc k) n))) (f (k + suc n) ++ []))

abbrev squares : ℕ → List ℕ → ℕ → List (ℕ × List ℕ)
squares n pairs k = rows_at (mark_square pairs_at k) most_participants (grid pairs (n * n * k) n n n)

squares-more : (n : ℕ) (pairs : List ℕ) (k : ℕ) → joined (table (suc k) (squares n pairs)) ≡ joined (table k (squares n pairs)) ++ squares n pairs k
squares-more n pairs k =
    let z : 0 + k ≡ k = omega arith in
    joined-more (squares n pairs) 0 k
    ∙ ap (λ (l : List (ℕ × List ℕ)). joined (table k (squares n pairs)) ++ l) (append-nil (squares n pairs (0 + k)) ∙ ap (squares n pairs) z)

-- marks of n participants, for a book of its length
pub record PairMarks (book : List ℕ) (n : ℕ) (pairs : List ℕ) : Type 0 where
  pub size : length book ≡ book_length
  pub few : n ≤ 12
  pub marks : length pairs ≡ 7 * (n * n)

pub marks_fit_book : {n m : ℕ} {codes terms receipts pairs b : List ℕ} → Lengths n m codes terms receipts pairs → length b ≡ book_length → PairMarks b n pairs
marks_fit_book l e = record { size = e; few = l.few; marks = l.pairs_size }

-- the marks of the baskets below k are copied
pub record Marked (b : List ℕ) (n : ℕ) (pairs c : List ℕ) (k : ℕ) : Type 0 where
  pub size : length c ≡ length b
  pub rows : c ≡ written b (joined (table k (squares n pairs)))

module _ (b : List ℕ) (n : ℕ) (pairs : List ℕ) (m : PairMarks b n pairs) where
  pub marked-none : Marked b n pairs b 0
  marked-none = record { size = refl; rows = refl }

  -- squared numbers of participants are small
  pub square-small : n * n ≤ 144
  square-small = mul-le-mul m.few m.few

  -- a basket's marks have room
  pub marks-of : (c : List ℕ) (k : ℕ) {at : ℕ} → at ≡ mark_square pairs_at k → length c ≡ length b → k < 7 → Copies c at most_participants n n pairs (n * n * k) n
  marks-of c k place e l = record {
    wide = m.few;
    room = omega (arith, place, m.size, m.few, e);
    source_wide = le_refl n;
    rows = omega (arith, m.marks, mul-le-mul_left (n * n) l, mul-suc (n * n) k, mul_comm (n * n) 7);
  }

  pub marked_more : {c : List ℕ} {k at : ℕ} → at ≡ mark_square pairs_at k → k < 7 → Marked b n pairs c k → (d : List ℕ)
      → d ≡ written c (rows_at at most_participants (grid pairs (n * n * k) n n n)) → Marked b n pairs d (k + 1)
  marked_more {c} {k} {at} place l h d r = record {
    size = ap length r ∙ copied-length c at most_participants n n pairs (n * n * k) n (marks-of c k place h.size l) ∙ h.size;
    rows = r ∙ ap (λ (o : ℕ). written c (rows_at o most_participants (grid pairs (n * n * k) n n n))) place ∙ ap (λ (x : List ℕ). written x (squares n pairs k)) h.rows
        ∙ sym (written-append (joined (table k (squares n pairs))) (squares n pairs k) b)
        ∙ sym (ap (written b) (squares-more n pairs k))
        ∙ sym (ap (λ (i : ℕ). written b (joined (table i (squares n pairs)))) (add-one k));
  }

  pub marked_all : {c : List ℕ} {k : ℕ} → k ≡ 7 → Marked b n pairs c k → c ≡ marks_written b n pairs
  unfolding marks_written
  marked_all e h = h.rows ∙ ap (λ (i : ℕ). written b (joined (table i (squares n pairs)))) e

  length-squares : (k : ℕ) → k ≤ 7 → length (written b (joined (table k (squares n pairs)))) ≡ length b
  length-squares zero l = refl
  length-squares (suc k) l =
      let c : List ℕ = written b (joined (table k (squares n pairs))) in
      let e : length c ≡ length b = length-squares k (omega arith) in
      ap (λ (ws : List (ℕ × List ℕ)). length (written b ws)) (squares-more n pairs k)
      ∙ ap length (written-append (joined (table k (squares n pairs))) (squares n pairs k) b)
      ∙ copied-length c (mark_square pairs_at k) most_participants n n pairs (n * n * k) n (marks-of c k refl e l) ∙ e

  pub length-marks : length (marks_written b n pairs) ≡ length b
  unfolding marks_written
  length-marks = length-squares 7 (omega arith)

-- ---- the whole book, table after table

abbrev pub sized : List ℕ → ℕ → ℕ → List ℕ
sized x n m = set (set x participants_at n) issues_at m

module _ (n m : ℕ) (codes terms receipts pairs b : List ℕ) (t : Lengths n m codes terms receipts pairs) (size : length b ≡ book_length) (x₀ : List ℕ) (e₀ : x₀ ≡ zeros (length b)) where
  pub length-cleared : length x₀ ≡ book_length
  length-cleared = ap length e₀ ∙ length-zeros (length b) ∙ size

  pub length-sized : length (sized x₀ n m) ≡ book_length
  length-sized = length-set (set x₀ participants_at n) issues_at m ∙ length-set x₀ participants_at n ∙ length-cleared

  pub codes-room : Copies (sized x₀ n m) codes_at code_size m code_size codes 0 code_size
  codes-room = record { wide = le_refl code_size; source_wide = le_refl code_size; room = omega (arith, length-sized, t.most); rows = omega (arith, t.codes_size) }

  module _ (x₁ : List ℕ) (e₁ : x₁ ≡ written (sized x₀ n m) (rows_at codes_at code_size (grid codes 0 code_size m code_size))) where
    length₁ : length x₁ ≡ book_length
    length₁ = ap length e₁ ∙ copied-length (sized x₀ n m) codes_at code_size m code_size codes 0 code_size codes-room ∙ length-sized

    pub terms-room : Copies x₁ terms_at term_size m term_size terms 0 term_size
    terms-room = record { wide = le_refl term_size; source_wide = le_refl term_size; room = omega (arith, length₁, t.most); rows = omega (arith, t.terms_size) }

    module _ (x₂ : List ℕ) (e₂ : x₂ ≡ written x₁ (rows_at terms_at term_size (grid terms 0 term_size m term_size))) where
      length₂ : length x₂ ≡ book_length
      length₂ = ap length e₂ ∙ copied-length x₁ terms_at term_size m term_size terms 0 term_size terms-room ∙ length₁

      pub receipts-room : Copies x₂ receipts_at most_issues n m receipts 0 m
      receipts-room = record { wide = t.most; source_wide = le_refl m; room = omega (arith, length₂, t.few); rows = omega (arith, t.receipts_size, mul_comm m n) }

      module _ (x₃ : List ℕ) (e₃ : x₃ ≡ written x₂ (rows_at receipts_at most_issues (grid receipts 0 m n m))) where
        pub length₃ : length x₃ ≡ book_length
        length₃ = ap length e₃ ∙ copied-length x₂ receipts_at most_issues n m receipts 0 m receipts-room ∙ length₂

        module _ (x₄ : List ℕ) (e₄ : x₄ ≡ marks_written x₃ n pairs) where
          pub length-all : length x₄ ≡ length b
          length-all = ap length e₄ ∙ length-marks x₃ n pairs (record { size = length₃; few = t.few; marks = t.pairs_size }) ∙ length₃ ∙ sym size

          pub all-written : x₄ ≡ open_written n m codes terms receipts pairs
          unfolding open_written
          all-written =
              e₄ ∙ ap (λ (x : List ℕ). marks_written x n pairs)
              (e₃ ∙ ap (λ (x : List ℕ). written x (rows_at receipts_at most_issues (grid receipts 0 m n m)))
              (e₂ ∙ ap (λ (x : List ℕ). written x (rows_at terms_at term_size (grid terms 0 term_size m term_size)))
              (e₁ ∙ ap (λ (x : List ℕ). written (sized x n m) (rows_at codes_at code_size (grid codes 0 code_size m code_size)))
              (e₀ ∙ ap zeros size))))

-- ---- what is written is the opened day

written-four : (a b c d : List (ℕ × List ℕ)) (x : List ℕ) → written (written (written (written x a) b) c) d ≡ written x (a ++ (b ++ (c ++ (d ++ []))))
written-four a b c d x =
    sym (written-append a (b ++ (c ++ (d ++ []))) x ∙ written-append b (c ++ (d ++ [])) (written x a)
    ∙ written-append c (d ++ []) (written (written x a) b) ∙ ap (written (written (written (written x a) b) c)) (append-nil d))

module _ (n m : ℕ) (codes terms receipts pairs : List ℕ) where
  cube-same : cube_rows pairs_at (given_of n m codes terms receipts pairs).pairs ≡ joined (table 7 (squares n pairs))
  unfolding given_of
  cube-same =
      ap joined (table-agree 7 (λ k. rows_at (mark_square pairs_at k) most_participants (row (table 7 (λ k. grid pairs (n * n * k) n n n)) k)) (squares n pairs)
      (λ k l. ap (rows_at (mark_square pairs_at k) most_participants) (get_or-table 7 (λ k. grid pairs (n * n * k) n n n) k [] l)))

  pub open-written : Openable n m codes terms receipts pairs → open_written n m codes terms receipts pairs ≡ stored (zeros book_length) (opened (given_of n m codes terms receipts pairs))
  unfolding open_written marks_written given_of
  open-written h =
      let x : List ℕ = sized (zeros book_length) n m in
      let g₁ : List (ℕ × List ℕ) = rows_at codes_at code_size (grid codes 0 code_size m code_size) in
      let g₂ : List (ℕ × List ℕ) = rows_at terms_at term_size (grid terms 0 term_size m term_size) in
      let g₃ : List (ℕ × List ℕ) = rows_at receipts_at most_issues (grid receipts 0 m n m) in
      let g₄ : List (ℕ × List ℕ) = joined (table 7 (squares n pairs)) in
      let rows : List (List ℕ) = grid terms 0 term_size m term_size in
      let shape : Shape rows m term_size = grid-shape terms 0 term_size m term_size (omega arith) (omega (arith, h.terms_size)) in
      written-four g₁ g₂ g₃ g₄ x
      ∙ ap₂ (λ (t : List (List ℕ)) (c : List (ℕ × List ℕ)). written x (g₁ ++ (rows_at terms_at term_size t ++ (g₃ ++ (c ++ [])))))
      (sym (terms-rows (given_of n m codes terms receipts pairs) rows refl refl shape)) (sym cube-same)
      ∙ sym (open-stored n m codes terms receipts pairs h)

-- ---- arrays tested whole

module _ {n m : ℕ} {codes terms receipts pairs : List ℕ} (l : Lengths n m codes terms receipts pairs) {r : Bool} where
  pub codes-whole : r ≡ codes_right (grid codes 0 code_size (length codes / code_size) code_size) → r ≡ codes_right (grid codes 0 code_size m code_size)
  codes-whole e = let k : length codes / code_size ≡ m = omega (arith, l.codes_size) in e ∙ ap (λ (j : ℕ). codes_right (grid codes 0 code_size j code_size)) k

  pub terms-whole : {rows : List (List ℕ)} → rows ≡ cut term_size terms → r ≡ terms_in_range (length rows) rows → r ≡ terms_in_range m (grid terms 0 term_size m term_size)
  terms-whole {rows} cut e =
      let there : rows ≡ grid terms 0 term_size m term_size = cut ∙ cut-all term_size m terms (omega arith) l.terms_size in
      e ∙ ap₂ terms_in_range (ap length there ∙ length-table m _) there

-- ---- what each return of a call with the right lengths shows

module _ (n m : ℕ) (codes terms receipts pairs b : List ℕ) where
  pub wrong-code : codes_right (grid codes 0 code_size m code_size) ≡ false → ◌≡◌ {A = Reply × List ℕ} (refused 2, b) (open_lengths n m codes terms receipts pairs b)
  unfolding open_lengths open_checks given_of
  wrong-code e = search (answers, rules) depth 12

  module _ (c : codes_right (grid codes 0 code_size m code_size) ≡ true) where
    pub wrong-term : terms_in_range m (grid terms 0 term_size m term_size) ≡ false → ◌≡◌ {A = Reply × List ℕ} (refused 3, b) (open_lengths n m codes terms receipts pairs b)
    unfolding open_lengths open_checks given_of
    wrong-term e = search (answers, rules) depth 12

    module _ (t : terms_in_range m (grid terms 0 term_size m term_size) ≡ true) where
      pub wrong-receipt : at_most 1000000000000 n m (grid receipts 0 m n m) ≡ false → ◌≡◌ {A = Reply × List ℕ} (refused 4, b) (open_lengths n m codes terms receipts pairs b)
      unfolding open_lengths open_checks given_of receipts_fit
      wrong-receipt e = search (answers, rules) depth 12

      module _ (r : at_most 1000000000000 n m (grid receipts 0 m n m) ≡ true) where
        pub wrong-pair : pairs_fit n (table 7 (λ k. grid pairs (n * n * k) n n n)) ≡ false → ◌≡◌ {A = Reply × List ℕ} (refused 4, b) (open_lengths n m codes terms receipts pairs b)
        unfolding open_lengths open_checks given_of receipts_fit
        wrong-pair e = search (answers, rules) depth 12

        pub all_right : Lengths n m codes terms receipts pairs → pairs_fit n (table 7 (λ k. grid pairs (n * n * k) n n n)) ≡ true
            → (x : List ℕ) → x ≡ open_written n m codes terms receipts pairs
            → ◌≡◌ {A = Reply × List ℕ} (accepted, x) (open_lengths n m codes terms receipts pairs b)
        unfolding open_lengths open_checks given_of receipts_fit
        all_right l p x w = fits (w ∙ open-written n m codes terms receipts pairs openable)
          where
            openable : Openable n m codes terms receipts pairs
            openable = record {
              sizes = l.sizes;
              codes_size = l.codes_size;
              terms_size = l.terms_size;
              receipts_size = l.receipts_size;
              pairs_size = l.pairs_size;
              given = record {
                sizes = l.sizes;
                codes = c;
                terms = t;
                receipts = r;
                pairs = p;
              };
            }

            fits : x ≡ stored (zeros book_length) (opened (given_of n m codes terms receipts pairs))
                → ◌≡◌ {A = Reply × List ℕ} (accepted, x) (open_lengths n m codes terms receipts pairs b)
            fits q = search (answers, rules) depth 14

-- ---- what each return of an opening shows

module _ (n m : ℕ) (codes terms receipts pairs b : List ℕ) where
  pub wrong-sizes : sizes_fit n m ≡ false → ◌≡◌ {A = Reply × List ℕ} (refused 1, b) (open_of n m codes terms receipts pairs b)
  unfolding open_of open_checks
  wrong-sizes e = search (answers, rules) depth 12

  module _ (s : sizes_fit n m ≡ true) where
    pub wrong-codes : length codes ≢ code_size * m → ◌≡◌ {A = Reply × List ℕ} (refused 1, b) (open_of n m codes terms receipts pairs b)
    unfolding open_of open_checks
    wrong-codes e = search (answers, rules) depth 12

    module _ (c : length codes ≡ code_size * m) where
      pub wrong-terms : length terms ≢ term_size * m → ◌≡◌ {A = Reply × List ℕ} (refused 1, b) (open_of n m codes terms receipts pairs b)
      unfolding open_of open_checks
      wrong-terms e = search (answers, rules) depth 12

      module _ (t : length terms ≡ term_size * m) where
        pub wrong-receipts : length receipts ≢ n * m → ◌≡◌ {A = Reply × List ℕ} (refused 1, b) (open_of n m codes terms receipts pairs b)
        unfolding open_of open_checks
        wrong-receipts e = search (answers, rules) depth 12

        module _ (r : length receipts ≡ n * m) where
          pub wrong-pairs : length pairs ≢ 7 * (n * n) → ◌≡◌ {A = Reply × List ℕ} (refused 1, b) (open_of n m codes terms receipts pairs b)
          unfolding open_of open_checks
          wrong-pairs e = search (answers, rules) depth 14

          module _ (p : length pairs ≡ 7 * (n * n)) where
            pub wrong-book : length b ≢ book_length → ◌≡◌ {A = Reply × List ℕ} (refused 1, b) (open_of n m codes terms receipts pairs b)
            unfolding open_of open_checks book_fits
            wrong-book e = search (answers, rules) depth 16

            module _ (k : length b ≡ book_length) where
              pub lengths : Lengths n m codes terms receipts pairs
              lengths =
                  let z : Sizes n m = sizes-of n m s in
                  record { sizes = s; some = (omega (arith, z.two), omega (arith, z.one)); few = z.few; most = z.most; codes_size = c; terms_size = t; receipts_size = r; pairs_size = p }

              pub right-lengths : (x : Reply × List ℕ) → x ≡ open_lengths n m codes terms receipts pairs b → x ≡ open_of n m codes terms receipts pairs b
              unfolding open_of open_lengths open_checks book_fits
              right-lengths x e = search (answers, rules) depth 16
