-- Every cell of a book is a word of 64 bits: a day of these ranges, stored, keeps it so, and every accepted call. Assumes nothing.
use mathlib.Core.Path.{◌≡◌, subst}
use mathlib.Core.Logic.{◌⊎◌, inl, inr}
use Prim.Native.Nat.{ℕ, zero, suc, ◌+◌, ◌≤◌, ◌<◌}
use native.Mathlib.Decide.{dec_lt}
use native.Mathlib.Omega.{arith}
use mathlib.Core.Bool.{Bool, true, ◌&&◌, ◌||◌}
use mathlib.Core.List.{List, [], ◌∷◌, ◌++◌, map}
use lib.ListN.{length, get_or, take, drop}
use lib.Dec.{leb, eqb}
use borrow.Author.Tests.{leb-true, eqb-true}
use Rattle.lists.specs.Tests.{same, all_below, first}
use Rattle.lists.specs.Tables.{from, table, zeros, row, cell}
use Rattle.lists.specs.Folds.{joined, Every}
use Rattle.lists.specs.Parts.{over, rows_at, written}
use Rattle.lists.proofs.TestLaws.{and_left, and_right, or_cases, all-at}
use Rattle.lists.proofs.FoldLaws.{every_append, every-index, every-joined}
use Rattle.lists.proofs.TableLaws.{get_or-zeros}
use Rattle.lists.proofs.PartLaws.{Shape}
use Rattle.rule.specs.Allocable.{Marks, no_marks}
use Rattle.rule.specs.Value.{Terms, no_terms}
use Rattle.rule.specs.Isin.{digit, capital, check_digit, is_isin, is_code, rising, codes_right}
use Rattle.rule.specs.Day.{code_size, term_size, Day, given_of, opened, traded, noticed, Given}
use Rattle.rule.specs.Run.{allocations, ran}
use Rattle.rule.specs.Sound.{notice_limit, terms_fit, all_terms_fit, receipts_fit, marks_fit}
use Rattle.rule.specs.Calls.{accepted, counts, open_checks, refusal, trade_checks, notice_checks}
use Rattle.rule.specs.Layout.{most_issues, pairs_at, today_at, book_length, signed, signed_rows, terms_row, terms_rows, cube_rows, tables_of, view, stored, book_fits, sound_book, open_of, trade_of, notice_of, run_of, mark_square, most_participants}
use Rattle.claims.specs.Claims.{Words}
use Rattle.rule.proofs.SoundLaws.{Most, most-of, Sizes, sizes-of, SoundDay}
use Rattle.rule.proofs.LayoutLaws.{of-tables, Shaped, view-shaped, terms-at, terms-length}
use Rattle.rule.proofs.BookLaws.{SoundBook}
use Rattle.rule.proofs.OpenLaws.{Openable, opened-shaped, opened-sound}
use Rattle.rule.proofs.TradeLaws.{Tradeable, traded-shaped, traded-sound}
use Rattle.rule.proofs.NoticeLaws.{Noticeable, noticed-shaped, noticed-sound}
use Rattle.rule.proofs.CallLaws.{passed, left, was-sound, openable, tradeable, noticeable}
use Rattle.lists.proofs.FoldLaws.{every_get}
use Rattle.rule.proofs.RunSound.{PairMarks, pair-marks-of, ran-shaped, ran-sound}
use Rattle.rule.proofs.RunCallLaws.{RunLeaves, run_sound}

abbrev pub Word : ℕ → Type 0
Word c = c < 18446744073709551616

-- ---- rows written over

module _ (P : ℕ → Type 0) where
  every_take : (n : ℕ) (l : List ℕ) → Every P l → Every P (take n l)
  every_take zero l h = tt
  every_take (suc n) [] h = tt
  every_take (suc n) (x ∷ xs) h = (h.0, every_take n xs h.1)

  every_drop : (n : ℕ) (l : List ℕ) → Every P l → Every P (drop n l)
  every_drop zero l h = h
  every_drop (suc n) [] h = tt
  every_drop (suc n) (x ∷ xs) h = every_drop n xs h.1

  every-written : (ws : List (ℕ × List ℕ)) (b : List ℕ) → Every P b → Every (λ w. Every P w.1) ws → Every P (written b ws)
  every-written [] b h k = h
  every-written (w ∷ ws) b h k =
      every-written ws (over b w.0 w.1)
      (every_append P (take w.0 b) (w.1 ++ drop (w.0 + length w.1) b) (every_take w.0 b h)
      (every_append P w.1 (drop (w.0 + length w.1) b) k.0 (every_drop (w.0 + length w.1) b h)))
      k.1

  every-rows : (stride : ℕ) (t : List (List ℕ)) (at : ℕ) → Every (Every P) t → Every (λ w. Every P w.1) (rows_at at stride t)
  every-rows stride [] at h = tt
  every-rows stride (r ∷ rs) at h = (h.0, every-rows stride rs (at + stride) h.1)

every-table : {A : Type 0} (P : A → Type 0) (f : ℕ → A) (k n : ℕ) → ((i : ℕ) → P (f i)) → Every P (map f (from k n))
every-table P f k zero h = tt
every-table P f k (suc n) h = (h k, every-table P f (suc k) n h)

-- every cell of a table, by its bound
most-words : (bound n m : ℕ) (t : List (List ℕ)) → bound < 18446744073709551616 → Shape t n m → Most bound n m t → Every (Every Word) t
most-words bound n m t small s h =
    every-index (Every Word) [] t (λ p l. let p' : p < n = omega (arith, s.rows) in
    every-index Word 0 (row t p) (λ i k. omega (arith, h p i p' (omega (arith, s.cells p p')))))

signed-words : (out back : List (List ℕ)) → Every (Every Word) (signed_rows out back)
signed-words out back =
    every-table (Every Word) (λ p. table (length (row out p)) (λ i. signed (cell out p i) (cell back p i))) 0 (length out)
    (λ p. every-table Word (λ i. signed (cell out p i) (cell back p i)) 0 (length (row out p)) (λ i. omega arith))

-- ---- codes are bytes, terms are small

sign_small : (c : ℕ) → (digit c || capital c) ≡ true → c ≤ 90
unfolding digit capital
sign_small c h = cases (or_cases (leb 48 c && leb c 57) (leb 65 c && leb c 90) h)
  where
    cases : ((leb 48 c && leb c 57) ≡ true) ⊎ ((leb 65 c && leb c 90) ≡ true) → c ≤ 90
    cases (inl e) = omega (arith, leb-true c 57 (and_right (leb 48 c) (leb c 57) e))
    cases (inr e) = leb-true c 90 (and_right (leb 65 c) (leb c 90) e)

capital-small : (c : ℕ) → capital c ≡ true → c ≤ 90
unfolding capital
capital-small c h = leb-true c 90 (and_right (leb 65 c) (leb c 90) h)

digit-small : (c : List ℕ) → check_digit c ≤ 9
unfolding check_digit
digit-small c = omega arith

code-small : (c : List ℕ) → is_code c ≡ true → (i : ℕ) → i < 12 → get_or c i 0 ≤ 90
unfolding is_code is_isin
code-small c h i l =
    let size : Bool = eqb (length c) 12 in
    let a : Bool = capital (get_or c 0 0) in
    let b : Bool = capital (get_or c 1 0) in
    let nine : Bool = all_below 9 (λ i. digit (get_or c (2 + i) 0) || capital (get_or c (2 + i) 0)) in
    let check : Bool = eqb (get_or c 11 0) (48 + check_digit (take 11 c)) in
    let isin : (size && a && b && nine && check) ≡ true = and_right (same (take 2 c) (74 ∷ 80 ∷ [])) _ h in
    let four : (size && a && b && nine) ≡ true = and_left (size && a && b && nine) check isin in
    let three : (size && a && b) ≡ true = and_left (size && a && b) nine four in
    byte (capital-small (get_or c 0 0) (and_right size a (and_left (size && a) b three))) (capital-small (get_or c 1 0) (and_right (size && a) b three))
    (λ j k. sign_small (get_or c (2 + j) 0) (all-at (λ i. digit (get_or c (2 + i) 0) || capital (get_or c (2 + i) 0)) 9 (and_right (size && a && b) nine four) j k))
    (omega (arith, eqb-true (get_or c 11 0) (48 + check_digit (take 11 c)) (and_right (size && a && b && nine) check isin), digit-small (take 11 c)))
    i l
  where
    byte : get_or c 0 0 ≤ 90 → get_or c 1 0 ≤ 90 → ((j : ℕ) → j < 9 → get_or c (2 + j) 0 ≤ 90) → get_or c 11 0 ≤ 90 → (i : ℕ) → i < 12 → get_or c i 0 ≤ 90
    byte z o m e zero l = z
    byte z o m e (suc zero) l = o
    byte z o m e (suc (suc i)) l = go (dec_lt i 9)
      where
        go : Dec (i < 9) → get_or c (suc (suc i)) 0 ≤ 90
        go (yes k) = let q : 2 + i ≡ suc (suc i) = omega arith in subst (λ (j : ℕ). get_or c j 0 ≤ 90) q (m i k)
        go (no k) = let q : 11 ≡ suc (suc i) = omega arith in subst (λ (j : ℕ). get_or c j 0 ≤ 90) q e

codes-words : (codes : List (List ℕ)) (m : ℕ) → Shape codes m code_size → codes_right codes ≡ true → Every (Every Word) codes
unfolding codes_right
codes-words codes m s h =
    let each_is : all_below (length codes) (λ i. is_code (get_or codes i [])) ≡ true = and_left _ (rising codes) h in
    most-words 90 m code_size codes (omega arith) s (λ p i l k.
    code-small (row codes p) (all-at (λ i. is_code (get_or codes i [])) (length codes) each_is p (omega (arith, s.rows))) i k)

terms-words : (t : Terms) (m : Marks) → terms_fit t ≡ true → marks_fit m ≡ true → Every Word (terms_row t m)
unfolding terms_fit marks_fit
terms-words t m h k =
    let kind : Bool = leb t.kind 6 in
    let low : Bool = leb 1000 t.price in
    let price : Bool = leb t.price 30000 in
    let coupon : Bool = leb t.coupon 20000 in
    let days : Bool = leb t.days 366 in
    let four : (kind && low && price && coupon) ≡ true = and_left (kind && low && price && coupon) days h in
    let three : (kind && low && price) ≡ true = and_left (kind && low && price) coupon four in
    let two : (kind && low) ≡ true = and_left (kind && low) price three in (
      omega (arith, leb-true t.kind 6 (and_left kind low two)),
      (
        omega (arith, leb-true t.price 30000 (and_right (kind && low) price three)),
        (
          omega (arith, leb-true t.coupon 20000 (and_right (kind && low && price) coupon four)),
          (
            omega (arith, leb-true t.days 366 (and_right (kind && low && price && coupon) days h)),
            (
              omega (arith, leb-true m.redeemed 1 (and_left (leb m.redeemed 1) (leb m.interest 1) k)),
              (omega (arith, leb-true m.interest 1 (and_right (leb m.redeemed 1) (leb m.interest 1) k)), tt),
            ),
          ),
        ),
      ),
    )

all-terms-words : (g : Given) → all_terms_fit g.issues g.terms g.marks ≡ true → Every (Every Word) (terms_rows g)
unfolding all_terms_fit
all-terms-words g h =
    every-index (Every Word) [] (terms_rows g) (λ i l.
    let k : i < g.issues = omega (arith, terms-length g) in
    let t : Terms = get_or g.terms i no_terms in
    let m : Marks = get_or g.marks i no_marks in
    let both : (terms_fit t && marks_fit m) ≡ true = all-at (λ i. terms_fit (get_or g.terms i no_terms) && marks_fit (get_or g.marks i no_marks)) g.issues h i k in
    rw (terms-at g i k) (terms-words t m (and_left (terms_fit t) (marks_fit m) both) (and_right (terms_fit t) (marks_fit m) both)))

-- ---- a day stored

module _ (y : Day) (s : Shaped y) (d : SoundDay y) where
  abbrev n : ℕ
  n = y.given.participants

  abbrev m : ℕ
  m = y.given.issues

  sizes : Sizes n m
  sizes = sizes-of n m d.given.sizes

  cube-words : (at : ℕ) (t : List (List (List ℕ))) → ((k : ℕ) → k < 7 → Shape (row t k) n n) → PairMarks n t → Every (λ w. Every Word w.1) (cube_rows at t)
  cube-words at t c h = every-joined (λ w. Every Word w.1) 7 (λ k. rows_at (mark_square at k) most_participants (row t k)) (λ k l.
      every-rows Word 12 (row t k) (mark_square at k) (most-words 1 n n (row t k) (omega arith) (c k l) (h.most k l)))

  rows_words : Every (λ w. Every Word w.1) (joined (tables_of y))
  rows_words = of-tables (λ w. Every Word w.1) y (record {
    counts = ((omega (arith, sizes.few), (omega (arith, sizes.most), (omega (arith, d.limits.runs), (omega (arith, d.limits.trades), tt)))), tt);
    given = record {
      codes = every-rows Word code_size y.given.codes _ (codes-words y.given.codes m s.given.codes d.given.codes);
      terms = every-rows Word term_size (terms_rows y.given) _ (all-terms-words y.given d.given.terms);
      receipts = every-rows Word most_issues y.given.receipts _
          (most-words 1000000000000 n m y.given.receipts (omega arith) s.given.receipts (unfold receipts_fit in most-of 1000000000000 n m y.given.receipts d.given.receipts));
      pairs = cube-words pairs_at y.given.pairs s.given.pairs (pair-marks-of n y.given.pairs d.given.pairs);
    };
    positions = every-rows Word most_participants (signed_rows y.state.owed y.state.due) _ (signed-words y.state.owed y.state.due);
    notices = every-rows Word most_issues y.state.notices _ (most-words notice_limit n m y.state.notices (omega arith) s.notices d.limits.notices);
    today = cube-words today_at y.state.today s.today (pair-marks-of n y.state.today d.today);
    tally = every-rows Word most_issues (signed_rows y.state.delivered y.state.received) _ (signed-words y.state.delivered y.state.received);
  })

  -- a book of words stays one when a sound day is stored
  pub stored-words : (b : List ℕ) → Words b → Words (stored b y)
  unfolding stored
  stored-words b w =
      every_get Word 0 (omega arith) (written b (joined (tables_of y))) (every-written Word (joined (tables_of y)) b (every-index Word 0 b (λ j l. w j)) rows_words)

-- ---- every accepted call keeps it

pub open-words : (n m : ℕ) (codes terms receipts pairs b : List ℕ) → (open_of n m codes terms receipts pairs b).0 ≡ accepted → Words (open_of n m codes terms receipts pairs b).1
unfolding open_of
open-words n m codes terms receipts pairs b a =
    let y : Day = opened (given_of n m codes terms receipts pairs) in
    let e : ℕ = first (open_checks (book_fits b) n m codes terms receipts pairs) in
    let z : e ≡ 0 = passed e (stored (zeros book_length) y) b a in
    let h : Openable n m codes terms receipts pairs = openable n m codes terms receipts pairs b z in
    rw (left e (stored (zeros book_length) y) b z)
    (stored-words y (opened-shaped n m codes terms receipts pairs h) (opened-sound n m codes terms receipts pairs h) (zeros book_length)
    (λ j. omega (arith, get_or-zeros book_length j)))

module _ (b : List ℕ) (words : Words b) where
  pub trade-words : (seller buyer k yen : ℕ) → (trade_of b seller buyer k yen).0 ≡ accepted → Words (trade_of b seller buyer k yen).1
  unfolding trade_of
  trade-words seller buyer k yen a =
      let y : Day = traded (view b) seller buyer k yen in
      let e : ℕ = refusal (sound_book b) (trade_checks (view b) seller buyer k yen) in
      let z : e ≡ 0 = passed e (stored b y) b a in
      let w : SoundBook b × (first (trade_checks (view b) seller buyer k yen) ≡ 0) = was-sound b words (trade_checks (view b) seller buyer k yen) z in
      let h : Tradeable (view b) seller buyer k yen = tradeable b words seller buyer k yen w.1 in
      let s : Shaped (view b) = view-shaped b w.0.readable in
      rw (left e (stored b y) b z) (stored-words y (traded-shaped (view b) s seller buyer k yen h) (traded-sound (view b) s seller buyer k yen h w.0.day) b words)

  pub notice-words : (p : ℕ) (issues lots : List ℕ) → (notice_of b p issues lots).0 ≡ accepted → Words (notice_of b p issues lots).1
  unfolding notice_of
  notice-words p issues lots a =
      let y : Day = noticed (view b) p issues lots in
      let e : ℕ = refusal (sound_book b) (notice_checks (view b) p issues lots) in
      let z : e ≡ 0 = passed e (stored b y) b a in
      let w : SoundBook b × (first (notice_checks (view b) p issues lots) ≡ 0) = was-sound b words (notice_checks (view b) p issues lots) z in
      let h : Noticeable (view b) p issues lots = noticeable b words p issues lots w.1 in
      let s : Shaped (view b) = view-shaped b w.0.readable in
      rw (left e (stored b y) b z) (stored-words y (noticed-shaped (view b) s p issues lots h) (noticed-sound (view b) s p issues lots h w.0.day) b words)

  pub run-words : (draw matches lines : List ℕ) (m l : ℕ) → (run_of b draw matches lines).0 ≡ counts m l → Words (run_of b draw matches lines).1.0
  run-words draw matches lines m l a =
      let r : RunLeaves b draw matches lines m l = run_sound b words draw matches lines m l a in
      rw r.book_after (stored-words (ran (view b) (allocations (view b) draw)) (ran-shaped (view b) draw r.runnable) (ran-sound (view b) draw r.runnable) b words)
