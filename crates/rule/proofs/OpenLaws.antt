-- Laws of an opening: an accepted one gives a sound day, and the book holds it. Assumes nothing.
use mathlib.Core.Path.{◌≡◌, sym, ap, ap₂, ◌∙◌, subst}
use mathlib.Core.Logic.{inl, inr}
use Prim.Native.Nat.{ℕ, ◌+◌, ◌*◌, ◌≤◌, ◌<◌}
use native.Mathlib.Nat.{mul_comm, mul-le-mul_left, mul-suc, le_refl}
use native.Mathlib.Omega.{arith}
use mathlib.Core.Bool.{true}
use mathlib.Core.List.{List, []}
use lib.ListN.{length, get_or, set, length-map, length-set}
use lib.Seq.{get_or-set_same, get_or-set_other}
use lib.Dec.{eqb}
use borrow.Author.Tests.{eq-eqb}
use Rattle.lists.specs.Tests.{all_below}
use Rattle.lists.specs.Tables.{table, zeros, zero_rows, row, cell}
use Rattle.lists.specs.Folds.{sum, joined, Every}
use Rattle.lists.specs.Parts.{grid, written}
use Rattle.lists.proofs.TestLaws.{all_of, go}
use Rattle.lists.proofs.FoldLaws.{sum_zeros, every_map}
use Rattle.lists.proofs.TableLaws.{length-table, length-zeros, get_or-table, get_or-zeros}
use Rattle.lists.proofs.PartLaws.{Inside, Outside, Shape, Stands, grid-shape, length-written, written_out, written-reads, rising-past}
use Rattle.rule.specs.Day.{Given, baskets, mark, terms_of, given_of, opened, marks_of, code_size, term_size}
use Rattle.rule.specs.Layout.{issues_at, participants_at, codes_at, positions_at, notices_at, today_at, tally_at, book_length, signed, signed_rows, given_tables, tables_of, stored, mark_square, most_issues, most_participants}
use Rattle.rule.specs.Sound.{sizes_fit, at_most, pairs_fit, position_limit, notice_limit, tally_limit}
use Rattle.rule.proofs.SoundLaws.{Most, of-most, Sizes, sizes-of, SoundGiven, SoundDay}
use Rattle.rule.proofs.LayoutLaws.{of-given-tables, tables-of, Shaped, Signed, Signs, Holds, signed-cell, given_inside, given-rise, reads-given, outside-sizes, stored_is}

-- what an accepted opening has shown of its data
pub record Openable (n m : ℕ) (codes terms receipts pairs : List ℕ) : Type 0 where
  pub sizes : sizes_fit n m ≡ true
  pub codes_size : length codes ≡ code_size * m
  pub terms_size : length terms ≡ term_size * m
  pub receipts_size : length receipts ≡ n * m
  pub pairs_size : length pairs ≡ 7 * (n * n)
  pub given : SoundGiven (given_of n m codes terms receipts pairs)

-- ---- tables of zeros

pub zero-shape : (n m : ℕ) → Shape (zero_rows n m) n m
zero-shape n m = record {
  rows = length-table n (λ p. zeros m);
  cells = λ p l. rw (get_or-table n (λ p. zeros m) p [] l) (length-table m (λ i. 0));
}

pub zero-cell : (n m p i : ℕ) → p < n → cell (zero_rows n m) p i ≡ 0
zero-cell n m p i l = rw (get_or-table n (λ p. zeros m) p [] l) (get_or-zeros m i)

zero-signs : (n m p i : ℕ) → p < n → Signs (cell (zero_rows n m) p i) (cell (zero_rows n m) p i)
zero-signs n m p i l = rw (zero-cell n m p i l) (record { one = omega arith; out = omega arith; back = omega arith })

zero-most : (bound n m : ℕ) → Most bound n m (zero_rows n m)
zero-most bound n m p i l k = omega (arith, zero-cell n m p i l)

zero-sum : (n m p : ℕ) → p < n → sum (row (zero_rows n m) p) ≡ 0
zero-sum n m p l = rw (get_or-table n (λ p. zeros m) p [] l) (sum_zeros (zeros m) (λ i k. get_or-zeros m i))

zero-marks : (n : ℕ) → pairs_fit n (table baskets (λ k. zero_rows n n)) ≡ true
unfolding pairs_fit
zero-marks n =
    let t : List (List (List ℕ)) = table 7 (λ k. zero_rows n n) in
    let r : (k : ℕ) → k < 7 → row t k ≡ zero_rows n n = λ k l. get_or-table 7 (λ k. zero_rows n n) k [] l in
    go _ _ (all_of (λ k. at_most 1 n n (row t k)) 7 (λ k l. rw (r k l) (of-most 1 n n (zero_rows n n) (zero-most 1 n n))))
    (all_of (λ k. all_below n (λ p. eqb (mark t k p p) 0)) 7 (λ k l. all_of (λ p. eqb (mark t k p p) 0) n (λ p q.
    eq-eqb (mark t k p p) 0 (ap (λ (rows : List (List ℕ)). cell rows p p) (r k l) ∙ zero-cell n n p p q))))

module _ (n m : ℕ) (codes terms receipts pairs : List ℕ) (h : Openable n m codes terms receipts pairs) where
  abbrev g : Given
  g = given_of n m codes terms receipts pairs

  sizes : Sizes n m
  sizes = sizes-of n m h.sizes

  zero-cube : (k : ℕ) → k < 7 → Shape (row (table baskets (λ k. zero_rows n n)) k) n n
  zero-cube k l = rw (get_or-table 7 (λ k. zero_rows n n) k [] l) (zero-shape n n)

  pub opened-shaped : Shaped (opened g)
  unfolding opened given_of
  opened-shaped = record {
    given = record {
      few = sizes.few;
      most = sizes.most;
      codes = grid-shape codes 0 code_size m code_size (omega arith) (omega (arith, h.codes_size));
      terms = length-map (grid terms 0 term_size m term_size) terms_of ∙ length-table m _;
      marks = length-map (grid terms 0 term_size m term_size) marks_of ∙ length-table m _;
      receipts = grid-shape receipts 0 m n m (le_refl m) (omega (arith, h.receipts_size, mul_comm n m));
      pairs = λ k l. subst (λ (rows : List (List ℕ)). Shape rows n n) (sym (get_or-table 7 (λ k. grid pairs (n * n * k) n n n) k [] l))
          (grid-shape pairs (n * n * k) n n n (le_refl n) (omega (arith, h.pairs_size, mul-le-mul_left (n * n) l, mul-suc (n * n) k, mul_comm (n * n) 7)));
      pair_baskets = length-table 7 (λ k. grid pairs (n * n * k) n n n);
    };
    owed = zero-shape 7 n;
    due = zero-shape 7 n;
    notices = zero-shape n m;
    today = zero-cube;
    today_baskets = length-table 7 (λ k. zero_rows n n);
    delivered = zero-shape n m;
    received = zero-shape n m;
  }

  pub opened-signed : Signed (opened g) opened-shaped
  unfolding opened given_of
  opened-signed = record { positions = λ k p l q. zero-signs 7 n k p l; tally = λ p i l q. zero-signs n m p i l }

  pub opened-sound : SoundDay (opened g)
  unfolding opened given_of
  opened-sound = record {
    limits = record { runs = omega arith; notices = zero-most notice_limit n m; trades = omega arith };
    given = h.given;
    positions = record {
      owed = zero-most position_limit baskets n;
      due = zero-most position_limit baskets n;
      even = λ k l. zero-sum baskets n k l ∙ sym (zero-sum baskets n k l);
      tradable = λ k l. inl (omega (arith, zero-sum baskets n k l));
    };
    tallies = record { delivered = zero-most (tally_limit * 0) n m; received = zero-most (tally_limit * 0) n m };
    today = zero-marks n;
    done = λ e. absurd (omega arith);
  }

  -- ---- in the book: zeros, the two sizes, and the tables that opening brings

  abbrev blank : List ℕ
  blank = zeros book_length

  abbrev sized : List ℕ
  sized = set (set blank 0 n) 1 m

  abbrev after : List ℕ
  after = written sized (joined (given_tables g))

  length-blank : length blank ≡ book_length
  length-blank = length-zeros book_length

  length-sized : length sized ≡ book_length
  length-sized = length-set (set blank 0 n) 1 m ∙ length-set blank 0 n ∙ length-blank

  sized-else : (j : ℕ) → 1 < j → get_or sized j 0 ≡ 0
  sized-else j l = get_or-set_other (set blank 0 n) 1 j m 0 (λ e. omega arith) ∙ get_or-set_other blank 0 j n 0 (λ e. omega arith) ∙ get_or-zeros book_length j

  sized-participants : get_or sized participants_at 0 ≡ n
  sized-participants = get_or-set_other (set blank 0 n) 1 0 m 0 (λ e. omega arith) ∙ get_or-set_same blank 0 n 0 (omega (arith, length-blank))

  sized-issues : get_or sized issues_at 0 ≡ m
  sized-issues = get_or-set_same (set blank 0 n) 1 m 0 (omega (arith, length-set blank 0 n, length-blank))

  inside : Every (Inside (length sized)) (joined (given_tables g))
  unfolding opened
  inside = given_inside (opened g) opened-shaped (length sized) (omega (arith, length-sized))

  -- no cell before the tables, and none after them, is theirs
  before-tables : (j : ℕ) → j < 4 → get_or after j 0 ≡ get_or sized j 0
  unfolding opened
  before-tables j l =
      written_out (joined (given_tables g)) sized j inside
      (every_map (λ w. codes_at ≤ w.0) (Outside j) (λ w k. inl (omega arith)) (joined (given_tables g)) (rising-past codes_at (joined (given_tables g)) (given-rise (opened g) opened-shaped)))

  after-tables : (j : ℕ) → positions_at ≤ j → get_or after j 0 ≡ 0
  unfolding opened
  after-tables j l =
      written_out (joined (given_tables g)) sized j inside
      (every_map (Inside positions_at) (Outside j) (λ w k. inr (omega arith)) (joined (given_tables g)) (given_inside (opened g) opened-shaped positions_at (le_refl _)))
      ∙ sized-else j (omega arith)

  zero-table : (at stride n m : ℕ) → positions_at ≤ at → Stands after at stride n m (zero_rows n m)
  zero-table at stride n m l p i k q = after-tables (at + stride * p + i) (omega arith) ∙ sym (zero-cell n m p i k)

  signed-table : (at stride n m : ℕ) → positions_at ≤ at → Stands after at stride n m (signed_rows (zero_rows n m) (zero_rows n m))
  signed-table at stride n m l p i k q =
      after-tables (at + stride * p + i) (omega arith)
      ∙ sym (signed-cell (zero_rows n m) (zero_rows n m) n m p i (zero-shape n m) k q ∙ ap₂ signed (zero-cell n m p i k) (zero-cell n m p i k))

  after_holds : Holds after (opened g)
  unfolding opened given_of
  after_holds = record {
    participants = before-tables 0 (omega arith) ∙ sized-participants;
    issues = before-tables 1 (omega arith) ∙ sized-issues;
    runs = before-tables 2 (omega arith) ∙ sized-else 2 (omega arith);
    trades = before-tables 3 (omega arith) ∙ sized-else 3 (omega arith);
    given = reads-given (opened g) opened-shaped after (written-reads (joined (given_tables g)) sized codes_at inside (given-rise (opened g) opened-shaped));
    positions = signed-table positions_at most_participants 7 n (omega arith);
    notices = zero-table notices_at most_issues n m (omega arith);
    today = λ k l. rw (get_or-table 7 (λ k. zero_rows n n) k [] l) (zero-table (mark_square today_at k) most_participants n n (omega arith));
    tally = signed-table tally_at most_issues n m (omega arith);
  }

  frame : (j : ℕ) → Every (Outside j) (joined (tables_of (opened g))) → get_or after j 0 ≡ get_or blank j 0
  unfolding opened
  frame j q =
      written_out (joined (given_tables g)) sized j inside (of-given-tables (Outside j) g (tables-of (Outside j) (opened g) q).given)
      ∙ sized-else j (omega (arith, outside-sizes (opened g) opened-shaped blank (length-blank) j q))
      ∙ sym (get_or-zeros book_length j)

  -- "Opening sets all but its own data to 0, places beyond the day's sizes too"
  pub open-stored : stored (zeros book_length) (opened g) ≡ after
  open-stored =
      stored_is (opened g) opened-shaped blank (length-blank) after (length-written (joined (given_tables g)) sized inside ∙ length-sized) after_holds frame
