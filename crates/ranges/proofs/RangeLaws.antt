-- The ranges of opening data as tests on cells. Assumes nothing.
use Rattle.std.proofs.Common.{◌≡◌, ℕ, zero, suc, ◌+◌, ◌-◌, ◌*◌, ◌/◌, ◌<◌, ◌≤◌, Bool, ◌&&◌, eqb, leb, List, [], ◌++◌, length, get_or, get_or-take, take, drop, drop-drop, sym, ap, ◌∙◌, ap₂, mul-le-mul_left, mul-zero, mul-suc, add-zero, arith, length-take, length-drop, length-append}
use native.Mathlib.Decide.{dec_lt}
use lib.Bits.{bit_or}
use lib.ListN.{get_or-map}
use Rattle.lists.specs.Tests.{all_below}
use Rattle.lists.specs.Tables.{table, row, cell}
use Rattle.lists.specs.Parts.{block, grid}
use Rattle.lists.proofs.TestLaws.{all-ext}
use Rattle.lists.proofs.TableLaws.{get_or-table}
use Rattle.std.proofs.Math.Nat.{mul-div_cancel_left}
use Rattle.std.proofs.lemmas.List.{length-take-le}
use Rattle.lists.proofs.PartLaws.{part-is, part_length, length-block, table-agree, block-get, grid-get}
use Rattle.rule.specs.Allocable.{Marks}
use Rattle.rule.specs.Value.{Terms}
use Rattle.rule.specs.Day.{terms_of, marks_of}
use Rattle.rule.specs.Sound.{terms_fit, all_terms_fit, at_most, pairs_fit, marks_fit}
use Rattle.ranges.specs.Ranges.{SquareFitsAsks, issue_fits, terms_in_range, all_pass, row_passes, square_fits}
use Rattle.ranges.proofs.ScanLaws.{all-and, all_split, all-overlap, bits_below}
use Rattle.lists.proofs.CutLaws.{cut, cut-count, cut-get, cut-room, part-first, part-rest, block-within}

-- ---- a row

row-split : (test : ℕ → Bool) (b : List ℕ) (at i n : ℕ) → row_passes test b at (i + n) ≡ (row_passes test b at i && row_passes test b (at + i) n)
row-split test b at i n =
    all_split (λ k. test (get_or b (at + k) 0)) i n
    ∙ ap (λ (r : Bool). row_passes test b at i && r) (all-ext _ _ n (λ k l. ap (λ (j : ℕ). test (get_or b j 0)) (omega arith)))

-- two parts that may overlap
row-overlap : (test : ℕ → Bool) (b : List ℕ) (a o n : ℕ) → o ≤ a → a ≤ o + n → (row_passes test b 0 a && row_passes test b o n) ≡ row_passes test b 0 (o + n)
row-overlap test b a o n h l =
    ap (λ (r : Bool). row_passes test b 0 a && r) (all-ext _ _ n (λ k p. ap (λ (j : ℕ). test (get_or b j 0)) (omega arith)))
    ∙ all-overlap (λ k. test (get_or b (0 + k) 0)) a o n h l

-- a part of the cells, as a slice of their own
module _ (test : ℕ → Bool) (b : List ℕ) (at : ℕ) where
  pub part-passes : (n m : ℕ) → n ≡ m → at + m ≤ length b → all_pass test (take n (drop at b)) ≡ row_passes test b at m
  part-passes n m e l =
      let k : length (take n (drop at b)) ≡ m = simp (length-take, length-drop) (omega arith) in
      rw k (all-ext _ _ m (λ i j. ap test (block-get b at n i (omega arith))))

whole-passes : (test : ℕ → Bool) (b : List ℕ) → all_pass test b ≡ row_passes test b 0 (length b)
whole-passes test b = all-ext _ _ (length b) (λ i l. let e : i ≡ 0 + i = omega arith in ap (λ (j : ℕ). test (get_or b j 0)) e)

-- the bits of a row's marks, from those of its parts
abbrev low : ℕ → Bool
low x = leb x 1

pub four_is : (b : List ℕ) (at : ℕ)
    → leb (bit_or (bit_or (bit_or (get_or b at 0) (get_or b (at + 1) 0)) (get_or b (at + 2) 0)) (get_or b (at + 3) 0)) 1 ≡ row_passes low b at 4
unfolding all_below
four_is b at =
    let x = get_or b at 0 in
    let y = get_or b (at + 1) 0 in
    let z = get_or b (at + 2) 0 in
    rw (bits_below (bit_or (bit_or x y) z) (get_or b (at + 3) 0) 1, bits_below (bit_or x y) z 1, bits_below x y 1, add-zero)

module _ (b : List ℕ) (first last : ℕ) (f : leb first 1 ≡ row_passes low b 0 4) (l : leb last 1 ≡ row_passes low b (length b - 4) 4) where
  pub ends-are : 4 ≤ length b → length b ≤ 8 → leb (bit_or first last) 1 ≡ all_pass low b
  ends-are h k =
      let e : (length b - 4) + 4 ≡ length b = omega arith in
      bits_below first last 1 ∙ ap₂ ◌&&◌ f l ∙ row-overlap low b 4 (length b - 4) 4 (omega arith) (omega arith)
      ∙ ap (λ (n : ℕ). row_passes low b 0 n) e ∙ sym (whole-passes low b)

  pub three-are : (middle : ℕ) → leb middle 1 ≡ row_passes low b 4 4 → 8 ≤ length b → length b ≤ 12 → leb (bit_or (bit_or first middle) last) 1 ≡ all_pass low b
  three-are middle g h k =
      let e : (length b - 4) + 4 ≡ length b = omega arith in
      let eight = bits_below first middle 1 ∙ ap₂ ◌&&◌ f g ∙ sym (row-split low b 0 4 4) in
      bits_below (bit_or first middle) last 1 ∙ ap₂ ◌&&◌ eight l
      ∙ row-overlap low b 8 (length b - 4) 4 (omega arith) (omega arith) ∙ ap (λ (n : ℕ). row_passes low b 0 n) e ∙ sym (whole-passes low b)

-- ---- rows

module _ (b : List ℕ) (at stride n m : ℕ) where
  pub rows_are : (bound : ℕ) → at_most bound n m (grid b at stride n m) ≡ all_below n (λ p. row_passes (λ c. leb c bound) b (at + stride * p) m)
  unfolding at_most
  rows_are bound =
      all-ext _ _ n (λ p k. all-ext _ _ m (λ i l. ap (λ (x : ℕ). leb x bound) (grid-get b at stride n m p i k l)))

-- each row a slice of its own
pub rows-lent : (b : List ℕ) (apart n m bound : ℕ) → m ≤ apart → apart * n ≤ length b
    → all_below n (λ p. all_pass (λ c. leb c bound) (take (apart * p + m - apart * p) (drop (apart * p) b))) ≡ at_most bound n m (grid b 0 apart n m)
rows-lent b apart n m bound wide room =
    all-ext _ _ n (λ p l. let z : apart * p ≡ 0 + apart * p = omega arith in
    part-passes (λ c. leb c bound) b (apart * p) (apart * p + m - apart * p) m (omega arith) (omega (arith, mul-le-mul_left apart l, mul-suc apart p, wide, room))
    ∙ ap (λ (j : ℕ). row_passes (λ c. leb c bound) b j m) z)
    ∙ sym (rows_are b 0 apart n m bound)

-- rows that stand one after the other are one row
rows-joined : (test : ℕ → Bool) (b : List ℕ) (at m n : ℕ) → all_below n (λ p. row_passes test b (at + m * p) m) ≡ row_passes test b at (m * n)
unfolding all_below
rows-joined test b at m zero = rw mul-zero
rows-joined test b at m (suc n) =
    rw (mul-suc m n) (ap (λ (r : Bool). r && row_passes test b (at + m * n) m) (rows-joined test b at m n) ∙ sym (row-split test b at (m * n) m))

pub square-joined : (b : List ℕ) (stride n bound : ℕ) → n ≡ stride → length b ≡ stride * n → all_pass (λ c. leb c bound) b ≡ at_most bound n n (grid b 0 stride n n)
square-joined b stride n bound e size =
    whole-passes (λ c. leb c bound) b ∙ ap (row_passes (λ c. leb c bound) b 0) size
    ∙ sym (rows_are b 0 stride n n bound
    ∙ ap (λ (m : ℕ). all_below n (λ p. row_passes (λ c. leb c bound) b (0 + stride * p) m)) e
    ∙ rows-joined (λ c. leb c bound) b 0 stride n)

-- ---- terms

pub terms-are : (rows : List (List ℕ)) → all_below (length rows) (λ i. issue_fits (get_or rows i [])) ≡ terms_in_range (length rows) rows
unfolding all_terms_fit
terms-are rows =
    all-ext _ _ (length rows) (λ i l.
    ap₂ (λ (t : Terms) (m : Marks). terms_fit t && marks_fit m) (sym (get_or-map terms_of rows i [])) (sym (get_or-map marks_of rows i [])))

-- ---- rows of a slice, cut

module _ (stride m : ℕ) (some : 0 < stride) (wide : m ≤ stride) where
  -- the front of a row
  pub front-passes : (test : ℕ → Bool) (b : List ℕ) (p : ℕ) → stride * p + stride ≤ length b → all_pass test (take m (block b (stride * p) stride)) ≡ row_passes test b (stride * p) m
  front-passes test b p l =
      let e : length (take m (block b (stride * p) stride)) ≡ m = length-take-le m (block b (stride * p) stride) (omega (arith, length-block b (stride * p) stride l)) in
      ap (λ (n : ℕ). all_below n (λ i. test (get_or (take m (block b (stride * p) stride)) i 0))) e
      ∙ all-ext _ _ m (λ i k. ap test (get_or-take m (block b (stride * p) stride) i 0 k ∙ block-get b (stride * p) stride i (omega arith)))

  -- the rows' fronts pass a test
  pub cut-passes : (test : ℕ → Bool) (b : List ℕ)
      → all_below (length (cut stride b)) (λ p. all_pass test (take m (get_or (cut stride b) p []))) ≡ all_below (length b / stride) (λ p. row_passes test b (stride * p) m)
  cut-passes test b =
      ap (λ (n : ℕ). all_below n (λ p. all_pass test (take m (get_or (cut stride b) p [])))) (cut-count stride b)
      ∙ all-ext _ _ (length b / stride) (λ p l. ap (λ (x : List ℕ). all_pass test (take m x)) (cut-get stride b p l) ∙ front-passes test b p (cut-room stride b p l))

  -- the same of n rows from a place on, lent as a slice of their own
  pub part-cut : (test : ℕ → Bool) (b : List ℕ) (at n : ℕ) (part : List ℕ) → at + stride * n ≤ length b → part ≡ block b at (stride * n)
      → all_below (length (cut stride part)) (λ p. all_pass test (take m (get_or (cut stride part) p []))) ≡ all_below n (λ p. row_passes test b (at + stride * p) m)
  part-cut test b at n part h e =
      let same : part ≡ block b at (stride * n) = e in
      let k : length part / stride ≡ n = ap (λ (l : ℕ). l / stride) (ap length e ∙ length-block b at (stride * n) h) ∙ mul-div_cancel_left n some in
      cut-passes test part ∙ ap₂ (λ (j : ℕ) (x : List ℕ). all_below j (λ p. row_passes test x (stride * p) m)) k same
      ∙ all-ext _ _ n (λ p l. all-ext _ _ m (λ i j. let z : at + (stride * p + i) ≡ at + stride * p + i = omega arith in
      ap test (block-get b at (stride * n) (stride * p + i) (omega (arith, mul-le-mul_left stride l, mul-suc stride p, wide)) ∙ ap (λ (o : ℕ). get_or b o 0) z)))

-- ---- n rows gone through one after the other

-- a stride above the cells that count is above 0
pub stride-some : (n stride : ℕ) → n ≤ stride → (n ≡ stride → ⊥) → 0 < stride
stride-some n stride wide other = go (dec_lt 0 stride)
  where
    go : Dec (0 < stride) → 0 < stride
    go (yes k) = k
    go (no k) = absurd (other (omega arith))

-- of those below p, and what is left
pub record Left (b : List ℕ) (s n : ℕ) (rest : List ℕ) (p : ℕ) : Type 0 where
  pub here : p ≤ n
  pub left : rest ≡ drop (s * p) b

pub left-all : (b : List ℕ) (s n : ℕ) (rest : List ℕ) → rest ≡ b → Left b s n rest 0
left-all b s n rest e = record { here = omega arith; left = rw mul-zero e }

module _ (b : List ℕ) (s n : ℕ) (some : 0 < s) (size : length b ≡ s * n) (rest : List ℕ) (p : ℕ) (w : Left b s n rest p) where
  left-long : length rest ≡ s * n - s * p
  left-long = ap length w.left ∙ length-drop (s * p) b ∙ ap (λ (k : ℕ). k - s * p) size

  module _ (x ys : List ℕ) (e : rest ≡ x ++ ys) (l : length x ≡ s) where
    pub row-left : p < n
    row-left = go (dec_lt p n)
      where
        go : Dec (p < n) → p < n
        go (yes k) = k
        go (no k) = let z : p ≡ n = omega (arith, w.here) in absurd (omega (arith, ap (λ (j : ℕ). s * j) z, left-long, ap length e, length-append x ys, l, some))

    pub row-is : x ≡ block b (s * p) s
    row-is = part-first s rest x ys e l ∙ ap (take s) w.left

    pub row-room : s * p + s ≤ length b
    row-room = omega (arith, mul-le-mul_left s row-left, mul-suc s p, size)

    pub left-more : Left b s n ys (p + 1)
    left-more = record {
      here = omega (arith, row-left);
      left = let z : s * p + s ≡ s * (p + 1) = omega arith in part-rest s rest x ys e l ∙ ap (drop s) w.left ∙ drop-drop s (s * p) b ∙ ap (λ (k : ℕ). drop k b) z;
    }

  pub none-left : length rest < s → n ≤ p
  none-left l = go (dec_lt p n)
    where
      go : Dec (p < n) → n ≤ p
      go (yes k) = absurd (omega (arith, mul-le-mul_left s k, mul-suc s p, left-long, l))
      go (no k) = omega arith

-- ---- pair marks

marks-are : (b : List ℕ) (apart stride n : ℕ) → pairs_fit n (table 7 (λ k. grid b (apart * k) stride n n)) ≡ all_below 7 (λ k. square_fits b (apart * k) stride n)
unfolding pairs_fit
marks-are b apart stride n =
    sym (all-and (λ k. at_most 1 n n (row t k)) (λ k. all_below n (λ p. eqb (cell (row t k) p p) 0)) 7)
    ∙ all-ext _ _ 7 (λ k l. ap (λ (r : List (List ℕ)). at_most 1 n n r && all_below n (λ p. eqb (cell r p p) 0)) (get_or-table 7 f k [] l)
    ∙ ap (λ (r : Bool). at_most 1 n n (f k) && r) (all-ext _ _ n (λ p j. ap (λ (x : ℕ). eqb x 0) (grid-get b (apart * k) stride n n p p j j))))
  where
    f : ℕ → List (List ℕ)
    f k = grid b (apart * k) stride n n

    t : List (List (List ℕ))
    t = table 7 f

-- a square at the front of w cells from a place on
pub square-there : (b : List ℕ) (o w stride n : ℕ) → n ≤ stride → stride * n ≤ w → square_fits (block b o w) 0 stride n ≡ square_fits b o stride n
square-there b o w stride n h k =
    ap₂ (λ (t : List (List ℕ)) (d : Bool). at_most 1 n n t && d)
    (table-agree n _ _ (λ p l. let e : o + (0 + stride * p) ≡ o + stride * p = omega arith in
    block-within b o w (0 + stride * p) n (omega (arith, mul-le-mul_left stride l, h, k)) ∙ ap (λ (j : ℕ). block b j n) e))
    (all-ext _ _ n (λ p l. let e : o + (0 + stride * p + p) ≡ o + stride * p + p = omega arith in
    ap (λ (x : ℕ). eqb x 0) (block-get b o w (0 + stride * p + p) (omega (arith, mul-le-mul_left stride l, h, k)) ∙ ap (λ (j : ℕ). get_or b j 0) e)))

-- the seven baskets' squares, so many cells apart
pub within-seven : (apart k : ℕ) → k < 7 → apart * k + apart ≤ 7 * apart
within-seven apart k l = omega (arith, mul-le-mul_left apart l)

pub square-lent : (b : List ℕ) (apart stride n k : ℕ) → n ≤ stride → stride * n ≤ apart → apart * 7 ≤ length b → k < 7
    → SquareFitsAsks (take (apart * k + apart - apart * k) (drop (apart * k) b)) stride n
square-lent b apart stride n k wide fit room l = record { wide = wide; room = omega (arith, fit, part_length b (apart * k) apart (omega (arith, within-seven apart k l, room))) }

-- each a slice of its own
pub marks-lent : (b : List ℕ) (apart stride n : ℕ) → n ≤ stride → stride * n ≤ apart
    → all_below 7 (λ k. square_fits (take (apart * k + apart - apart * k) (drop (apart * k) b)) 0 stride n) ≡ pairs_fit n (table 7 (λ k. grid b (apart * k) stride n n))
marks-lent b apart stride n wide fit =
    all-ext _ _ 7 (λ k l. ap (λ (x : List ℕ). square_fits x 0 stride n) (part-is b (apart * k) apart) ∙ square-there b (apart * k) apart stride n wide fit)
    ∙ sym (marks-are b apart stride n)

-- marks of a part, as a slice of its own
pub marks-there : (b : List ℕ) (at apart stride n : ℕ) (part : List ℕ) → n ≤ stride → stride * n ≤ apart → part ≡ block b at (apart * 7)
    → table 7 (λ k. grid part (apart * k) stride n n) ≡ table 7 (λ k. grid b (at + apart * k) stride n n)
marks-there b at apart stride n part h fit e =
    ap (λ (x : List ℕ). table 7 (λ k. grid x (apart * k) stride n n)) e
    ∙ table-agree 7 _ _ (λ k l. table-agree n _ _ (λ p j. let z : at + (apart * k + stride * p) ≡ at + apart * k + stride * p = omega arith in
    block-within b at (apart * 7) (apart * k + stride * p) n
    (omega (arith, within-seven apart k l, mul-le-mul_left stride j, mul-suc stride p, fit, h))
    ∙ ap (λ (o : ℕ). block b o n) z))
