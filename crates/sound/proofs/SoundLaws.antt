-- Soundness as tests on cells: signed cells, baskets, and the whole. Assumes nothing.
use Rattle.std.proofs.Common.{◌≡◌, ℕ, zero, suc, ◌+◌, ◌-◌, ◌*◌, ◌%◌, ◌<◌, ◌≤◌, Bool, true, false, not, ◌&&◌, ◌||◌, eqb, leb, List, [], ◌∷◌, map, length, get_or, take, sym, refl, ap, ap₂, ◌∙◌, add-one, arith, take_all, take-suc, le-ltb, lt-ltb, le-leb, leb-true}
use native.Mathlib.Decide.{dec_le, dec_lt}
use mathlib.Core.Bool.{and_assoc}
use lib.ListN.{length-map, get_or-map}
use borrow.Author.Tests.{lt-leb}
use Rattle.std.specs.Bool.{MatchBool}
use Rattle.std.specs.List.{AllWithin, HoldsAt}
use Rattle.lists.specs.Tests.{all_below}
use Rattle.lists.specs.Tables.{from}
use Rattle.lists.specs.Folds.{total, keep}
use Rattle.lists.specs.Parts.{block}
use Rattle.lists.proofs.TestLaws.{both_ways, pick-cases, all_none, all_more, all-stop, all-through, and_left, and_right, row-stop}
use Rattle.lists.proofs.FoldLaws.{total-append}
use Rattle.rule.specs.Value.{Terms, no_terms}
use Rattle.rule.specs.Baskets.{within}
use Rattle.rule.specs.Allocable.{Marks, no_marks, unmarked}
use Rattle.rule.specs.Filling.{eligible}
use Rattle.rule.specs.Day.{terms_of, marks_of}
use Rattle.rule.specs.Sound.{position_limit, tradable}
use Rattle.rule.specs.Layout.{plus, minus}
use Rattle.ranges.specs.Ranges.{all_pass, row_passes}
use Rattle.ranges.proofs.RangeLaws.{part-passes}
use Rattle.layout.specs.InBook.{book_terms, book_marks}
use Rattle.sound.specs.Sized.{is_within, basket_fits}

-- ---- a signed cell

-- a cell moved up by the limit
pub within-is : {r : ℕ} (cell limit : ℕ) → cell < 18446744073709551616 → limit ≤ position_limit → r ≡ (cell + limit) % 18446744073709551616
    → leb r (2 * limit) ≡ is_within limit cell
within-is {r} cell limit f l e = go (dec_lt cell 9223372036854775808)
  where
    positive : cell < 9223372036854775808 → Dec (cell ≤ limit) → leb r (2 * limit) ≡ is_within limit cell
    positive h (yes k) = rw (lt-ltb cell 9223372036854775808 h, le-leb r (2 * limit) (omega arith), le-leb cell limit k, le-leb 0 limit (omega arith))
    positive h (no k) = rw (lt-ltb cell 9223372036854775808 h, lt-leb r (2 * limit) (omega arith), lt-leb cell limit (omega arith))

    negative : 9223372036854775808 ≤ cell → Dec (18446744073709551616 - cell ≤ limit) → leb r (2 * limit) ≡ is_within limit cell
    negative h (yes k) =
        rw (le-ltb cell 9223372036854775808 h, le-leb r (2 * limit) (omega arith), le-leb 0 limit (omega arith), le-leb (18446744073709551616 - cell) limit k)
    negative h (no k) =
        rw (le-ltb cell 9223372036854775808 h, lt-leb r (2 * limit) (omega arith), le-leb 0 limit (omega arith), lt-leb (18446744073709551616 - cell) limit (omega arith))

    go : Dec (cell < 9223372036854775808) → leb r (2 * limit) ≡ is_within limit cell
    go (yes h) = positive h (dec_le cell limit)
    go (no h) = negative (omega arith) (dec_le (18446744073709551616 - cell) limit)

-- ---- an unmarked issue

is-not : {t : Bool} → t ≡ false → not t ≡ true
is-not e = rw e

module _ (f : ℕ → Bool) where
  kept-some : (k n i : ℕ) → k ≤ i → i < k + n → f i ≡ true → 0 < length (keep f (from k n))
  kept-some k zero i h l e = absurd (omega arith)
  kept-some k (suc n) i h l e = pick-cases (λ (r : List ℕ). 0 < length r) (f k) (k ∷ keep f (from (suc k) n)) (keep f (from (suc k) n))
      (λ p. omega arith)
      (λ p. kept-some (suc k) n i (past p (dec_le (suc k) i)) (omega arith) e)
    where
      past : f k ≡ false → Dec (suc k ≤ i) → suc k ≤ i
      past p (yes q) = q
      past p (no q) = let d : i ≡ k = omega arith in both_ways (f k) (ap f (sym d) ∙ e) p

  kept-none : (k n : ℕ) → ((i : ℕ) → i < k + n → f i ≡ false) → keep f (from k n) ≡ []
  kept-none k zero h = refl
  kept-none k (suc n) h = rw (h k (omega arith)) (kept-none (suc k) n (λ i l. h i (omega arith)))

abbrev pub is_eligible : ℕ → List ℕ → Bool
is_eligible k issue = within k (terms_of issue) && unmarked (marks_of issue)

-- the day's issues, of which any is eligible or none
module _ (rows : List (List ℕ)) (k : ℕ) where
  abbrev ts : List Terms
  ts = map terms_of rows

  abbrev ms : List Marks
  ms = map marks_of rows

  abbrev there : ℕ → Bool
  there i = within k (get_or ts i no_terms) && unmarked (get_or ms i no_marks)

  there-is : (i : ℕ) → there i ≡ is_eligible k (get_or rows i [])
  there-is i = ap₂ (λ (t : Terms) (m : Marks). within k t && unmarked m) (get_or-map terms_of rows i []) (get_or-map marks_of rows i [])

  count : length ts ≡ length rows
  count = length-map rows terms_of

  tradable-some : (i : ℕ) → i < length rows → is_eligible k (get_or rows i []) ≡ true → true ≡ tradable k ts ms
  unfolding tradable eligible
  tradable-some i l e = sym (lt-ltb 0 _ (kept-some there 0 (length ts) i (omega arith) (omega (arith, count)) (there-is i ∙ e)))

  tradable-none : ((i : ℕ) → i < length rows → is_eligible k (get_or rows i []) ≡ false) → false ≡ tradable k ts ms
  unfolding tradable eligible
  tradable-none h = rw (kept-none there 0 (length ts) (λ i l. there-is i ∙ h i (omega (arith, count))))

  pub tradable-said : (r : Bool)
      → MatchBool r ((i : ℕ) × (i < length rows) × HoldsAt (λ x. is_eligible k x ≡ true) rows i) (AllWithin (λ x. is_eligible k x ≡ false) rows 0 (length rows))
      → r ≡ tradable k ts ms
  tradable-said true (i, l, h) = tradable-some i l (h [])
  tradable-said false h = tradable-none (λ i l. h i [] (omega arith) l)

-- ---- a basket's positions

-- one cell more
total-more : (f : ℕ → ℕ) (xs : List ℕ) (p : ℕ) → p < length xs → total f (take (p + 1) xs) ≡ total f (take p xs) + f (get_or xs p 0)
total-more f xs p l = rw (add-one p, take-suc xs p 0 l, total-append f (take p xs) (get_or xs p 0 ∷ [])) (omega arith)

-- the loop over a basket's positions: those below p are within the limit, and these are their sums
pub record Summed (limit : ℕ) (xs : List ℕ) (owed due p : ℕ) : Type 0 where
  pub here : p ≤ length xs
  pub before : all_below p (λ i. is_within limit (get_or xs i 0)) ≡ true
  pub owed_sum : owed ≡ total plus (take p xs)
  pub due_sum : due ≡ total minus (take p xs)
  pub owed_small : owed ≤ position_limit * p
  pub due_small : due ≤ position_limit * p

pub summed-none : (limit : ℕ) (xs : List ℕ) → Summed limit xs 0 0 0
summed-none limit xs =
    record {
      here = omega arith;
      before = all_none _;
      owed_sum = refl;
      due_sum = refl;
      owed_small = omega arith;
      due_small = omega arith;
    }

sides-small : {x y : ℕ} (limit cell : ℕ) → is_within limit cell ≡ true → x ≡ plus cell → y ≡ minus cell → (x ≤ limit) × (y ≤ limit)
sides-small limit cell h e f =
    (rw e (leb-true (plus cell) limit (and_left _ (leb (minus cell) limit) h)), rw f (leb-true (minus cell) limit (and_right (leb (plus cell) limit) _ h)))

module _ {limit : ℕ} {xs : List ℕ} {owed due p : ℕ} (h : Summed limit xs owed due p) where
  module _ {x y : ℕ} (small : limit ≤ position_limit) (w : is_within limit (get_or xs p 0) ≡ true) (e : x ≡ plus (get_or xs p 0)) (f : y ≡ minus (get_or xs p 0)) where
    pub owed-fits : owed + x ≤ position_limit * (p + 1)
    owed-fits = omega (arith, h.owed_small, sides-small limit (get_or xs p 0) w e f)

    pub due-fits : due + y ≤ position_limit * (p + 1)
    due-fits = omega (arith, h.due_small, sides-small limit (get_or xs p 0) w e f)

    pub summed-more : p < length xs → Summed limit xs (owed + x) (due + y) (p + 1)
    summed-more l =
        record {
          here = omega arith;
          before = all_more (λ i. is_within limit (get_or xs i 0)) p h.before w;
          owed_sum = rw (total-more plus xs p l, h.owed_sum, e);
          due_sum = rw (total-more minus xs p l, h.due_sum, f);
          owed_small = owed-fits;
          due_small = due-fits;
        }

  summed-all : (f : ℕ → ℕ) → length xs ≤ p → total f (take p xs) ≡ total f xs
  summed-all f l = ap (total f) (take_all p xs l)

  summed-within : length xs ≤ p → all_pass (is_within limit) xs ≡ true
  summed-within l = all-through (λ i. is_within limit (get_or xs i 0)) (length xs) p h.here l h.before

  summed-owed : length xs ≤ p → total plus xs ≡ owed
  summed-owed l = sym (h.owed_sum ∙ summed-all plus l)

  summed-due : length xs ≤ p → total minus xs ≡ due
  summed-due l = sym (h.due_sum ∙ summed-all minus l)

-- a basket's positions
module _ (b : List ℕ) (limit n k at : ℕ) (room : at + n ≤ length b) where
  abbrev part : List ℕ
  part = block b at n

  basket_is : (m : ℕ) → m ≡ n
      → basket_fits b limit m k at
      ≡ (all_pass (is_within limit) part && (eqb (total plus part) (total minus part) && (eqb (total plus part + total minus part) 0 || tradable k (book_terms b) (book_marks b))))
  unfolding basket_fits
  basket_is m e =
      rw (e, part-passes (is_within limit) b at n n refl room)
      (and_assoc (row_passes (is_within limit) b at n) (eqb (total plus part) (total minus part)) (eqb (total plus part + total minus part) 0 || tradable k (book_terms b) (book_marks b)))

  module _ {xs : List ℕ} (there : xs ≡ part) (m : ℕ) (e : m ≡ n) where
    pub basket-sums : {owed due p : ℕ} → Summed limit xs owed due p → length xs ≤ p
        → basket_fits b limit m k at ≡ (eqb owed due && (eqb (owed + due) 0 || tradable k (book_terms b) (book_marks b)))
    basket-sums h l =
        basket_is m e
        ∙ ap (λ (x : List ℕ). all_pass (is_within limit) x && (eqb (total plus x) (total minus x) && (eqb (total plus x + total minus x) 0 || tradable k (book_terms b) (book_marks b)))) (sym there)
        ∙ rw (summed-within h l, summed-owed h l, summed-due h l)

    pub basket-stop : (i : ℕ) → i < length xs → is_within limit (get_or xs i 0) ≡ false → false ≡ basket_fits b limit m k at
    basket-stop i l w =
        row-stop _ _ (ap (all_pass (is_within limit)) (sym there) ∙ all-stop (λ i. is_within limit (get_or xs i 0)) (length xs) i l w) ∙ sym (basket_is m e)
