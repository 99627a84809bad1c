-- Laws of the code rule. Assumes nothing.
use mathlib.Core.Path.{◌≡◌, refl, sym, ◌∙◌, ap, ap₂}
use mathlib.Core.Bool.{Bool, true, false, ◌&&◌, ◌||◌, and-true, and-false}
use mathlib.Core.List.{List, [], ◌∷◌, ◌++◌, reverse, reverse-append}
use Prim.Native.Nat.{ℕ, zero, suc, ◌≤◌, ◌<◌, ◌+◌, ◌-◌, ◌*◌, ◌/◌, ◌%◌, max}
use native.Mathlib.Numerals.{add-one}
use native.Mathlib.Omega.{arith}
use native.Mathlib.Decide.{dec_lt, ℕ_discrete}
use lib.Dec.{leb, ltb, eqb}
use lib.ListN.{length, get_or, take}
use lib.Seq.{take-suc, ext_get_or}
use borrow.Author.Tests.{leb-true, le-leb, lt-leb, lt-ltb, eq-eqb, ne_eqb}
use Rattle.std.proofs.lemmas.Bool.Decides.{nat_tests}
use Rattle.std.proofs.lemmas.Cmp.{same_from_slice_cmp}
use Rattle.std.specs.Bool.{MatchBool}
use Rattle.std.specs.List.{AllWithin, HoldsAt, IsAllAdjacentAnswer}
use Rattle.std.specs.Ordering.{nat_cmp, is_lt}
use Rattle.std.specs.declared.cmp.Ordering.{Ordering}
use Rattle.std.specs.Cmp.Lexicographic.{slice_cmp}
use Rattle.std.specs.Prelude.{Some}
use Rattle.std.specs.declared.ops.RangeInclusive.{RangeInclusive}
use Rattle.std.specs.Range.{range_inclusive_contains, range_inclusive_start, range_inclusive_end, range_inclusive_exhausted}
use Rattle.lists.specs.Tests.{pick, same, all_below}
use Rattle.lists.specs.Parts.{block, grid}
use Rattle.rule.specs.Day.{code_size}
use Rattle.rule.specs.Isin.{digit, capital, spread, doubled, check_digit, is_isin, before, rising, is_code, codes_right}
use Rattle.isin.specs.declared.Sums.{Sums}
use Rattle.isin.specs.Code.{of_japan}
use Rattle.isin.specs.Summing.{Within, sums_of, with_digit, with_capital, with_character}
use Rattle.lists.proofs.TestLaws.{and_left, and_right, and_no, or_right, all-stop, all_of, stop_is, row-stop, row-go}
use Rattle.lists.proofs.TableLaws.{length-table}
use Rattle.lists.proofs.PartLaws.{row_at}
use Rattle.lists.proofs.CutLaws.{cut, cut-count, cut-get}

-- digits and capitals as numbers
module _ (c : ℕ) where
  is-digit : digit c ≡ true → (48 ≤ c) × (c ≤ 57)
  unfolding digit
  is-digit h = (leb-true 48 c (and_left (leb 48 c) (leb c 57) h), leb-true c 57 (and_right (leb 48 c) (leb c 57) h))

  is-capital : capital c ≡ true → (65 ≤ c) × (c ≤ 90)
  unfolding capital
  is-capital h = (leb-true 65 c (and_left (leb 65 c) (leb c 90) h), leb-true c 90 (and_right (leb 65 c) (leb c 90) h))

  no_digit : capital c ≡ true → digit c ≡ false
  unfolding digit
  no_digit h = rw (lt-leb c 57 (omega (arith, is-capital h))) (and-false (leb 48 c))

  -- the check digit and the sum make a multiple of ten
  no_check : (sum : ℕ) → digit c ≡ false → eqb c (48 + (10 - sum % 10) % 10) ≡ false
  unfolding digit
  no_check sum h = grind (arith, nat_tests)

  check : (sum : ℕ) → digit c ≡ true → eqb ((c - 48 + sum) % 10) 0 ≡ eqb c (48 + (10 - sum % 10) % 10)
  check sum h =
      let l : (48 ≤ c) × (c ≤ 57) = is-digit h in
      grind (arith, nat_tests)

  -- what a range of the language tells of a character
  module _ {r : RangeInclusive ℕ} {v : Bool} (unspent : range_inclusive_exhausted r ≡ false) (e : v ≡ range_inclusive_contains (λ x y. Some (nat_cmp x y)) r c) where
    told : {a b : ℕ} {w : Bool} → range_inclusive_start r ≡ a → range_inclusive_end r ≡ b → v ≡ w → (leb a c && leb c b) ≡ w
    told {a} {b} f g h = sym (e ∙ rw (unspent, f, g) (grind (arith, nat_tests))) ∙ h

    pub digit_told : {w : Bool} → range_inclusive_start r ≡ 48 → range_inclusive_end r ≡ 57 → v ≡ w → digit c ≡ w
    unfolding digit
    digit_told = told

    pub capital_told : {w : Bool} → range_inclusive_start r ≡ 65 → range_inclusive_end r ≡ 90 → v ≡ w → capital c ≡ w
    unfolding capital
    capital_told = told

-- a character more after those of a code
spread-more : (cs ys : List ℕ) → spread (cs ++ ys) ≡ spread cs ++ spread ys
unfolding spread
spread-more [] ys = refl
spread-more (c ∷ cs) ys = go (digit c) (c - 48) ((c - 55) / 10) ((c - 55) % 10) (spread-more cs ys)
  where
    go : (b : Bool) (x y z : ℕ) {l : List ℕ} → l ≡ spread cs ++ spread ys → pick b (x ∷ l) (y ∷ z ∷ l) ≡ pick b (x ∷ spread cs) (y ∷ z ∷ spread cs) ++ spread ys
    go true x y z e = rw e
    go false x y z e = rw e

-- both digits of a capital at once
pub at_once : (s : Sums) (c : ℕ) → 65 ≤ c → c ≤ 90
    → record { twice = s.twice + 2 * (c - 55) - (c - 55) / 10 - 9 * ((c - 55) / 5); once = s.once + (c - 55) - 8 * ((c - 55) / 10) } ≡ with_capital s c
unfolding with_capital with_digit
at_once s c h k = ap₂ (λ (x y : ℕ). record { twice = x; once = y }) (omega arith) (omega arith)

sums-character : (ds : List ℕ) (c : ℕ) → with_character (sums_of ds) c ≡ sums_of (reverse (spread (c ∷ [])) ++ ds)
unfolding with_character with_capital with_digit sums_of doubled spread
sums-character ds c = go (digit c) (c - 48) ((c - 55) / 10) ((c - 55) % 10)
  where
    go : (b : Bool) (x y z : ℕ) → pick b (with_digit (sums_of ds) x) (with_digit (with_digit (sums_of ds) y) z) ≡ sums_of (reverse (pick b (x ∷ []) (y ∷ z ∷ [])) ++ ds)
    go true x y z = refl
    go false x y z = refl

-- the sums of the characters below i
abbrev sums_below : ℕ → List ℕ → Sums
sums_below i c = sums_of (reverse (spread (take i c)))

sums_none : (c : List ℕ) → record { twice = 0; once = 0 } ≡ sums_below 0 c
unfolding sums_of doubled spread
sums_none c = refl

sums-more : (c : List ℕ) (i : ℕ) (s r : Sums) → i < length c → s ≡ sums_below i c → r ≡ with_character s (get_or c i 0) → r ≡ sums_below (i + 1) c
sums-more c i s r l e f =
    f ∙ ap (λ (z : Sums). with_character z (get_or c i 0)) e ∙ sums-character (reverse (spread (take i c))) (get_or c i 0)
    ∙ sym (rw (add-one, take-suc c i 0, spread-more, reverse-append))

-- what may stand at place i: a digit from the third on, a capital in each but the last
abbrev allowed : ℕ → ℕ → Bool
allowed i c = (leb 2 i && digit c) || (ltb i 11 && capital c)

-- a code of which the characters below i were read
pub record Read (c : List ℕ) (i : ℕ) (s : Sums) : Type 0 where
  pub twelve : length c ≡ 12
  pub characters : (k : ℕ) → k < i → allowed k (get_or c k 0) ≡ true
  pub sums : s ≡ sums_below i c
  pub small : Within s (18 * i)

pub read_none : (c : List ℕ) → length c ≡ 12 → Read c 0 (record { twice = 0; once = 0 })
read_none c e =
    record {
      twelve = e;
      characters = λ k l. absurd (omega arith);
      sums = sums_none c;
      small = record { twice = omega arith; once = omega arith };
    }

module _ {c : List ℕ} {i : ℕ} {s : Sums} (d : Read c i s) (l : i < length c) where
  read-more : {r : Sums} → allowed i (get_or c i 0) ≡ true → r ≡ with_character s (get_or c i 0) → Within r (max s.twice s.once + 18) → Read c (i + 1) r
  read-more {r} p e w =
      record {
        twelve = d.twelve;
        characters = λ k m. go k m (ℕ_discrete k i);
        sums = sums-more c i s r l d.sums e;
        small = record { twice = omega (arith, w.twice, d.small.twice, d.small.once); once = omega (arith, w.once, d.small.twice, d.small.once) };
      }
    where
      go : (k : ℕ) → k < i + 1 → Dec (k ≡ i) → allowed k (get_or c k 0) ≡ true
      go k m (yes q) = ap (λ (j : ℕ). allowed j (get_or c j 0)) q ∙ p
      go k m (no n) = d.characters k (omega arith)

  pub read-digit : {r : Sums} → 2 ≤ i → digit (get_or c i 0) ≡ true → r ≡ with_digit s (get_or c i 0 - 48) → Within r (max s.twice s.once + 9) → Read c (i + 1) r
  unfolding with_character
  read-digit m g e w = read-more (rw (le-leb 2 i m, g)) (rw g e) (record { twice = omega (arith, w.twice); once = omega (arith, w.once) })

  pub read-capital : {r : Sums} → i < 11 → capital (get_or c i 0) ≡ true → r ≡ with_capital s (get_or c i 0) → Within r (max s.twice s.once + 18) → Read c (i + 1) r
  unfolding with_character
  read-capital m g e w = read-more (or_right (leb 2 i && digit (get_or c i 0)) _ (rw (lt-ltb i 11 m, g))) (rw (no_digit (get_or c i 0) g) e) w

  -- the character may not stand there
  pub read-stop : (2 ≤ i → digit (get_or c i 0) ≡ false) → (i < 11 → capital (get_or c i 0) ≡ false) → false ≡ is_isin c
  unfolding is_isin check_digit
  read-stop = stopped i (omega (arith, d.twelve))
    where
      stopped : (k : ℕ) → k < 12 → (2 ≤ k → digit (get_or c k 0) ≡ false) → (k < 11 → capital (get_or c k 0) ≡ false) → false ≡ is_isin c
      stopped zero l m n = rw (n (omega arith), and_no)
      stopped (suc zero) l m n = rw (n (omega arith), and_no)
      stopped (suc (suc k)) l m n = go (dec_lt k 9)
        where
          go : Dec (k < 9) → false ≡ is_isin c
          go (yes o) =
              let e : 2 + k ≡ suc (suc k) = omega arith in
              let f = all-stop (λ j. digit (get_or c (2 + j) 0) || capital (get_or c (2 + j) 0)) 9 k o
              (ap (λ j. digit (get_or c j 0) || capital (get_or c j 0)) e ∙ rw (m (omega arith)) (n (omega arith))) in
              rw (f, and_no)
          go (no o) =
              let e : 11 ≡ suc (suc k) = omega arith in
              let f : digit (get_or c 11 0) ≡ false = ap (λ j. digit (get_or c j 0)) e ∙ m (omega arith) in
              rw (no_check (get_or c 11 0) (doubled true (reverse (spread (take 11 c)))) f, and_no)

-- the loop is through
pub read_done : {c : List ℕ} {i : ℕ} {s : Sums} → Read c i s → length c ≤ i → i ≤ length c → eqb (s.once % 10) 0 ≡ is_isin c
unfolding is_isin check_digit with_character with_digit sums_of
read_done {c} {i} {s} d l m =
    let e : i ≡ 12 = omega (arith, d.twelve) in
    let last = alone (digit (get_or c 11 0)) (d.characters 11 (omega arith)) in
    let more = sums-more c 11 (sums_below 11 c) (with_character (sums_below 11 c) (get_or c 11 0)) (omega (arith, d.twelve)) refl refl in
    ap (λ (z : Sums). eqb (z.once % 10) 0) (d.sums ∙ ap (λ (n : ℕ). sums_below n c) e ∙ sym (rw last at more))
    ∙ check (get_or c 11 0) (doubled true (reverse (spread (take 11 c)))) last
    ∙ rw (eq-eqb (length c) 12 d.twelve, d.characters 0 (omega arith), d.characters 1 (omega arith), nine e)
  where
    alone : (b : Bool) → (b || false) ≡ true → b ≡ true
    alone true h = h
    alone false h = h

    nine : i ≡ 12 → all_below 9 (λ k. digit (get_or c (2 + k) 0) || capital (get_or c (2 + k) 0)) ≡ true
    nine e = all_of _ 9 (λ k o. rw (le-leb 2 (2 + k) (omega arith), lt-ltb (2 + k) 11 (omega arith)) at (d.characters (2 + k) (omega arith)))

pub isin-length : (c : List ℕ) → (length c ≡ 12 → ⊥) → false ≡ is_isin c
unfolding is_isin
isin-length c n = rw (ne_eqb (length c) 12 n)

-- the list order of the library
pub before-is : (a b : List ℕ) (o : Ordering) → o ≡ slice_cmp nat_cmp a b → is_lt o ≡ before a b
unfolding before
before-is = same_from_slice_cmp nat_cmp is_lt before refl (λ _ _. refl) (λ _ _. refl) (λ x y xs ys o h. grind (arith, nat_tests))

-- "the first two bytes of a code are JP"
module _ (c : List ℕ) where
  pub japan-short : length c < 2 → false ≡ of_japan c
  unfolding same
  japan-short = go c
    where
      go : (l : List ℕ) → length l < 2 → false ≡ of_japan l
      go [] h = refl
      go (x ∷ []) h = sym (and-false (eqb x 74))
      go (x ∷ y ∷ l) h = absurd (omega arith)

  two : 2 ≤ length c → of_japan c ≡ eqb (get_or c 0 0) 74 && eqb (get_or c 1 0) 80
  unfolding same
  two = go c
    where
      go : (l : List ℕ) → 2 ≤ length l → of_japan l ≡ eqb (get_or l 0 0) 74 && eqb (get_or l 1 0) 80
      go [] h = absurd (omega arith)
      go (x ∷ []) h = absurd (omega arith)
      go (x ∷ y ∷ l) h = ap (λ (b : Bool). eqb x 74 && b) (and-true (eqb y 80))

  module _ {j : ℕ} {v : Bool} (l : 2 ≤ length c) (q : v ≡ eqb (get_or c 0 0) j) (e : j ≡ 74) where
    pub japan-first : v ≡ false → v ≡ of_japan c
    japan-first f = f ∙ row-stop _ _ (sym (rw e at q) ∙ f) ∙ sym (two l)

    pub japan-second : {p : ℕ} → v ≡ true → p ≡ 80 → eqb (get_or c 1 0) p ≡ of_japan c
    japan-second {p} f k = row-go _ _ _ (sym (rw e at q) ∙ f) (ap (eqb (get_or c 1 0)) k) ∙ sym (two l)

-- the codes stand one after the other
chunks-are : (cells : List ℕ) → cut code_size cells ≡ grid cells 0 code_size (length cells / code_size) code_size
chunks-are cells =
    let k : ℕ = length cells / code_size in
    let e : length (grid cells 0 code_size k code_size) ≡ k = length-table k (λ p. block cells (0 + code_size * p) code_size) in
    ext_get_or [] (cut code_size cells) (grid cells 0 code_size k code_size) (cut-count code_size cells ∙ sym e)
    (λ p h. let o : p < k = omega (arith, cut-count code_size cells) in cut-get code_size cells p o ∙ sym (row_at cells k code_size p o))

pub codes-are : (cells : List ℕ) {cs : List (List ℕ)} → cs ≡ cut code_size cells
    → codes_right cs ≡ codes_right (grid cells 0 code_size (length cells / code_size) code_size)
codes-are cells e = ap codes_right (e ∙ chunks-are cells)

-- codes that were tested by the library's methods
module _ (xs : List (List ℕ)) where
  each-is : (r : Bool) → MatchBool r (AllWithin (λ x. is_code x ≡ true) xs 0 (length xs)) ((k : ℕ) × (k < length xs) × HoldsAt (λ x. is_code x ≡ false) xs k)
      → r ≡ all_below (length xs) (λ i. is_code (get_or xs i []))
  each-is true h = sym (all_of (λ i. is_code (get_or xs i [])) (length xs) (λ k l. h k [] (omega arith) l))
  each-is false h = stop_is (λ i. is_code (get_or xs i [])) (length xs) h.0 h.1 (h.2 [])

  rise-is : (r : Bool) → IsAllAdjacentAnswer (λ x y b. b ≡ before x y) xs r → r ≡ rising xs
  unfolding rising
  rise-is true h = sym (all_of (λ i. before (get_or xs i []) (get_or xs (i + 1) [])) (length xs - 1) (λ k l. sym (h k [] (omega arith))))
  rise-is false h = stop_is (λ i. before (get_or xs i []) (get_or xs (i + 1) [])) (length xs - 1) h.0 (omega (arith, h.1)) (sym (h.2 []))

  pub codes-stop : (r : Bool) → MatchBool r (AllWithin (λ x. is_code x ≡ true) xs 0 (length xs)) ((k : ℕ) × (k < length xs) × HoldsAt (λ x. is_code x ≡ false) xs k)
      → r ≡ false → r ≡ codes_right xs
  unfolding codes_right
  codes-stop r h f = f ∙ row-stop _ _ (sym (each-is r h) ∙ f)

  pub codes-go : (r q : Bool) → MatchBool r (AllWithin (λ x. is_code x ≡ true) xs 0 (length xs)) ((k : ℕ) × (k < length xs) × HoldsAt (λ x. is_code x ≡ false) xs k)
      → r ≡ true → IsAllAdjacentAnswer (λ x y b. b ≡ before x y) xs q → q ≡ codes_right xs
  unfolding codes_right
  codes-go r q h e k = row-go _ _ _ (sym (each-is r h) ∙ e) (rise-is q k)
