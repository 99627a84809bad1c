-- Laws of tests, of `all` and `any`, and of a loop that gathers bits: of no book, they could stand in crates/lists. Assumes nothing.
use Rattle.std.proofs.Common.{◌≡◌, ℕ, zero, suc, ◌+◌, ◌-◌, ◌%◌, ◌^◌, ◌<◌, ◌≤◌, Bool, true, false, ◌&&◌, eqb, leb, List, length, get_or, sym, refl, ap, ◌∙◌, ap₂, add-zero, add-one, arith, pow_pos, ne_eqb, le-leb}
use mathlib.Core.Bool.{and-true, and_assoc}
use native.Mathlib.Decide.{dec_le}
use lib.Bits.{bit_or, or_lt, or_add_and, and_le_l, and_le_r}
use borrow.Author.Tests.{lt-leb}
use Rattle.std.specs.Bool.{MatchBool}
use Rattle.std.specs.List.{range_with_len, FoldsTo, AllWithin, HoldsAt}
use Rattle.std.specs.Fn.{Called}
use Rattle.std.specs.Iterator.{YieldsThen}
use Rattle.std.specs.Option.{MatchOption}
use Rattle.std.specs.Prelude.{Option}
use Rattle.std.specs.declared.ops.Range.{Range}
use Rattle.std.proofs.iter.Yields.{nat_range_steps}
use Rattle.std.proofs.lemmas.Iterator.{YieldsList, YieldsList-from_range, cases_from_all, cases_from_any}
use denote.Param.Members.{Mut}
use Rattle.std.proofs.lemmas.List.FromFn.{length-range_with_len, get_or-range_with_len}
use Rattle.lists.specs.Tests.{all_below}
use Rattle.lists.proofs.TestLaws.{all_none, all-stop, all_of, all-ext}

and-swap : (a b c d : Bool) → ((a && b) && (c && d)) ≡ ((a && c) && (b && d))
and-swap true true c d = refl
and-swap true false true d = refl
and-swap true false false d = refl
and-swap false b c d = refl

-- two tests at every index
pub all-and : (t u : ℕ → Bool) (n : ℕ) → all_below n (λ k. t k && u k) ≡ (all_below n t && all_below n u)
unfolding all_below
all-and t u zero = refl
all-and t u (suc n) = ap (λ (b : Bool). b && (t n && u n)) (all-and t u n) ∙ and-swap (all_below n t) (all_below n u) (t n) (u n)

-- the indices below i, and those from i on
pub all_split : (t : ℕ → Bool) (i n : ℕ) → all_below (i + n) t ≡ (all_below i t && all_below n (λ k. t (i + k)))
unfolding all_below
all_split t i zero = rw add-zero (sym (and-true (all_below i t)))
all_split t i (suc n) =
    let e : i + suc n ≡ suc (i + n) = omega arith in
    ap (λ (m : ℕ). all_below m t) e ∙ ap (λ (b : Bool). b && t (i + n)) (all_split t i n)
    ∙ and_assoc (all_below i t) (all_below n (λ k. t (i + k))) (t (i + n))

and_again : (a b c : Bool) → ((a && b) && (b && c)) ≡ (a && (b && c))
and_again true true c = refl
and_again true false c = refl
and_again false b c = refl

-- two parts that may overlap
pub all-overlap : (t : ℕ → Bool) (a o n : ℕ) → o ≤ a → a ≤ o + n → (all_below a t && all_below n (λ k. t (o + k))) ≡ all_below (o + n) t
all-overlap t a o n h l =
    let first : a ≡ o + (a - o) = omega arith in
    let second : n ≡ (a - o) + (n - (a - o)) = omega arith in
    let parts : all_below n s ≡ (all_below (a - o) s && all_below (n - (a - o)) (λ k. s (a - o + k))) = ap (λ (m : ℕ). all_below m s) second ∙ all_split s (a - o) (n - (a - o)) in
    ap₂ ◌&&◌ (ap (λ (m : ℕ). all_below m t) first ∙ all_split t o (a - o)) parts
    ∙ and_again (all_below o t) (all_below (a - o) s) (all_below (n - (a - o)) (λ k. s (a - o + k)))
    ∙ sym (all_split t o n ∙ ap (λ (r : Bool). all_below o t && r) parts)
  where
    s : ℕ → Bool
    s k = t (o + k)

-- ---- what `all` returns, of a list and of the numbers below n

-- a call of `all` or `any` that returns r: its test said `on` of the items ys, and then none was left, or it said `off` of the next
abbrev pub Ran : {S A F : Type 0} → (S → Option A → S → Type 0) → Mut F (A × Unit {0}) Bool → Bool → Bool → S → S → F → Bool → Type 0
Ran {S} {A} {F} steps g on off s u f r =
    (ys : List A) × (o : Option A) × (j : F) × YieldsThen steps s ys o u × FoldsTo (λ p x q. Called g p (x, tt) on q) f ys j
    × MatchOption o (r ≡ on) (λ x. (r ≡ off) × ((h : F) × Called g j (x, tt) off h))

-- where its test says `on`, so does t, and the test is as it was
abbrev pub GoesOn : {A F : Type 0} → Mut F (A × Unit {0}) Bool → F → Bool → (A → Bool) → Type 0
GoesOn {A} {F} g f on t = (x : A) (q : F) → Called g f (x, tt) on q → (q ≡ f) × (t x ≡ on)

-- where it says `off`, so does t
abbrev pub Stops : {A F : Type 0} → Mut F (A × Unit {0}) Bool → F → Bool → (A → Bool) → Type 0
Stops {A} {F} g f off t = (x : A) (q : F) → Called g f (x, tt) off q → t x ≡ off

module _ {X : Type 0} (t : X → Bool) (xs : List X) (d : X) where
  said : (r : Bool) → MatchBool r (AllWithin (λ x. t x ≡ true) xs 0 (length xs)) ((k : ℕ) × (k < length xs) × HoldsAt (λ x. t x ≡ false) xs k)
      → r ≡ all_below (length xs) (λ i. t (get_or xs i d))
  said true h = sym (all_of (λ i. t (get_or xs i d)) (length xs) (λ k l. h k d (omega arith) l))
  said false (k, l, h) = sym (all-stop (λ i. t (get_or xs i d)) (length xs) k l (h d))

  module _ {S A F : Type 0} {steps : S → Option A → S → Type 0} {v : A → X} {g : Mut F (A × Unit {0}) Bool} {s : S} (u : S) {f : F} {r : Bool} where
    pub all-items : Ran steps g true false s u f r → YieldsList steps v s xs → GoesOn g f true (λ x. t (v x)) → Stops g f false (λ x. t (v x))
        → r ≡ all_below (length xs) (λ i. t (get_or xs i d))
    all-items ran e passed failed = said r (cases_from_all u _ _ (λ x. t x ≡ true) (λ x. t x ≡ false) ran e passed failed)

module _ (t : ℕ → Bool) (n : ℕ) {F : Type 0} {g : Mut F (ℕ × Unit {0}) Bool} {s : Range ℕ} (u : Range ℕ) {f : F} {r : Bool} where
  pub all-below : Ran nat_range_steps g true false s u f r → s ≡ record { start = 0; end = n } → GoesOn g f true t → Stops g f false t
      → r ≡ all_below n t
  all-below ran e passed failed =
      all-items t (range_with_len 0 n) 0 u ran (YieldsList-from_range 0 n n e (omega arith)) passed failed
      ∙ ap (λ (m : ℕ). all_below m (λ i. t (get_or (range_with_len 0 n) i 0))) (length-range_with_len 0 n)
      ∙ all-ext _ _ n (λ i l. let z : 0 + i ≡ i = omega arith in ap t (get_or-range_with_len 0 n i 0 l ∙ z))

  -- and of `any`
  pub any-below : Ran nat_range_steps g false true s u f r → s ≡ record { start = 0; end = n } → Stops g f true t → GoesOn g f false t
      → MatchBool r ((k : ℕ) × (k < n) × (t k ≡ true)) ((k : ℕ) → k < n → t k ≡ false)
  any-below ran e passed failed =
      found r (cases_from_any u _ _ (λ x. t x ≡ true) (λ x. t x ≡ false) ran (YieldsList-from_range 0 n n e (omega arith)) passed failed)
    where
      below : List ℕ
      below = range_with_len 0 n

      at_place : (b : Bool) (k : ℕ) → k < n → t (get_or below k 0) ≡ b → t k ≡ b
      at_place b k l h = let z : 0 + k ≡ k = omega arith in ap t (sym (get_or-range_with_len 0 n k 0 l ∙ z)) ∙ h

      found : (r : Bool)
          → MatchBool r ((k : ℕ) × (k < length below) × HoldsAt (λ x. t x ≡ true) below k) (AllWithin (λ x. t x ≡ false) below 0 (length below))
          → MatchBool r ((k : ℕ) × (k < n) × (t k ≡ true)) ((k : ℕ) → k < n → t k ≡ false)
      found true (k, l, h) = let l' : k < n = omega (arith, length-range_with_len 0 n) in (k, l', at_place true k l' (h 0))
      found false h = λ k l. at_place false k l (h k 0 (omega arith) (omega (arith, length-range_with_len 0 n)))

-- ---- a loop that gathers bits, and has its answer at the end

-- what the bits say of the indices below i
pub record Gathered (t : ℕ → Bool) (n i : ℕ) (r : Bool) : Type 0 where
  pub here : i ≤ n
  pub said : r ≡ all_below i t

pub gathered_begin : (t : ℕ → Bool) (n : ℕ) {r : Bool} → r ≡ true → Gathered t n 0 r
gathered_begin t n e = record { here = omega arith; said = e ∙ sym (all_none t) }

pub gathered_none : (t : ℕ → Bool) (n : ℕ) → Gathered t n 0 true
gathered_none t n = gathered_begin t n refl

module _ {t : ℕ → Bool} {n i : ℕ} {r : Bool} (h : Gathered t n i r) where
  pub gathered-more : {q : Bool} → i < n → q ≡ (r && t i) → Gathered t n (i + 1) q
  unfolding all_below
  gathered-more l e = record { here = omega arith; said = rw add-one (e ∙ ap (λ (x : Bool). x && t i) h.said) }

  pub gathered-all : n ≤ i → r ≡ all_below n t
  gathered-all l = let e : i ≡ n = omega (arith, h.here) in h.said ∙ ap (λ (m : ℕ). all_below m t) e

-- two numbers' bits, and both numbers
module _ (a b : ℕ) where
  bits_above : (a ≤ bit_or a b) × (b ≤ bit_or a b)
  bits_above = (omega (arith, or_add_and a b, and_le_r a b), omega (arith, or_add_and a b, and_le_l a b))

  pub bits_below : (k : ℕ) → leb (bit_or a b) (2 ^ k - 1) ≡ (leb a (2 ^ k - 1) && leb b (2 ^ k - 1))
  bits_below k = go (dec_le a (2 ^ k - 1)) (dec_le b (2 ^ k - 1))
    where
      go : Dec (a ≤ 2 ^ k - 1) → Dec (b ≤ 2 ^ k - 1) → leb (bit_or a b) (2 ^ k - 1) ≡ (leb a (2 ^ k - 1) && leb b (2 ^ k - 1))
      go (yes x) (yes y) = rw (le-leb a _ x, le-leb b _ y, le-leb (bit_or a b) (2 ^ k - 1) (omega (arith, or_lt k a b (omega (arith, pow_pos k)) (omega (arith, pow_pos k)))))
      go (yes x) (no y) = rw (le-leb a _ x, lt-leb b (2 ^ k - 1) (omega arith), lt-leb (bit_or a b) (2 ^ k - 1) (omega (arith, bits_above)))
      go (no x) y = rw (lt-leb a (2 ^ k - 1) (omega arith), lt-leb (bit_or a b) (2 ^ k - 1) (omega (arith, bits_above)))

  pub bits_none : eqb (bit_or a b) 0 ≡ (eqb a 0 && eqb b 0)
  bits_none = nought (bit_or a b) ∙ bits_below 0 ∙ sym (ap₂ ◌&&◌ (nought a) (nought b))
    where
      nought : (x : ℕ) → eqb x 0 ≡ leb x 0
      nought zero = refl
      nought (suc x) = ne_eqb (suc x) 0 (λ e. omega arith) ∙ sym (lt-leb (suc x) 0 (omega arith))

-- a number, and that number moved up: one of them has the highest bit where the number is above the bound
pub above-is : {r : ℕ} (x bound : ℕ) → x < 18446744073709551616 → bound ≤ 9223372036854775807
    → r ≡ (x + (9223372036854775807 - bound)) % 18446744073709551616 → leb (bit_or x r) 9223372036854775807 ≡ leb x bound
above-is {r} x bound f l e = bits_below x r 63 ∙ go (dec_le x bound) (dec_le x 9223372036854775807)
  where
    go : Dec (x ≤ bound) → Dec (x ≤ 9223372036854775807) → (leb x 9223372036854775807 && leb r 9223372036854775807) ≡ leb x bound
    go (yes h) k = rw (le-leb x bound h, le-leb x 9223372036854775807 (omega arith), le-leb r 9223372036854775807 (omega arith))
    go (no h) (yes k) = rw (lt-leb x bound (omega arith), le-leb x 9223372036854775807 k, lt-leb r 9223372036854775807 (omega arith))
    go (no h) (no k) = rw (lt-leb x bound (omega arith), lt-leb x 9223372036854775807 (omega arith))
