-- Laws of signed numbers in cells of 64 bits. Assumes nothing.
use mathlib.Core.Path.{◌≡◌, sym, ap, ◌∙◌}
use Prim.Native.Nat.{ℕ, ◌+◌, ◌-◌, ◌≤◌, ◌<◌, ◌%◌, min}
use native.Mathlib.Decide.{dec_le}
use native.Mathlib.Omega.{arith}
use lib.Dec.{ltb}
use borrow.Author.Tests.{lt-ltb, le-ltb}
use Rattle.lists.specs.Tests.{pick}
use Rattle.lists.proofs.TestLaws.{pick_yes, pick_no}
use Rattle.rule.specs.Layout.{signed}

abbrev whole : ℕ
whole = 18446744073709551616

abbrev limit : ℕ
limit = 10000000000000

-- the cell of a number that is not negative, and of one that is
signed_up : (a z : ℕ) → z ≤ a → a ≤ limit → signed (a - z) (z - a) ≡ a - z
signed_up a z h k = ap (λ (q : ℕ). signed (a - z) q) none ∙ up (a - z) (omega arith)
  where
    none : z - a ≡ 0
    none = omega arith

    up : (p : ℕ) → p ≤ limit → signed p 0 ≡ p
    up p l = omega arith

signed-down : (a z : ℕ) → a < z → z ≤ limit → signed (a - z) (z - a) ≡ whole - (z - a)
signed-down a z h k = ap (λ (q : ℕ). signed q (z - a)) none ∙ down (z - a) (omega arith) (omega arith)
  where
    none : a - z ≡ 0
    none = omega arith

    down : (q : ℕ) → 0 < q → q ≤ limit → signed 0 q ≡ whole - q
    down q p l = omega arith

-- lots are delivered, and received: out and back are what was delivered and received so far
pub tally-out : (out back x : ℕ) → out + x ≤ limit → back ≤ limit → (signed (out - back) (back - out) + x) % whole ≡ signed (out + x - back) (back - (out + x))
tally-out out back x h k = go (dec_le back out) (dec_le back (out + x))
  where
    go : Dec (back ≤ out) → Dec (back ≤ out + x) → (signed (out - back) (back - out) + x) % whole ≡ signed (out + x - back) (back - (out + x))
    go (yes l) m = rw (signed_up out back l (omega arith), signed_up (out + x) back (omega arith) h) (omega arith)
    go (no l) (yes m) = rw (signed-down out back (omega arith) k, signed_up (out + x) back m h) (omega arith)
    go (no l) (no m) = rw (signed-down out back (omega arith) k, signed-down (out + x) back (omega arith) k) (omega arith)

pub tally-back : (out back x : ℕ) → out ≤ limit → back + x ≤ limit → (signed (out - back) (back - out) + (whole - x)) % whole ≡ signed (out - (back + x)) (back + x - out)
tally-back out back x h k = go (dec_le back out) (dec_le (back + x) out)
  where
    go : Dec (back ≤ out) → Dec (back + x ≤ out) → (signed (out - back) (back - out) + (whole - x)) % whole ≡ signed (out - (back + x)) (back + x - out)
    go (yes l) (yes m) = rw (signed_up out back l h, signed_up out (back + x) m h) (omega arith)
    go (yes l) (no m) = rw (signed_up out back l h, signed-down out (back + x) (omega arith) k) (omega arith)
    go (no l) m = rw (signed-down out back (omega arith) (omega arith), signed-down out (back + x) (omega arith) k) (omega arith)

-- covered yen leave a position of which so much was covered: what is owed, and what is due
pub owed-less : (owed due from to x : ℕ) → min owed due ≡ 0 → owed ≤ limit → due ≤ limit → from + x ≤ owed → to ≤ due
    → (signed (owed - from) (due - to) + (whole - x)) % whole ≡ signed (owed - (from + x)) (due - to)
owed-less owed due from to x one o d h k = omega arith

pub due-less : (owed due from to x : ℕ) → min owed due ≡ 0 → owed ≤ limit → due ≤ limit → from ≤ owed → to + x ≤ due
    → (signed (owed - from) (due - to) + x) % whole ≡ signed (owed - from) (due - (to + x))
due-less owed due from to x one o d h k = omega arith

-- a pair's mark, once more covered
pub marked_more : (x sum mark : ℕ) → pick (ltb 0 x) 1 (pick (ltb 0 sum) 1 mark) ≡ pick (ltb 0 (sum + x)) 1 mark
marked_more x sum mark = go (dec_le x 0) (dec_le sum 0)
  where
    go : Dec (x ≤ 0) → Dec (sum ≤ 0) → pick (ltb 0 x) 1 (pick (ltb 0 sum) 1 mark) ≡ pick (ltb 0 (sum + x)) 1 mark
    go (yes h) k =
        let e : sum ≡ sum + x = omega arith in
        pick_no (ltb 0 x) 1 (pick (ltb 0 sum) 1 mark) (le-ltb 0 x h) ∙ ap (λ (s : ℕ). pick (ltb 0 s) 1 mark) e
    go (no h) k =
        pick_yes (ltb 0 x) 1 (pick (ltb 0 sum) 1 mark) (lt-ltb 0 x (omega arith)) ∙ sym (pick_yes (ltb 0 (sum + x)) 1 mark (lt-ltb 0 (sum + x) (omega arith)))
