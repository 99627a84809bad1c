-- A list cut into parts of s elements, as `as_chunks` and `chunks_exact` give them; parts of parts. Assumes nothing.
use Rattle.std.proofs.Common.{◌≡◌, ℕ, zero, suc, ◌+◌, ◌-◌, ◌*◌, ◌/◌, ◌<◌, ◌≤◌, List, [], ◌++◌, length, get_or, get_or-take, take, drop, drop-drop, refl, sym, ap, ap₂, ◌∙◌, subst, mul-zero, mul-suc, mul-le-mul_left, length-append, le_refl, take_all, arith}
use Rattle.std.proofs.Math.Nat.{div-mul-le_self, mul-div-le, le-div_iff_mul-le, mul-div_cancel_left, add-mul-div_left}
use Rattle.std.proofs.Math.Seq.{take-append_seam, drop-append_seam}
use Rattle.std.specs.Simd.{first_chunks}
use Rattle.std.specs.Iterator.{AlwaysYields}
use Rattle.std.specs.Slice.Iter.{chunks_exact_rest, chunks_exact_size, chunks_exact_steps}
use Rattle.std.specs.declared.slice.ChunksExact.{ChunksExact}
use Rattle.std.proofs.lemmas.Iterator.{YieldsList}
use Rattle.std.proofs.lemmas.List.{drop-take, take-take, length-take-le}
use Rattle.lists.specs.Parts.{block, grid}
use Rattle.lists.proofs.TableLaws.{length-table, get_or-table}
use Rattle.lists.proofs.PartLaws.{part-is, table-agree}
use lib.Seq.{ext_get_or}

module _ {A : Type 0} where
  abbrev pub cut : ℕ → List A → List (List A)
  cut s xs = first_chunks s (length xs / s) xs

  chunk-get : (s k : ℕ) (xs : List A) (i : ℕ) → i < k → get_or (first_chunks s k xs) i [] ≡ take s (drop (s * i) xs)
  chunk-get s zero xs i l = absurd (omega arith)
  chunk-get s (suc k) xs zero l = rw mul-zero
  chunk-get s (suc k) xs (suc i) l = chunk-get s k (drop s xs) i (omega arith) ∙ (let e : s + s * i ≡ s * suc i = omega (arith, mul-suc s i) in rw (drop-drop, e))

  chunk-count : (s k : ℕ) (xs : List A) → length (first_chunks s k xs) ≡ k
  chunk-count s zero xs = refl
  chunk-count s (suc k) xs = ap suc (chunk-count s k (drop s xs))

  pub cut-count : (s : ℕ) (xs : List A) → length (cut s xs) ≡ length xs / s
  cut-count s xs = chunk-count s (length xs / s) xs

  pub cut-get : (s : ℕ) (xs : List A) (i : ℕ) → i < length xs / s → get_or (cut s xs) i [] ≡ take s (drop (s * i) xs)
  cut-get s xs i l = chunk-get s (length xs / s) xs i l

  -- a part has its room
  pub cut-room : (s : ℕ) (xs : List A) (i : ℕ) → i < length xs / s → s * i + s ≤ length xs
  cut-room s xs i l = omega (arith, mul-le-mul_left s l, mul-suc s i, mul-div-le (length xs) s)

  -- the first part, and what is left
  module _ (s : ℕ) (xs x ys : List A) (e : xs ≡ x ++ ys) (l : length x ≡ s) where
    pub part-first : x ≡ take s xs
    part-first = sym (ap₂ take (sym l) e ∙ take-append_seam x ys)

    pub part-rest : ys ≡ drop s xs
    part-rest = sym (ap₂ drop (sym l) e ∙ drop-append_seam x ys)

    pub part-count : 0 < s → length xs / s ≡ suc (length ys / s)
    part-count p =
        let k : length xs ≡ length ys + s * 1 = ap length e ∙ length-append x ys ∙ omega (arith, l) in
        ap (λ (n : ℕ). n / s) k ∙ add-mul-div_left (length ys) 1 p ∙ omega arith

  chunks-give : (k : ℕ) (it : ChunksExact A) → 0 < chunks_exact_size it → length (chunks_exact_rest it) / chunks_exact_size it ≡ k
      → AlwaysYields chunks_exact_steps (λ y. y.now) it (first_chunks (chunks_exact_size it) k (chunks_exact_rest it))
  chunks-give zero it p e = λ x j h.
      let f : length (chunks_exact_rest it) / chunks_exact_size it ≡ suc _ = part-count _ _ _ _ h.1.0 h.1.1 p in
      omega (arith, e, f)
  chunks-give (suc k) it p e = (
    (λ j h. omega (arith, ap (λ (q : ℕ). q * chunks_exact_size it) e, div-mul-le_self (length (chunks_exact_rest it)) (chunks_exact_size it), h.1.0)),
    λ x j h.
        let rest : chunks_exact_rest j ≡ drop (chunks_exact_size it) (chunks_exact_rest it) = part-rest _ _ _ _ h.1.0 h.1.1 in
        let f : length (chunks_exact_rest it) / chunks_exact_size it ≡ suc (length (chunks_exact_rest j) / chunks_exact_size it) = part-count _ _ _ _ h.1.0 h.1.1 p in
        let n : length (chunks_exact_rest j) / chunks_exact_size j ≡ k = ap (λ (z : ℕ). length (chunks_exact_rest j) / z) h.0 ∙ omega (arith, e, f) in (
          part-first _ _ _ _ h.1.0 h.1.1,
          subst (AlwaysYields chunks_exact_steps (λ y. y.now) j) (ap₂ (λ (z : ℕ) (ys : List A). first_chunks z k ys) h.0 rest) (chunks-give k j (omega (arith, p, h.0)) n),
        ),
  )

  pub YieldsList-from_chunks : {it : ChunksExact A} (s : ℕ) (xs : List A) → chunks_exact_rest it ≡ xs → chunks_exact_size it ≡ s → 0 < s
      → YieldsList chunks_exact_steps (λ y. y.now) it (cut s xs)
  YieldsList-from_chunks {it} s xs e f p = record {
    runs = subst (AlwaysYields chunks_exact_steps (λ y. y.now) it) (ap₂ (λ (z : ℕ) (ys : List A). first_chunks z (length ys / z) ys) f e) (chunks-give _ it (omega (arith, p, f)) refl);
  }

-- ---- parts of parts

-- a part of a part
pub block-within : (b : List ℕ) (at n o m : ℕ) → o + m ≤ n → block (block b at n) o m ≡ block b (at + o) m
block-within b at n o m h =
    let e : n ≡ o + (n - o) = omega arith in
    ap (λ (k : ℕ). take m (drop o (take k (drop at b)))) e
    ∙ ap (take m) (drop-take o (n - o) (drop at b)) ∙ take-take m (n - o) (drop o (drop at b)) (omega arith)
    ∙ ap (take m) (drop-drop o at b)

-- rows of a part
pub grid-within : (b : List ℕ) (at w stride n m : ℕ) → stride * n ≤ w → m ≤ stride → grid (block b at w) 0 stride n m ≡ grid b at stride n m
grid-within b at w stride n m h k =
    table-agree n _ _ (λ p l. let z : at + (0 + stride * p) ≡ at + stride * p = omega arith in
    block-within b at w (0 + stride * p) m (omega (arith, mul-le-mul_left stride l, h, k)) ∙ ap (λ (j : ℕ). block b j m) z)

-- the same, where the part is a slice of its own
pub grid-there : (b : List ℕ) (at stride n m : ℕ) (part : List ℕ) → at + stride * n ≤ length b → part ≡ take (at + stride * n - at) (drop at b) → m ≤ stride
    → grid part 0 stride n m ≡ grid b at stride n m
grid-there b at stride n m part h e w = ap (λ (x : List ℕ). grid x 0 stride n m) (e ∙ part-is b at (stride * n)) ∙ grid-within b at (stride * n) stride n m (le_refl (stride * n)) w

-- the first parts are rows that stand one after the other
pub cut-rows : (s n : ℕ) (xs : List ℕ) → 0 < s → s * n ≤ length xs → take n (cut s xs) ≡ grid xs 0 s n s
cut-rows s n xs some h =
    let room : n ≤ length xs / s = (le-div_iff_mul-le some).1 (omega arith) in
    let long : length (take n (cut s xs)) ≡ n = length-take-le n (cut s xs) (omega (arith, cut-count s xs)) in
    ext_get_or [] (take n (cut s xs)) (grid xs 0 s n s) (long ∙ sym (length-table n (λ p. block xs (0 + s * p) s)))
    (λ p l.
    let k : p < n = omega (arith, long) in
    let z : s * p ≡ 0 + s * p = omega arith in
    get_or-take n (cut s xs) p [] k ∙ cut-get s xs p (omega arith) ∙ ap (λ (o : ℕ). block xs o s) z
    ∙ sym (get_or-table n (λ p. block xs (0 + s * p) s) p [] k))

-- all of them
pub cut-all : (s n : ℕ) (xs : List ℕ) → 0 < s → length xs ≡ s * n → cut s xs ≡ grid xs 0 s n s
cut-all s n xs some e =
    let count : length (cut s xs) ≡ n = cut-count s xs ∙ ap (λ (k : ℕ). k / s) e ∙ mul-div_cancel_left n some in
    sym (take_all n (cut s xs) (omega arith)) ∙ cut-rows s n xs some (omega arith)
