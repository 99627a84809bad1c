-- Laws of the two lists. Assumes nothing.
use Rattle.std.proofs.Common.{◌≡◌, ℕ, zero, suc, ◌+◌, ◌-◌, ◌*◌, ◌<◌, ◌≤◌, Bool, ltb, ◌≢◌, List, [], ◌∷◌, ◌++◌, map, length, get_or, sym, refl, ap, ◌∙◌, ap₂, append-nil, add-zero, arith, length-append, le-ltb, lt-ltb}
use native.Mathlib.Decide.{dec_lt}
use Rattle.lists.specs.Tests.{pick}
use Rattle.lists.specs.Tables.{up_to}
use Rattle.lists.specs.Folds.{keep, joined, Every}
use Rattle.lists.specs.Parts.{over}
use Rattle.lists.proofs.TestLaws.{pick_yes, pick_no}
use Rattle.lists.proofs.PartLaws.{length_over}
use Rattle.lists.proofs.AppendLaws.{map-append, keep_append, joined-append, joined_length, up_to-more, over_none, over-more}
use Rattle.rule.specs.Entries.{line_size}
use Rattle.run_post.specs.declared.listing.Lists.{Lists}
use Rattle.run_post.specs.Listed.{line_for, lines_to, lines_for, AddLineAsks, SameLists, Lined, LinesRoom, Listed}

-- ---- the slices that were lent

pub same-lists : (s : Lists) → SameLists s s
same-lists s = record { matches = refl; lines = refl; match_places = refl; line_places = refl }

pub same-then : {s t u : Lists} → SameLists s t → SameLists t u → SameLists s u
same-then a b = record {
  matches = b.matches ∙ a.matches;
  lines = b.lines ∙ a.lines;
  match_places = b.match_places ∙ a.match_places;
  line_places = b.line_places ∙ a.line_places;
}

-- ---- the line of an issue, if it has lots

pub lined-none : (b : List ℕ) (line number i : ℕ) {lots : ℕ} → lots ≡ 0 → Lined b b line number i lots line
lined-none b line number i z = record { some = λ h. absurd (omega arith); none = λ h. (refl, refl) }

pub lined-some : {b c : List ℕ} (line number i : ℕ) {lots count : ℕ} → lots ≢ 0 → c ≡ over b (line_size * line) (number ∷ i ∷ lots ∷ []) → count ≡ line + 1
    → Lined b c line number i lots count
lined-some line number i {lots} z e n = record { some = λ p. (e, n); none = λ p. absurd (z (omega arith)) }

-- ---- the lines of a match

lines-three : (number : ℕ) (lots is : List ℕ) → Every (λ r. length r ≡ line_size) (map (line_for number lots) is)
lines-three number lots [] = tt
lines-three number lots (i ∷ is) = (refl, lines-three number lots is)

-- the cells of the first n issues' lines
cells_of : (number : ℕ) (lots : List ℕ) (n : ℕ) → length (joined (lines_to number lots n)) ≡ line_size * length (lines_to number lots n)
unfolding lines_to
cells_of number lots n =
    let is : List ℕ = keep (λ i. ltb 0 (get_or lots i 0)) (up_to n) in
    joined_length line_size (map (line_for number lots) is) (lines-three number lots is)

pub cells-for : (number : ℕ) (lots : List ℕ) → length (joined (lines_for number lots)) ≡ line_size * length (lines_for number lots)
unfolding lines_for
cells-for number lots = cells_of number lots (length lots)

more : (number : ℕ) (lots : List ℕ) (i : ℕ) → lines_to number lots (i + 1) ≡ lines_to number lots i ++ map (line_for number lots) (pick (ltb 0 (get_or lots i 0)) (i ∷ []) [])
unfolding lines_to
more number lots i =
    let t : ℕ → Bool = λ i. ltb 0 (get_or lots i 0) in
    ap (λ (l : List ℕ). map (line_for number lots) (keep t l)) (up_to-more i)
    ∙ ap (map (line_for number lots)) (keep_append t (up_to i) (i ∷ []))
    ∙ map-append (line_for number lots) (keep t (up_to i)) (keep t (i ∷ []))

pub more-some : (number : ℕ) (lots : List ℕ) (i : ℕ) → 0 < get_or lots i 0 → lines_to number lots (i + 1) ≡ lines_to number lots i ++ (line_for number lots i ∷ [])
more-some number lots i h =
    more number lots i ∙ ap (λ (l : List ℕ). lines_to number lots i ++ map (line_for number lots) l) (pick_yes (ltb 0 (get_or lots i 0)) (i ∷ []) [] (lt-ltb 0 (get_or lots i 0) h))

pub more-none : (number : ℕ) (lots : List ℕ) (i : ℕ) → get_or lots i 0 ≤ 0 → lines_to number lots (i + 1) ≡ lines_to number lots i
more-none number lots i h =
    more number lots i ∙ ap (λ (l : List ℕ). lines_to number lots i ++ map (line_for number lots) l) (pick_no (ltb 0 (get_or lots i 0)) (i ∷ []) [] (le-ltb 0 (get_or lots i 0) h))
    ∙ append-nil (lines_to number lots i)

-- there are no more lines of fewer issues
fewer : (number : ℕ) (lots : List ℕ) (n j : ℕ) → length (lines_to number lots n) ≤ length (lines_to number lots (n + j))
fewer number lots n zero = omega (arith, ap (λ (k : ℕ). length (lines_to number lots k)) (add-zero n))
fewer number lots n (suc j) =
    omega (
      arith,
      fewer number lots n j,
      ap length (more number lots (n + j)),
      length-append (lines_to number lots (n + j)) (map (line_for number lots) (pick (ltb 0 (get_or lots (n + j) 0)) ((n + j) ∷ []) [])),
      ap (λ (k : ℕ). length (lines_to number lots k)) (same n j),
    )
  where
    same : (n j : ℕ) → n + j + 1 ≡ n + suc j
    same n j = omega arith

module _ (entry : List ℕ) (first number : ℕ) (lots : List ℕ) where
  -- those of the issues below i are written
  pub record ListedTo (lines : List ℕ) (line i : ℕ) : Type 0 where
    pub here : i ≤ length lots
    pub size : length lines ≡ length entry
    pub cells : lines ≡ over entry (line_size * first) (joined (lines_to number lots i))
    pub counted : line ≡ first + length (lines_to number lots i)

  pub listed-none : ListedTo entry first 0
  unfolding lines_to
  listed-none = record { here = omega arith; size = refl; cells = sym (over_none entry (line_size * first)); counted = omega arith }

  module _ (h : LinesRoom entry first number lots) {lines : List ℕ} {line i : ℕ} (w : ListedTo lines line i) (l : i < length lots) where
    -- as many lines as there are with issue i's
    listed-room : (n : ℕ) → length (lines_to number lots (i + 1)) ≡ n → line_size * (first + n) ≤ length entry
    unfolding lines_for
    listed-room n e =
        omega (arith, h.places, fewer number lots (i + 1) (length lots - (i + 1)), ap (λ (k : ℕ). length (lines_to number lots k)) (rest (length lots) i l))
      where
        rest : (m i : ℕ) → i < m → i + 1 + (m - (i + 1)) ≡ m
        rest m i l = omega arith

    one_more : 0 < get_or lots i 0 → length (lines_to number lots (i + 1)) ≡ length (lines_to number lots i) + 1
    one_more some = ap length (more-some number lots i some) ∙ length-append (lines_to number lots i) (line_for number lots i ∷ [])

    room : 0 < get_or lots i 0 → line_size * (line + 1) ≤ length lines
    room some = omega (arith, listed-room _ (one_more some), w.size, w.counted)

    pub line-room : 0 < get_or lots i 0 → AddLineAsks lines line
    line-room some = record { places = room some }

    -- a line more, or none
    pub listed_more : {next : List ℕ} {count : ℕ} → Lined lines next line number i (get_or lots i 0) count → ListedTo next count (i + 1)
    listed_more {next} {count} d = cases (dec_lt 0 (get_or lots i 0))
      where
        cases : Dec (0 < get_or lots i 0) → ListedTo next count (i + 1)
        cases (yes some) =
            let r : List ℕ = joined (lines_to number lots i) in
            let long : length r ≡ line_size * length (lines_to number lots i) = cells_of number lots i in
            let place : line_size * line ≡ line_size * first + length r = omega (arith, w.counted) in
            record {
              here = omega arith;
              size = ap length (d.some some).0 ∙ length_over lines (line_for number lots i) (line_size * line) (omega (arith, room some)) ∙ w.size;
              cells = (d.some some).0 ∙ ap₂ (λ (x : List ℕ) (k : ℕ). over x k (line_for number lots i)) w.cells place
                  ∙ over-more entry r (line_for number lots i) (line_size * first) (omega (arith, room some, w.size))
                  ∙ ap (over entry (line_size * first)) (sym (joined-append (lines_to number lots i) (line_for number lots i ∷ [])) ∙ ap joined (sym (more-some number lots i some)));
              counted = omega (arith, w.counted, one_more some, (d.some some).1);
            }
        cases (no none) =
            let e : lines_to number lots i ≡ lines_to number lots (i + 1) = sym (more-none number lots i (omega arith)) in
            record {
              here = omega arith;
              size = ap length (d.none (omega arith)).0 ∙ w.size;
              cells = (d.none (omega arith)).0 ∙ w.cells ∙ ap (λ (l : List (List ℕ)). over entry (line_size * first) (joined l)) e;
              counted = (d.none (omega arith)).1 ∙ w.counted ∙ ap (λ (l : List (List ℕ)). first + length l) e;
            }

  pub listed-all : {lines : List ℕ} {line i : ℕ} → ListedTo lines line i → length lots ≤ i → Listed entry lines first number lots line
  unfolding lines_for
  listed-all {lines} {line} {i} w l =
      let e : i ≡ length lots = omega (arith, w.here) in
      record {
        cells = w.cells ∙ ap (λ (k : ℕ). over entry (line_size * first) (joined (lines_to number lots k))) e;
        counted = w.counted ∙ ap (λ (k : ℕ). first + length (lines_to number lots k)) e;
      }
