-- Laws of the lists of a run, with one match more. Assumes nothing.
use mathlib.Core.Path.{◌≡◌, refl, sym, ap, ap₂, ◌∙◌}
use mathlib.Core.Bool.{Bool, true, false}
use mathlib.Core.List.{List, [], ◌∷◌, ◌++◌, map, append-nil, append_assoc}
use Prim.Native.Nat.{ℕ, suc, ◌+◌, ◌*◌, ◌≤◌, ◌<◌}
use native.Mathlib.Nat.{add-zero}
use native.Mathlib.Decide.{ℕ_discrete}
use native.Mathlib.Omega.{arith}
use lib.ListN.{length, get_or, set, length-append, length-set}
use lib.Seq.{get_or-set_same, get_or-set_other}
use lib.Dec.{ltb, eqb}
use borrow.Author.Tests.{eq-eqb, ne_eqb}
use Rattle.lists.specs.Tests.{pick}
use Rattle.lists.specs.Tables.{up_to}
use Rattle.lists.specs.Folds.{keep, joined, Every}
use Rattle.lists.specs.Parts.{over}
use Rattle.lists.proofs.TestLaws.{pick_yes, pick_no}
use Rattle.lists.proofs.FoldLaws.{every_append}
use Rattle.lists.proofs.AppendLaws.{map-append, joined-append, joined_length, over-more}
use Rattle.rule.specs.Entries.{match_size, line_size}
use Rattle.rule.specs.Filling.{Filled, all_lots}
use Rattle.rule.specs.Run.{Allocation, match_entry, lines_of, lines_from, match_list, line_list}
use Rattle.rule.proofs.RunLists.{match-sizes, length-match_list}
use Rattle.filling.specs.Match.{FilledAs}
use Rattle.filling.specs.declared.Filling.{Filling}
use Rattle.run_post.specs.Listed.{entry_cells, line_for, lines_to, lines_for, Listed}
use Rattle.run_match.specs.Filled.{lots_with}

-- ---- the definition's lists

matches-more : (done : List Allocation) (a : Allocation) → match_list (done ++ (a ∷ [])) ≡ match_list done ++ (match_entry a ∷ [])
unfolding match_list
matches-more done a = map-append match_entry done (a ∷ [])

from-append : (j : ℕ) (xs ys : List Allocation) → lines_from j (xs ++ ys) ≡ lines_from j xs ++ lines_from (j + length xs) ys
unfolding lines_from
from-append j [] ys = ap (λ (i : ℕ). lines_from i ys) (sym (add-zero j))
from-append j (x ∷ xs) ys =
    let e : suc j + length xs ≡ j + suc (length xs) = omega arith in
    ap (λ (l : List (List ℕ)). lines_of j x ++ l) (from-append (suc j) xs ys ∙ ap (λ (i : ℕ). lines_from (suc j) xs ++ lines_from i ys) e)
    ∙ sym (append_assoc (lines_of j x) (lines_from (suc j) xs) (lines_from (j + suc (length xs)) ys))

pub lines-append : (xs ys : List Allocation) → line_list (xs ++ ys) ≡ line_list xs ++ lines_from (length xs) ys
unfolding line_list
lines-append xs ys = let e : 0 + length xs ≡ length xs = omega arith in from-append 0 xs ys ∙ ap (λ (i : ℕ). lines_from 0 xs ++ lines_from i ys) e

lines-one : (j : ℕ) (a : Allocation) → lines_from j (a ∷ []) ≡ lines_of j a
unfolding lines_from
lines-one j a = append-nil (lines_of j a)

pub lines_more : (done : List Allocation) (a : Allocation) → line_list (done ++ (a ∷ [])) ≡ line_list done ++ lines_of (length done) a
lines_more done a = lines-append done (a ∷ []) ∙ ap (λ (l : List (List ℕ)). line_list done ++ l) (lines-one (length done) a)

lines-three : (j : ℕ) (a : Allocation) (is : List ℕ) → Every (λ r. length r ≡ line_size) (map (λ i. j ∷ i ∷ all_lots a.filled i ∷ []) is)
lines-three j a [] = tt
lines-three j a (i ∷ is) = (refl, lines-three j a is)

from-three : (j : ℕ) (done : List Allocation) → Every (λ r. length r ≡ line_size) (lines_from j done)
unfolding lines_from lines_of
from-three j [] = tt
from-three j (a ∷ done) =
    every_append (λ r. length r ≡ line_size) (lines_of j a) (lines_from (suc j) done)
    (lines-three j a (keep (λ i. ltb 0 (all_lots a.filled i)) (up_to (length a.filled.lots)))) (from-three (suc j) done)

pub match-cells : (done : List Allocation) → length (joined (match_list done)) ≡ match_size * length done
match-cells done = joined_length match_size (match_list done) (match-sizes done) ∙ ap (λ (n : ℕ). match_size * n) (length-match_list done)

pub line-cells : (done : List Allocation) → length (joined (line_list done)) ≡ line_size * length (line_list done)
unfolding line_list
line-cells done = joined_length line_size (line_list done) (from-three 0 done)

-- ---- the code's rows, where a match is filled as the definition says

module _ (F : Filled) (f : Filling) (lots : List ℕ) (w : FilledAs F f lots) where
  pub entry-is : (k d r amount : ℕ) → entry_cells k d r amount f ≡ k ∷ d ∷ r ∷ amount ∷ F.covered ∷ F.forced ∷ F.forced_lots ∷ []
  entry-is k d r amount = rw (w.covered, w.forced, w.forced_lots) refl

  module _ (inside : F.forced < length F.lots) where
    -- the forced issue's lots, the forced ones with them, and all lots with these
    abbrev forced-all : ℕ
    forced-all = get_or F.lots F.forced 0 + F.forced_lots

    abbrev with-forced : List ℕ
    with-forced = set F.lots F.forced forced-all

    -- "lots with forced ones"
    pub all-lots : (i : ℕ) → get_or (lots_with f lots) i 0 ≡ all_lots F i
    unfolding all_lots
    all-lots i = rw (w.lots_are, w.forced, w.forced_lots) (cases (ℕ_discrete i F.forced))
      where
        cases : Dec (i ≡ F.forced) → get_or with-forced i 0 ≡ get_or F.lots i 0 + pick (eqb i F.forced) F.forced_lots 0
        cases (yes e) =
            ap (λ (q : ℕ). get_or with-forced q 0) e
            ∙ get_or-set_same F.lots F.forced forced-all 0 inside
            ∙ ap₂ (λ (q x : ℕ). get_or F.lots q 0 + x) (sym e) (sym (pick_yes (eqb i F.forced) F.forced_lots 0 (eq-eqb i F.forced e)))
        cases (no e) =
            get_or-set_other F.lots F.forced i forced-all 0 e
            ∙ omega (arith, pick_no (eqb i F.forced) F.forced_lots 0 (ne_eqb i F.forced e))

    pub all-size : length (lots_with f lots) ≡ length F.lots
    all-size = length-set lots f.forced _ ∙ ap length w.lots_are

-- the issues that have lots, where these are given by issue, and the lines of issues
abbrev with-lots : (ℕ → ℕ) → List ℕ → List ℕ
with-lots f is = keep (λ i. ltb 0 (f i)) is

abbrev line-rows : ℕ → (ℕ → ℕ) → List ℕ → List (List ℕ)
line-rows number f is = map (λ i. number ∷ i ∷ f i ∷ []) is

lines-agree : (number : ℕ) (f g : ℕ → ℕ) → ((i : ℕ) → f i ≡ g i) → (is : List ℕ)
    → line-rows number f (with-lots f is) ≡ line-rows number g (with-lots g is)
lines-agree number f g h [] = refl
lines-agree number f g h (i ∷ is) =
    ap (λ (b : Bool). line-rows number f (pick b (i ∷ with-lots f is) (with-lots f is))) (ap (ltb 0) (h i))
    ∙ cases (ltb 0 (g i)) (lines-agree number f g h is)
  where
    cases : (b : Bool) → line-rows number f (with-lots f is) ≡ line-rows number g (with-lots g is)
        → line-rows number f (pick b (i ∷ with-lots f is) (with-lots f is))
        ≡ line-rows number g (pick b (i ∷ with-lots g is) (with-lots g is))
    cases true r = ap₂ (λ (q : ℕ) (l : List (List ℕ)). (number ∷ i ∷ q ∷ []) ∷ l) (h i) r
    cases false r = r

pub lines_are : (number : ℕ) (lots : List ℕ) (a : Allocation) → length lots ≡ length a.filled.lots → ((i : ℕ) → get_or lots i 0 ≡ all_lots a.filled i) → lines_for number lots ≡ lines_of number a
unfolding lines_for lines_to lines_of
lines_are number lots a e h =
    ap (λ (n : ℕ). map (line_for number lots) (keep (λ i. ltb 0 (get_or lots i 0)) (up_to n))) e
    ∙ lines-agree number (λ i. get_or lots i 0) (all_lots a.filled) h (up_to (length a.filled.lots))

-- ---- one match more, in the lent lists

pub entries-more : (m₀ matches matches' : List ℕ) (done : List Allocation) (a : Allocation) (n : ℕ) → matches ≡ over m₀ 0 (joined (match_list done)) → n ≡ length done
    → match_size * (length done + 1) ≤ length m₀ → matches' ≡ over matches (match_size * n) (match_entry a) → matches' ≡ over m₀ 0 (joined (match_list (done ++ (a ∷ []))))
entries-more m₀ matches matches' done a n e c room q =
    let x : List ℕ = joined (match_list done) in
    let place : match_size * n ≡ 0 + length x = omega (arith, match-cells done) in
    q ∙ ap₂ (λ (l : List ℕ) (i : ℕ). over l i (match_entry a)) e place
    ∙ over-more m₀ x (match_entry a) 0 (omega (arith, match-cells done))
    ∙ ap (over m₀ 0) (joined-one (match_list done) (match_entry a) ∙ ap joined (sym (matches-more done a)))
  where
    joined-one : (xs : List (List ℕ)) (r : List ℕ) → joined xs ++ r ≡ joined (xs ++ (r ∷ []))
    joined-one xs r = ap (λ (l : List ℕ). joined xs ++ l) (sym (append-nil r)) ∙ sym (joined-append xs (r ∷ []))

pub rows_more : (l₀ lines lines' : List ℕ) (done : List Allocation) (a : Allocation) (n q q' : ℕ) (lots : List ℕ)
    → lines ≡ over l₀ 0 (joined (line_list done)) → n ≡ length done → q ≡ length (line_list done)
    → line_size * length (line_list done) ≤ length l₀ → lines_for n lots ≡ lines_of n a → Listed lines lines' q n lots q'
    → (lines' ≡ over l₀ 0 (joined (line_list (done ++ (a ∷ []))))) × (q' ≡ length (line_list (done ++ (a ∷ []))))
rows_more l₀ lines lines' done a n q q' lots e c d room same w =
    let x : List ℕ = joined (line_list done) in
    let place : line_size * q ≡ 0 + length x = omega (arith, line-cells done) in
    let new : lines_for n lots ≡ lines_of (length done) a = same ∙ ap (λ (i : ℕ). lines_of i a) c in
    let whole : line_list (done ++ (a ∷ [])) ≡ line_list done ++ lines_for n lots = lines_more done a ∙ ap (λ (l : List (List ℕ)). line_list done ++ l) (sym new) in (
      w.cells ∙ ap₂ (λ (l : List ℕ) (i : ℕ). over l i (joined (lines_for n lots))) e place
          ∙ over-more l₀ x (joined (lines_for n lots)) 0 (omega (arith, line-cells done))
          ∙ ap (over l₀ 0) (sym (joined-append (line_list done) (lines_for n lots)) ∙ ap joined (sym whole)),
      w.counted ∙ omega (arith, ap length whole, length-append (line_list done) (lines_for n lots)),
    )
