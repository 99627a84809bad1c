-- Laws of the matches and lines that a run hands out: read back within the counts they are those of its allocations, and sums over them are
-- sums over these. Assumes nothing.
use mathlib.Core.Path.{◌≡◌, refl, sym, ap, ap₂, ◌∙◌}
use mathlib.Core.Logic.{◌≢◌}
use Prim.Native.Nat.{ℕ, zero, suc, ◌+◌, ◌-◌, ◌*◌, ◌≤◌, ◌<◌}
use native.Mathlib.Omega.{arith}
use mathlib.Core.Bool.{Bool, true, false, ◌&&◌}
use mathlib.Core.List.{List, [], ◌∷◌, map}
use lib.ListN.{length, get_or, take, get_or-map}
use lib.Dec.{eqb, ltb}
use borrow.Author.Tests.{ne_eqb}
use Rattle.lists.specs.Tests.{pick}
use Rattle.lists.specs.Tables.{up_to}
use Rattle.lists.specs.Folds.{total, keep, joined, Every}
use Rattle.lists.specs.Parts.{grid, over}
use Rattle.lists.proofs.TestLaws.{pick_no, pick-cases, and_no}
use Rattle.lists.proofs.FoldLaws.{total-cong, total-sum, total-zero, every_map}
use Rattle.rule.specs.Filling.{all_lots}
use Rattle.rule.specs.Run.{entry_of, Allocation, allocations, used, match_entry, match_list, line_list, covered_from, covered_to, lots_from}
use Rattle.rule.specs.Calls.{counts}
use Rattle.rule.specs.Entries.{MatchEntry, LineEntry, match_of, line_of, match_size, line_size}
use Rattle.rule.specs.History.{Event, matches_of, lines_of}
use Rattle.claims.specs.Claims.{no_match_entry, delivered_in, received_in, lots_by, forced_by}
use Rattle.rule.specs.Layout.{view, run_of}
use Rattle.rule.proofs.SumLaws.{eqb-flip, total-map, total-same, total-index, total-take, total-below, total_kept}
use Rattle.claims.proofs.JoinLaws.{joined-over}
use Rattle.rule.proofs.RunLists.{no_allocation, length-match_list, match-sizes, lots_if, lines-total, few_lines, line-sizes}
use Rattle.rule.proofs.RunLaws.{few-allocations}
use Rattle.rule.proofs.RunCallLaws.{RunLeaves}

pub entries : (done : List Allocation) → map match_of (match_list done) ≡ map entry_of done
unfolding match_list match_entry
entries [] = refl
entries (a ∷ done) = ap (λ (l : List MatchEntry). entry_of a ∷ l) (entries done)

matches-back : (done : List Allocation) (matches : List ℕ) (l : ℕ) → match_size * length done ≤ length matches
    → matches_of (counts (length done) l) (over matches 0 (joined (match_list done))) ≡ map entry_of done
unfolding matches_of
matches-back done matches l fit =
    ap (λ (k : ℕ). map match_of (grid (over matches 0 (joined (match_list done))) 0 match_size k match_size)) (sym (length-match_list done))
    ∙ ap (map match_of) (joined-over match_size matches (match_list done) (match-sizes done) (omega (arith, length-match_list done))) ∙ entries done

lines-back : (done : List Allocation) → Every (λ r. length r ≡ line_size) (line_list done) → (lines : List ℕ) (m : ℕ) → line_size * length (line_list done) ≤ length lines
    → lines_of (counts m (length (line_list done))) (over lines 0 (joined (line_list done))) ≡ map line_of (line_list done)
unfolding lines_of
lines-back done sizes lines m fit = ap (map line_of) (joined-over line_size lines (line_list done) sizes fit)

-- what an accepted run handed out
module _ (b draw matches lines : List ℕ) (m l : ℕ) (t : RunLeaves b draw matches lines m l) where
  pub matches-are : matches_of (counts m l) (run_of b draw matches lines).1.1 ≡ map entry_of (allocations (view b) draw)
  matches-are =
      ap₂ (λ (k : ℕ) (x : List ℕ). matches_of (counts k l) x) t.match_count t.matches_after
      ∙ matches-back (allocations (view b) draw) matches l (omega (arith, t.match_places, few-allocations (view b) draw t.runnable))

  pub lines_are : lines_of (counts m l) (run_of b draw matches lines).1.2 ≡ map line_of (line_list (allocations (view b) draw))
  lines_are =
      ap₂ (λ (k : ℕ) (x : List ℕ). lines_of (counts m k) x) t.line_count t.lines_after
      ∙ lines-back (allocations (view b) draw) (line-sizes (view b) draw t.runnable) lines m (omega (arith, t.line_places, few_lines (view b) draw t.runnable))

-- ---- an event that has the matches of a run's allocations

-- of one match: its deliverer's lots are those that count as used, and the forced ones
one-match : (d i deliverer forced lots forced_lots : ℕ)
    → pick (eqb deliverer d) (lots + pick (eqb i forced) forced_lots 0) 0 ≡ pick (eqb deliverer d) lots 0 + pick (eqb deliverer d && eqb forced i) forced_lots 0
one-match d i deliverer forced lots forced_lots = rw (eqb-flip i forced) (go (eqb deliverer d) (eqb forced i))
  where
    go : (a b : Bool) → pick a (lots + pick b forced_lots 0) 0 ≡ pick a lots 0 + pick (a && b) forced_lots 0
    go true b = refl
    go false b = refl

two-tests : (a b : Bool) (x : ℕ) → pick (a && b) x 0 ≡ pick a (pick b x 0) 0
two-tests true b x = refl
two-tests false b x = refl

three-tests : (a b c : Bool) (x : ℕ) → pick a (pick (b && c) x 0) 0 ≡ pick (a && b && c) x 0
three-tests true b c x = refl
three-tests false b c x = refl

-- a run's allocations as matches, and their lines
module _ (done : List Allocation) where
  abbrev forced_of : ℕ → ℕ → Allocation → ℕ
  forced_of d i a = pick (eqb a.match.deliverer d && eqb a.filled.forced i) a.filled.forced_lots 0

  of-matches : (f : MatchEntry → ℕ) (ms : List MatchEntry) → ms ≡ map entry_of done → total f ms ≡ total (λ a. f (entry_of a)) done
  of-matches f ms e = ap (total f) e ∙ total-map f entry_of done

  module _ (e : Event) (handed : e.matches ≡ map entry_of done) where
    pub delivered-is : (k p : ℕ) → delivered_in k p e ≡ covered_from done k p
    unfolding delivered_in covered_from
    delivered-is k p = of-matches (λ m. pick (eqb m.basket k && eqb m.deliverer p) m.covered 0) e.matches handed

    pub received_is : (k p : ℕ) → received_in k p e ≡ covered_to done k p
    unfolding received_in covered_to
    received_is k p = of-matches (λ m. pick (eqb m.basket k && eqb m.receiver p) m.covered 0) e.matches handed

  -- of somebody who delivers nothing
  pub no-lots-from : (d i : ℕ) → Every (λ a. a.match.deliverer ≢ d) done → lots_from done d i ≡ 0
  unfolding lots_from
  no-lots-from d i h =
      total-same (λ a. pick (eqb a.match.deliverer d) (all_lots a.filled i) 0) (λ a. 0) done
      (every_map (λ a. a.match.deliverer ≢ d) (λ a. pick (eqb a.match.deliverer d) (all_lots a.filled i) 0 ≡ 0)
      (λ a ne. pick_no (eqb a.match.deliverer d) (all_lots a.filled i) 0 (ne_eqb a.match.deliverer d ne)) done h)
      ∙ total-zero done

  module _ (ms : List MatchEntry) (handed : ms ≡ map entry_of done) where
    forced-is : (d i : ℕ) → forced_by d i ms ≡ total (forced_of d i) done
    unfolding forced_by
    forced-is d i = of-matches (λ m. pick (eqb m.deliverer d && eqb m.forced i) m.forced_lots 0) ms handed

    pub forced-none : Every (λ a. a.filled.forced_lots ≡ 0) done → (d i : ℕ) → forced_by d i ms ≡ 0
    forced-none h d i =
        forced-is d i
        ∙ total-same (forced_of d i) (λ a. 0) done (every_map (λ a. a.filled.forced_lots ≡ 0) (λ a. forced_of d i a ≡ 0)
        (λ a z. pick-cases (λ v. v ≡ 0) (eqb a.match.deliverer d && eqb a.filled.forced i) a.filled.forced_lots 0 (λ t. z) (λ t. refl)) done h)
        ∙ total-zero done

    -- of an issue that is nobody's forced one
    pub no-forced : (d i : ℕ) → Every (λ a. a.filled.forced ≢ i) done → forced_by d i ms ≡ 0
    no-forced d i h =
        forced-is d i
        ∙ total-same (forced_of d i) (λ a. 0) done (every_map (λ a. a.filled.forced ≢ i) (λ a. forced_of d i a ≡ 0)
        (λ a ne. rw (ne_eqb a.filled.forced i ne, and_no (eqb a.match.deliverer d))) done h)
        ∙ total-zero done

    -- of an issue that is in no line
    pub no-line-lots : (ls : List LineEntry) → ls ≡ map line_of (line_list done) → (d i : ℕ) → Every (λ l. get_or l 1 0 ≢ i) (line_list done) → lots_by d i ms ls ≡ 0
    unfolding lots_by
    no-line-lots ls listed d i h =
        let mine : LineEntry → ℕ = λ l. pick (eqb (get_or ms l.match no_match_entry).deliverer d && eqb l.issue i) l.lots 0 in
        ap (total mine) listed ∙ total-map mine line_of (line_list done)
        ∙ total-same (λ l. mine (line_of l)) (λ l. 0) (line_list done) (every_map (λ l. get_or l 1 0 ≢ i) (λ l. mine (line_of l) ≡ 0)
        (λ l ne. rw (ne_eqb (get_or l 1 0) i ne, and_no (eqb (get_or ms (get_or l 0 0) no_match_entry).deliverer d))) (line_list done) h)
        ∙ total-zero (line_list done)

    -- a deliverer's lots are those that it used, and the forced ones
    pub lots_are : (d i : ℕ) → lots_from done d i ≡ used done d i + forced_by d i ms
    unfolding lots_from used all_lots
    lots_are d i =
        let used_of : Allocation → ℕ = λ a. pick (eqb a.match.deliverer d) (get_or a.filled.lots i 0) 0 in
        total-cong (λ a. pick (eqb a.match.deliverer d) (all_lots a.filled i) 0) (λ a. used_of a + forced_of d i a)
        (λ a. one-match d i a.match.deliverer a.filled.forced (get_or a.filled.lots i 0) a.filled.forced_lots) done
        ∙ total-sum used_of (forced_of d i) done ∙ ap (λ (x : ℕ). used done d i + x) (sym (forced-is d i))

    -- the lines of a match are its deliverer's: of the matches whose numbers pass a test
    module _ (ls : List LineEntry) (listed : ls ≡ map line_of (line_list done)) (d i : ℕ) (inside : Every (λ a. i < length a.filled.lots) done) where
      abbrev mine : LineEntry → ℕ
      mine l = pick (eqb (get_or ms l.match no_match_entry).deliverer d && eqb l.issue i) l.lots 0

      abbrev lots_of : Allocation → ℕ
      lots_of a = pick (eqb a.match.deliverer d) (all_lots a.filled i) 0

      lots-tested : (t : ℕ → Bool) → total (λ l. pick (t l.match) (mine l) 0) ls ≡ total (λ q. pick (t q) (lots_of (get_or done q no_allocation)) 0) (up_to (length done))
      lots-tested t =
          let named : ℕ → Bool = λ q. eqb (get_or ms q no_match_entry).deliverer d in
          let lots : Bool → ℕ → ℕ = λ b q. pick b (all_lots (get_or done q no_allocation).filled i) 0 in
          let entry : (q : ℕ) → get_or ms q no_match_entry ≡ entry_of (get_or done q no_allocation) =
          λ q. ap (λ (l : List MatchEntry). get_or l q no_match_entry) handed ∙ get_or-map entry_of done q no_allocation in
          ap (total (λ l. pick (t l.match) (mine l) 0)) listed
          ∙ total-map (λ l. pick (t l.match) (mine l) 0) line_of (line_list done)
          ∙ total-cong (λ l. pick (t (get_or l 0 0)) (mine (line_of l)) 0) (lots_if (λ q. t q && named q) i)
          (λ l. three-tests (t (get_or l 0 0)) (named (get_or l 0 0)) (eqb (get_or l 1 0) i) (get_or l 2 0)) (line_list done)
          ∙ lines-total (λ q. t q && named q) i done inside
          ∙ total-cong (λ q. lots (t q && named q) q) (λ q. pick (t q) (lots_of (get_or done q no_allocation)) 0)
          (λ q. two-tests (t q) (named q) (all_lots (get_or done q no_allocation).filled i)
          ∙ ap (λ (m : MatchEntry). pick (t q) (lots (eqb m.deliverer d) q) 0) (entry q)) (up_to (length done))

      -- of all of them
      pub lots-by : lots_by d i ms ls ≡ lots_from done d i
      unfolding lots_by lots_from
      lots-by = lots-tested (λ q. true) ∙ sym (total-index lots_of no_allocation done)

      -- of those before match j
      lots-before : (j : ℕ) → j ≤ length done → lots_by d i ms (keep (λ l. ltb l.match j) ls) ≡ lots_from (take j done) d i
      unfolding lots_by lots_from
      lots-before j h =
          total_kept (λ l. ltb l.match j) mine ls ∙ lots-tested (λ q. ltb q j)
          ∙ total-below (λ q. lots_of (get_or done q no_allocation)) j (length done) h ∙ sym (total-take lots_of no_allocation done j h)

take-map : {A B : Type 0} (f : A → B) (j : ℕ) (xs : List A) → take j (map f xs) ≡ map f (take j xs)
take-map f zero xs = refl
take-map f (suc j) [] = refl
take-map {A} {B} f (suc j) (x ∷ xs) = ap (λ (l : List B). f x ∷ l) (take-map f j xs)

-- "Lots used earlier in the same run are gone; forced lots never count as used"
pub used-before : (done : List Allocation) (j d i : ℕ) → j ≤ length done → Every (λ a. i < length a.filled.lots) done
    → lots_by d i (map entry_of done) (keep (λ l. ltb l.match j) (map line_of (line_list done))) - forced_by d i (take j (map entry_of done)) ≡ used (take j done) d i
used-before done j d i h inside =
    omega (
      arith,
      lots-before done (map entry_of done) refl (map line_of (line_list done)) refl d i inside j h,
      lots_are (take j done) (take j (map entry_of done)) (take-map entry_of j done) d i,
    )
