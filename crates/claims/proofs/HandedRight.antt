-- Demand 2 of an accepted run: what its matches and lines show. Assumes nothing.
use mathlib.Core.Path.{◌≡◌, refl, sym, ap, ap₂, ◌∙◌, subst}
use mathlib.Core.Logic.{◌⊎◌, inl, inr}
use Prim.Native.Nat.{ℕ, zero, suc, ◌+◌, ◌-◌, ◌≤◌, ◌<◌}
use native.Mathlib.Nat.{not-suc-le-zero, le_of_suc-le-suc}
use native.Mathlib.Decide.{dec_lt}
use native.Mathlib.Omega.{arith}
use mathlib.Core.Bool.{◌&&◌}
use mathlib.Core.List.{List, [], ◌∷◌, map}
use lib.ListN.{length, get_or, set, take, get_or-map}
use lib.Dec.{eqb}
use borrow.Author.Tests.{eq-eqb, ne_eqb}
use Rattle.lists.specs.Tests.{pick}
use Rattle.lists.specs.Tables.{table}
use Rattle.lists.proofs.TestLaws.{pick_yes, pick_no, stop, and_no}
use Rattle.lists.proofs.FoldLaws.{total-zero, every_map}
use Rattle.lists.proofs.TableLaws.{get_or-table}
use Rattle.lists.proofs.PartLaws.{table-agree}
use Rattle.rule.specs.Allocable.{no_marks}
use Rattle.rule.specs.Value.{Terms, no_terms}
use Rattle.rule.specs.Baskets.{within}
use Rattle.rule.specs.Filling.{Filled, worth, all_lots, match_lots}
use Rattle.rule.specs.Day.{Day}
use Rattle.rule.specs.Run.{entry_of, Allocation, used, allocable_of, allocations, line_list}
use Rattle.rule.specs.Entries.{MatchEntry, LineEntry, line_of}
use Rattle.claims.specs.Claims.{no_match_entry, no_line_entry, lots_in, used_before, usable_in, MatchHolds, RunHolds}
use Rattle.lists.proofs.FoldLaws.{every-at}
use Rattle.rule.proofs.SumLaws.{total-map, total-same}
use Rattle.rule.proofs.FilledLaws.{covered-all, Fewest}
use Rattle.rule.proofs.RunLaws.{Runnable, Allocated, allocated, few-allocations, matched-from, matched_to}
use Rattle.rule.proofs.RunLists.{no_allocation, Ordered, LineBefore, lines-ordered, lots_if, Line, few_lines, line-right, line-lots, all-issues}
use Rattle.claims.proofs.UsableLaws.{Fills, Forced, usable_after, run-fills}
use Rattle.claims.proofs.HandedLaws.{used-before}
use Rattle.claims.proofs.ClaimLaws.{quantity-is, covered-short}

-- a read that is not past the end does not depend on what one gives
get_d_any : {A : Type 0} (xs : List A) (i : ℕ) (c d : A) → i < length xs → get_or xs i c ≡ get_or xs i d
get_d_any [] i c d l = absurd (not-suc-le-zero l)
get_d_any (x ∷ xs) zero c d l = refl
get_d_any (x ∷ xs) (suc i) c d l = get_d_any xs i c d (le_of_suc-le-suc l)

ordered-next : {A : Type 0} (R : A → A → Type 0) (d : A) (xs : List A) → Ordered R xs → (q : ℕ) → suc q < length xs → R (get_or xs q d) (get_or xs (suc q) d)
ordered-next R d [] h q l = absurd (not-suc-le-zero l)
ordered-next R d (x ∷ xs) h zero l = every-at (R x) d xs h.0 0 (le_of_suc-le-suc l)
ordered-next R d (x ∷ xs) h (suc q) l = ordered-next R d xs h.1 q (le_of_suc-le-suc l)

-- one match, by what it may use
match-holds : (y : Day) (a : Allocation) (u : List ℕ) → length y.given.terms ≡ y.given.issues → y.state.runs < 3 → Allocated y a → Fills y u a
    → MatchHolds y (entry_of a) u (table y.given.issues (all_lots a.filled)) a.filled.last
unfolding match_lots all_lots
match-holds y a u e few r f =
    let m : Filled = a.filled in
    let n : ℕ = y.given.issues in
    let ts : List Terms = y.given.terms in
    let same : table (length m.lots) (all_lots m) ≡ table n (all_lots m) = ap (λ (k : ℕ). table k (all_lots m)) r.issues in
    let at : (i : ℕ) → i < n → get_or (table n (all_lots m)) i 0 ≡ get_or m.lots i 0 + pick (eqb i m.forced) m.forced_lots 0 = λ i l. get_or-table n (all_lots m) i 0 l in
    record {
      basket = r.basket;
      deliverer = r.deliverer;
      receiver = r.receiver;
      apart = r.apart;
      some = r.positive;
      enough = λ h. enough h (dec_lt y.state.runs 2);
      short = λ early h. rw (f.short early) (covered-short a.match.amount (worth ts u));
      third = r.third;
      reached = subst (λ (l : List ℕ). m.covered ≤ worth ts l) same r.enough;
      needed = λ some.
          let g : Fewest ts m = r.fewest some in
          let last : get_or (table n (all_lots m)) m.last 0 ≡ all_lots m m.last = get_or-table n (all_lots m) m.last 0 (omega (arith, g.within)) in (
            omega (arith, last, g.some),
            subst (λ (x : ℕ). worth ts (set (table n (all_lots m)) m.last (x - 1)) < m.covered) (sym last)
                (subst (λ (l : List ℕ). worth ts (set l m.last (all_lots m m.last - 1)) < m.covered) same g.short),
          );
      used = λ i l. omega (arith, at i l, f.bounded i);
      forced = omega (arith, at m.forced r.forced, pick_yes (eqb m.forced m.forced) m.forced_lots 0 (eq-eqb m.forced m.forced refl));
      forced_only = λ some.
          let g : Forced ts u a.match.amount y.state.runs m = f.forced some in
          (omega (arith, g.third), g.short, λ i l. omega (arith, at i l, ap (λ (x : List ℕ). get_or x i 0) g.all));
    }
  where
    enough : a.match.amount ≤ worth y.given.terms u → Dec (y.state.runs < 2) → a.filled.covered ≡ a.match.amount
    enough h (yes early) = f.short early ∙ covered-all a.match.amount (worth y.given.terms u) h
    enough h (no late) = r.third (omega arith)

module _ (y : Day) (draw : List ℕ) (h : Runnable y draw) where
  abbrev done : List Allocation
  done = allocations y draw

  abbrev matches : List MatchEntry
  matches = map entry_of (allocations y draw)

  abbrev lines : List LineEntry
  lines = map line_of (line_list (allocations y draw))

  abbrev at : ℕ → Allocation
  at j = get_or (allocations y draw) j no_allocation

  right-at : (j : ℕ) → j < length done → Allocated y (at j)
  right-at j l = every-at (Allocated y) no_allocation done (allocated y draw h) j l

  match-at : (j : ℕ) → get_or matches j no_match_entry ≡ entry_of (at j)
  match-at j = get_or-map entry_of done j no_allocation

  line_at : (q : ℕ) → get_or lines q no_line_entry ≡ line_of (get_or (line_list done) q [])
  line_at q = get_or-map line_of (line_list done) q []

  right-line : (q : ℕ) → q < length (line_list done) → Line y done (get_or (line_list done) q [])
  right-line q l = every-at (Line y done) [] (line_list done) (line-right y draw h) q l

  lots-in : (j i : ℕ) → j < length done → i < y.given.issues → lots_in lines j i ≡ all_lots (at j).filled i
  unfolding lots_in
  lots-in j i l k = total-map (λ x. pick (eqb x.match j && eqb x.issue i) x.lots 0) line_of (line_list done) ∙ line-lots y draw h j i l k

  -- no line has another match or issue
  lots-out : (j i : ℕ) → (length done ≤ j) ⊎ (y.given.issues ≤ i) → lots_in lines j i ≡ 0
  unfolding lots_in
  lots-out j i out =
      total-map (λ x. pick (eqb x.match j && eqb x.issue i) x.lots 0) line_of (line_list done)
      ∙ total-same (lots_if (λ q. eqb q j) i) (λ l. 0) (line_list done) (every_map (Line y done) (λ l. lots_if (λ q. eqb q j) i l ≡ 0) (λ l r. none l r out) (line_list done) (line-right y draw h))
      ∙ total-zero (line_list done)
    where
      none : (l : List ℕ) → Line y done l → (length done ≤ j) ⊎ (y.given.issues ≤ i) → pick (eqb (get_or l 0 0) j && eqb (get_or l 1 0) i) (get_or l 2 0) 0 ≡ 0
      none l r (inl k) = pick_no _ (get_or l 2 0) 0 (stop (eqb (get_or l 0 0) j) _ (ne_eqb (get_or l 0 0) j (λ e. omega (arith, r.number))))
      none l r (inr k) = rw (ne_eqb (get_or l 1 0) i (λ e. omega (arith, r.issue)), and_no (eqb (get_or l 0 0) j))

  -- match j's lots of every issue
  match-lots : (j : ℕ) → j < length done → table y.given.issues (lots_in lines j) ≡ table y.given.issues (all_lots (at j).filled)
  match-lots j l = table-agree y.given.issues (lots_in lines j) (all_lots (at j).filled) (λ i k. lots-in j i l k)

  -- what match j may use
  match-usable : (j : ℕ) → j < length done → usable_in y matches lines j ≡ usable_after y (take j done) (at j).basket (at j).match.deliverer
  unfolding usable_in used_before allocable_of
  match-usable j l =
      rw (match-at j)
      (table-agree y.given.issues _ (λ i. pick (within (at j).basket (get_or y.given.terms i no_terms)) (allocable_of y (at j).match.deliverer i - used (take j done) (at j).match.deliverer i) 0)
      (λ i k. ap₂ (λ (q x : ℕ). pick (within (at j).basket (get_or y.given.terms i no_terms)) (q - x) 0)
      (quantity-is y.state.runs (get_or y.given.marks i no_marks) _ _)
      (used-before done j (at j).match.deliverer i (omega arith) (all-issues y draw h i k))))

  match-right : (j : ℕ) (a : Allocation) → j < length done
      → MatchHolds y (get_or matches j no_match_entry) (usable_in y matches lines j) (table y.given.issues (lots_in lines j)) (get_or done j a).filled.last
  match-right j a l =
      rw (match-lots j l, match-usable j l, match-at j, get_d_any done j a no_allocation l)
      (match-holds y (at j) (usable_after y (take j done) (at j).basket (at j).match.deliverer) h.shaped.given.terms h.runs (right-at j l) (run-fills y draw h j no_allocation l))

  match_none : (i j : ℕ) → (get_or matches j no_match_entry).covered ≡ 0 → lots_in lines j i ≡ 0
  match_none i j z = cases (dec_lt j (length done)) (dec_lt i y.given.issues)
    where
      cases : Dec (j < length done) → Dec (i < y.given.issues) → lots_in lines j i ≡ 0
      cases (yes l) (yes k) = lots-in j i l k ∙ (right-at j l).none (sym (ap (λ (x : MatchEntry). x.covered) (match-at j)) ∙ z) i
      cases (yes l) (no k) = lots-out j i (inr (omega arith))
      cases (no l) k = lots-out j i (inl (omega arith))

  pub handed-right : let made : List Allocation = allocations y draw in
      RunHolds y made (length made) (map entry_of made) (length (line_list made)) (map line_of (line_list made))
  handed-right = record {
    match_count = refl;
    line_count = refl;
    few_matches = few-allocations y draw h;
    few_lines = few_lines y draw h;
    each = match-right;
    owed = λ k p l q. total-map (λ x. pick (eqb x.basket k && eqb x.deliverer p) x.matched 0) entry_of done ∙ matched-from y draw h k p l;
    due = λ k p l q. total-map (λ x. pick (eqb x.basket k && eqb x.receiver p) x.matched 0) entry_of done ∙ matched_to y draw h k p l;
    no_line = match_none;
    of_match = λ q l. rw (line_at q) (right-line q l).number;
    of_day = λ q l. rw (line_at q) (right-line q l).issue;
    some = λ q l. rw (line_at q) (right-line q l).some;
    rise = λ q l. rw (line_at q, line_at (suc q)) (ordered-next LineBefore [] (line_list done) (lines-ordered done) q l);
  }
