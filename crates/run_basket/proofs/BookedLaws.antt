-- Laws of the book in a run: how each match changes it, and what is left alone. Assumes nothing.
use mathlib.Core.Path.{◌≡◌, refl, sym, ap, ap₂, ◌∙◌, subst}
use mathlib.Core.Logic.{◌≢◌}
use mathlib.Core.Bool.{Bool, true, false, ◌&&◌}
use mathlib.Core.List.{List, [], ◌∷◌, ◌++◌}
use Prim.Native.Nat.{ℕ, ◌+◌, ◌-◌, ◌≤◌, ◌<◌, ◌%◌, min}
use native.Mathlib.Nat.{sub-zero, add-zero, mul-le-mul_left}
use native.Mathlib.Decide.{ℕ_discrete}
use native.Mathlib.Omega.{arith}
use lib.ListN.{length, get_or}
use lib.Dec.{ltb, eqb}
use borrow.Author.Tests.{eq-eqb, ne_eqb}
use Rattle.lists.specs.Tests.{pick}
use Rattle.lists.specs.Tables.{cell}
use Rattle.lists.specs.Folds.{total}
use Rattle.lists.proofs.TestLaws.{pick_yes, pick_no, go, stop, and_no}
use Rattle.lists.proofs.FoldLaws.{total-append}
use Rattle.rule.specs.Filling.{all_lots}
use Rattle.rule.specs.Day.{Day, baskets, mark}
use Rattle.rule.specs.Run.{Allocation, covered_from, covered_to, covered_pair, lots_from, lots_to}
use Rattle.rule.specs.Sound.{position_limit, tally_limit}
use Rattle.rule.specs.Layout.{view, signed, position_cell, lots_cell, tally_at, mark_cell, today_at, most_participants, most_issues}
use Rattle.rule.proofs.BookLaws.{SoundBook}
use Rattle.rule.proofs.LayoutLaws.{Shaped, Holds, view-shaped, view-signed, view-holds, signed-cell}
use Rattle.rule.proofs.RunLaws.{Runnable, Allocated, covered-from, covered-to}
use Rattle.rule.proofs.RunLots.{lots-from-most, lots-to-most}
use Rattle.run_post.specs.Booked.{MoveYenGives, LotsMoved}
use Rattle.layout.specs.InBook.{participants_in, issues_in}
use Rattle.run_basket.specs.Running.{out_of, back_to, BookedTo}
use Rattle.run_basket.proofs.DoneLaws.{Part, part-total}
use Rattle.signed.proofs.SignLaws.{tally-out, tally-back, owed-less, due-less, marked_more}

-- ---- a sum over the matches, with one more

module _ (t : Allocation → Bool) (f : Allocation → ℕ) (done : List Allocation) (a : Allocation) where
  more : total (λ a. pick (t a) (f a) 0) (done ++ (a ∷ [])) ≡ total (λ a. pick (t a) (f a) 0) done + pick (t a) (f a) 0
  more = total-append (λ a. pick (t a) (f a) 0) done (a ∷ []) ∙ omega arith

  pub more_yes : t a ≡ true → total (λ a. pick (t a) (f a) 0) (done ++ (a ∷ [])) ≡ total (λ a. pick (t a) (f a) 0) done + f a
  more_yes e = more ∙ ap (λ (x : ℕ). total (λ a. pick (t a) (f a) 0) done + x) (pick_yes (t a) (f a) 0 e)

  pub more_no : t a ≡ false → total (λ a. pick (t a) (f a) 0) (done ++ (a ∷ [])) ≡ total (λ a. pick (t a) (f a) 0) done
  more_no e = more ∙ ap (λ (x : ℕ). total (λ a. pick (t a) (f a) 0) done + x) (pick_no (t a) (f a) 0 e) ∙ add-zero _

-- two tests on numbers
both_yes : (a b c d : ℕ) → a ≡ c → b ≡ d → (eqb a c && eqb b d) ≡ true
both_yes a b c d e f = go (eqb a c) (eqb b d) (eq-eqb a c e) (eq-eqb b d f)

both-no : (a b c d : ℕ) → (a ≡ c → b ≢ d) → (eqb a c && eqb b d) ≡ false
both-no a b c d h = cases (ℕ_discrete a c)
  where
    cases : Dec (a ≡ c) → (eqb a c && eqb b d) ≡ false
    cases (yes e) = ap (λ (x : Bool). eqb a c && x) (ne_eqb b d (h e)) ∙ and_no (eqb a c)
    cases (no e) = stop (eqb a c) (eqb b d) (ne_eqb a c e)

three-no : (a b c d e f : ℕ) → (a ≡ d → b ≡ e → c ≢ f) → (eqb a d && eqb b e && eqb c f) ≡ false
three-no a b c d e f h = cases (ℕ_discrete a d) (ℕ_discrete b e)
  where
    cases : Dec (a ≡ d) → Dec (b ≡ e) → (eqb a d && eqb b e && eqb c f) ≡ false
    cases (yes p) (yes q) = ap (λ (x : Bool). eqb a d && eqb b e && x) (ne_eqb c f (h p q)) ∙ and_no (eqb a d && eqb b e)
    cases (yes p) (no q) = stop (eqb a d && eqb b e) (eqb c f) (both-no a b d e (λ x y. q y))
    cases (no p) q = stop (eqb a d && eqb b e) (eqb c f) (both-no a b d e (λ x y. p x))

three-yes : (a b c d e f : ℕ) → a ≡ d → b ≡ e → c ≡ f → (eqb a d && eqb b e && eqb c f) ≡ true
three-yes a b c d e f p q r = go (eqb a d && eqb b e) (eqb c f) (both_yes a b d e p q) (eq-eqb c f r)

-- matches of basket k, by participants, and what of them is covered
abbrev delivered-by : ℕ → ℕ → Allocation → Bool
delivered-by k p a = eqb a.basket k && eqb a.match.deliverer p

abbrev received-by : ℕ → ℕ → Allocation → Bool
received-by k p a = eqb a.basket k && eqb a.match.receiver p

abbrev between : ℕ → ℕ → ℕ → Allocation → Bool
between k d r a = eqb a.basket k && eqb a.match.deliverer d && eqb a.match.receiver r

abbrev covered : Allocation → ℕ
covered a = a.filled.covered

module _ (b : List ℕ) (s : SoundBook b) where
  abbrev y : Day
  y = view b

  abbrev n : ℕ
  n = participants_in b

  -- the positions, before any match
  abbrev owed : ℕ → ℕ → ℕ
  owed k p = cell y.state.owed k p

  abbrev due : ℕ → ℕ → ℕ
  due k p = cell y.state.due k p

  few : n ≤ most_participants
  few = s.sizes.few

  most : issues_in b ≤ most_issues
  most = s.sizes.most

  abbrev shape : Shaped (view b)
  shape = view-shaped b s.readable

  -- ---- before any match

  pub booked-none : BookedTo b [] b
  unfolding covered_from covered_to covered_pair lots_from lots_to view
  booked-none =
      let v : Holds b (view b) = view-holds b s.readable in
      record {
        size = s.readable.size;
        positions = λ k p l h.
            v.positions k p l h ∙ signed-cell y.state.owed y.state.due baskets n k p shape.owed l h ∙ ap₂ signed (sym (sub-zero _)) (sym (sub-zero _));
        marks = λ k d r l h i. v.today k l d r h i;
        tally = λ p i h l.
            v.tally p i h l ∙ signed-cell y.state.delivered y.state.received n (issues_in b) p i shape.delivered h l
            ∙ net (cell y.state.delivered p i) (cell y.state.received p i) ((view-signed b s.readable).tally p i h l).one;
        kept = λ j e. refl;
      }
    where
      net : (a c : ℕ) → min a c ≡ 0 → signed a c ≡ signed (a + 0 - (c + 0)) (c + 0 - (a + 0))
      net a c one =
          let e : a ≡ a + 0 - (c + 0) = omega arith in
          let f : c ≡ c + 0 - (a + 0) = omega arith in
          ap₂ signed e f

  -- ---- a match more

  module _ (draw : List ℕ) (h : Runnable (view b) draw) (done : List Allocation) (a : Allocation) (t : Part (view b) draw (done ++ (a ∷ []))) (z : Allocated (view b) a) where
    abbrev K : ℕ
    K = a.basket

    abbrev D : ℕ
    D = a.match.deliverer

    abbrev R : ℕ
    R = a.match.receiver

    abbrev x : ℕ
    x = a.filled.covered

    abbrev next : List Allocation
    next = done ++ (a ∷ [])

    deliverer : D < n
    unfolding view
    deliverer = z.deliverer

    receiver : R < n
    unfolding view
    receiver = z.receiver

    -- what is covered of a position, with this match, is within it
    from-within : (k p : ℕ) → k < baskets → covered_from next k p ≤ owed k p
    unfolding covered_from
    from-within k p l = omega (arith, part-total (view b) draw (λ a. pick (delivered-by k p a) (covered a) 0) t, covered-from (view b) draw h k p l)

    to-within : (k p : ℕ) → k < baskets → covered_to next k p ≤ due k p
    unfolding covered_to
    to-within k p l = omega (arith, part-total (view b) draw (λ a. pick (received-by k p a) (covered a) 0) t, covered-to (view b) draw h k p l)

    from-here : covered_from next K D ≡ covered_from done K D + x
    unfolding covered_from
    from-here = more_yes (delivered-by K D) covered done a (both_yes K D K D refl refl)

    from-else : (k p : ℕ) → (K ≡ k → D ≢ p) → covered_from next k p ≡ covered_from done k p
    unfolding covered_from
    from-else k p e = more_no (delivered-by k p) covered done a (both-no K D k p e)

    to-here : covered_to next K R ≡ covered_to done K R + x
    unfolding covered_to
    to-here = more_yes (received-by K R) covered done a (both_yes K R K R refl refl)

    to-else : (k p : ℕ) → (K ≡ k → R ≢ p) → covered_to next k p ≡ covered_to done k p
    unfolding covered_to
    to-else k p e = more_no (received-by k p) covered done a (both-no K R k p e)

    pair-here : covered_pair next K D R ≡ covered_pair done K D R + x
    unfolding covered_pair
    pair-here = more_yes (between K D R) covered done a (three-yes K D R K D R refl refl refl)

    pair-else : (k d r : ℕ) → (K ≡ k → D ≡ d → R ≢ r) → covered_pair next k d r ≡ covered_pair done k d r
    unfolding covered_pair
    pair-else k d r e = more_no (between k d r) covered done a (three-no K D R k d r e)

    -- lots, with this match
    out_within : (p i : ℕ) → p < n → i < issues_in b → out_of b next p i ≤ position_limit
    unfolding lots_from view
    out_within p i l k =
        omega (
          arith,
          part-total (view b) draw (λ a. pick (eqb a.match.deliverer p) (all_lots a.filled i) 0) t,
          lots-from-most (view b) draw h p i l k,
          s.day.tallies.delivered p i l k,
          mul-le-mul_left tally_limit s.day.limits.runs,
        )

    back-within : (p i : ℕ) → p < n → i < issues_in b → back_to b next p i ≤ position_limit
    unfolding lots_to view
    back-within p i l k =
        omega (
          arith,
          part-total (view b) draw (λ a. pick (eqb a.match.receiver p) (all_lots a.filled i) 0) t,
          lots-to-most (view b) draw h p i l k,
          s.day.tallies.received p i l k,
          mul-le-mul_left tally_limit s.day.limits.runs,
        )

    out-here : (i : ℕ) → lots_from next D i ≡ lots_from done D i + all_lots a.filled i
    unfolding lots_from
    out-here i = more_yes (λ a. eqb a.match.deliverer D) (λ a. all_lots a.filled i) done a (eq-eqb D D refl)

    out-else : (p i : ℕ) → D ≢ p → lots_from next p i ≡ lots_from done p i
    unfolding lots_from
    out-else p i e = more_no (λ a. eqb a.match.deliverer p) (λ a. all_lots a.filled i) done a (ne_eqb D p e)

    back-here : (i : ℕ) → lots_to next R i ≡ lots_to done R i + all_lots a.filled i
    unfolding lots_to
    back-here i = more_yes (λ a. eqb a.match.receiver R) (λ a. all_lots a.filled i) done a (eq-eqb R R refl)

    back-else : (p i : ℕ) → R ≢ p → lots_to next p i ≡ lots_to done p i
    unfolding lots_to
    back-else p i e = more_no (λ a. eqb a.match.receiver p) (λ a. all_lots a.filled i) done a (ne_eqb R p e)

    module _ (c c' c'' lots : List ℕ) (w : BookedTo b done c) (u : MoveYenGives c c' K D R x) (v : LotsMoved c' c'' D R lots) (size : length lots ≡ issues_in b)
        (same : (i : ℕ) → get_or lots i 0 ≡ all_lots a.filled i) where
      -- a place outside the tally's two rows
      lots-kept : (j : ℕ) → ((i : ℕ) → i < issues_in b → j ≢ lots_cell tally_at D i) → ((i : ℕ) → i < issues_in b → j ≢ lots_cell tally_at R i) → get_or c'' j 0 ≡ get_or c' j 0
      lots-kept j f g = v.kept j (λ i l. f i (omega arith)) (λ i l. g i (omega arith))

      -- a position and a mark are none of the tally's
      position-kept : (k p : ℕ) → k < baskets → p < n → get_or c'' (position_cell k p) 0 ≡ get_or c' (position_cell k p) 0
      position-kept k p l q = lots-kept (position_cell k p) (λ i m e. omega (arith, few)) (λ i m e. omega (arith, few))

      mark-kept : (k d r : ℕ) → k < baskets → d < n → r < n → get_or c'' (mark_cell today_at k d r) 0 ≡ get_or c' (mark_cell today_at k d r) 0
      mark-kept k d r l q m = lots-kept (mark_cell today_at k d r) (λ i _ e. omega (arith, few)) (λ i _ e. omega (arith, few))

      -- and a tally is no position and no mark
      tally-kept : (p i : ℕ) → p < n → i < issues_in b → get_or c' (lots_cell tally_at p i) 0 ≡ get_or c (lots_cell tally_at p i) 0
      tally-kept p i l m =
          u.kept (lots_cell tally_at p i)
          (λ e. omega (arith, few, z.basket, deliverer))
          (λ e. omega (arith, few, z.basket, receiver))
          (λ e. omega (arith, few, z.basket, deliverer, receiver))

      abbrev Position : ℕ → ℕ → Type 0
      Position k p = get_or c'' (position_cell k p) 0 ≡ signed (owed k p - covered_from next k p) (due k p - covered_to next k p)

      one : (k p : ℕ) → k < baskets → p < n → min (owed k p) (due k p) ≡ 0
      unfolding view
      one k p l q = ((view-signed b s.readable).positions k p l q).one

      owed-most : (k p : ℕ) → k < baskets → p < n → owed k p ≤ position_limit
      unfolding view
      owed-most k p l q = s.day.positions.owed k p l q

      due-most : (k p : ℕ) → k < baskets → p < n → due k p ≤ position_limit
      unfolding view
      due-most k p l q = s.day.positions.due k p l q

      of-deliverer : Position K D
      of-deliverer =
          let due-same : covered_to next K D ≡ covered_to done K D = to-else K D (λ e f. z.apart (sym f)) in
          position-kept K D z.basket deliverer ∙ u.from
          ∙ ap (λ (q : ℕ). (q + (18446744073709551616 - x)) % 18446744073709551616) (w.positions K D z.basket deliverer)
          ∙ owed-less (owed K D) (due K D) (covered_from done K D) (covered_to done K D) x
          (one K D z.basket deliverer) (owed-most K D z.basket deliverer) (due-most K D z.basket deliverer)
          (omega (arith, from-within K D z.basket, from-here)) (omega (arith, to-within K D z.basket, due-same))
          ∙ ap₂ (λ (p q : ℕ). signed (owed K D - p) (due K D - q)) (sym from-here) (sym due-same)

      of-receiver : Position K R
      of-receiver =
          let owed-same : covered_from next K R ≡ covered_from done K R = from-else K R (λ e f. z.apart f) in
          position-kept K R z.basket receiver ∙ u.to
          ∙ ap (λ (q : ℕ). (q + x) % 18446744073709551616) (w.positions K R z.basket receiver)
          ∙ due-less (owed K R) (due K R) (covered_from done K R) (covered_to done K R) x
          (one K R z.basket receiver) (owed-most K R z.basket receiver) (due-most K R z.basket receiver)
          (omega (arith, from-within K R z.basket, owed-same)) (omega (arith, to-within K R z.basket, to-here))
          ∙ ap₂ (λ (p q : ℕ). signed (owed K R - p) (due K R - q)) (sym owed-same) (sym to-here)

      position : (k p : ℕ) → k < baskets → p < n → Position k p
      position k p l q = cases (ℕ_discrete K k) (ℕ_discrete D p) (ℕ_discrete R p)
        where
          other : (K ≡ k → D ≢ p) → (K ≡ k → R ≢ p) → Position k p
          other f g =
              position-kept k p l q
              ∙ u.kept (position_cell k p)
              (λ e. f (omega (arith, few, deliverer)) (omega (arith, few, deliverer)))
              (λ e. g (omega (arith, few, receiver)) (omega (arith, few, receiver)))
              (λ e. omega (arith, few))
              ∙ w.positions k p l q
              ∙ ap₂ (λ (i j : ℕ). signed (owed k p - i) (due k p - j)) (sym (from-else k p f)) (sym (to-else k p g))

          cases : Dec (K ≡ k) → Dec (D ≡ p) → Dec (R ≡ p) → Position k p
          cases (yes e) (yes f) g = subst (λ (i : ℕ). Position i p) e (subst (λ (i : ℕ). Position K i) f of-deliverer)
          cases (yes e) (no f) (yes g) = subst (λ (i : ℕ). Position i p) e (subst (λ (i : ℕ). Position K i) g of-receiver)
          cases (yes e) (no f) (no g) = other (λ _. f) (λ _. g)
          cases (no e) f g = other (λ i. absurd (e i)) (λ i. absurd (e i))

      abbrev Mark : ℕ → ℕ → ℕ → Type 0
      Mark k d r = get_or c'' (mark_cell today_at k d r) 0 ≡ pick (ltb 0 (covered_pair next k d r)) 1 (mark y.state.today k d r)

      marks-here : Mark K D R
      marks-here =
          mark-kept K D R z.basket deliverer receiver ∙ u.pair ∙ ap (λ (q : ℕ). pick (ltb 0 x) 1 q) (w.marks K D R z.basket deliverer receiver)
          ∙ marked_more x (covered_pair done K D R) (mark y.state.today K D R)
          ∙ ap (λ (q : ℕ). pick (ltb 0 q) 1 (mark y.state.today K D R)) (sym pair-here)

      marks : (k d r : ℕ) → k < baskets → d < n → r < n → Mark k d r
      marks k d r l p q = cases (ℕ_discrete K k) (ℕ_discrete D d) (ℕ_discrete R r)
        where
          other : (K ≡ k → D ≡ d → R ≢ r) → Mark k d r
          other f =
              mark-kept k d r l p q
              ∙ u.kept (mark_cell today_at k d r) (λ e. omega (arith, few, z.basket, deliverer)) (λ e. omega (arith, few, z.basket, receiver))
              (λ e. f (omega (arith, few, deliverer, receiver)) (omega (arith, few, deliverer, receiver)) (omega (arith, few, deliverer, receiver)))
              ∙ w.marks k d r l p q
              ∙ ap (λ (i : ℕ). pick (ltb 0 i) 1 (mark y.state.today k d r)) (sym (pair-else k d r f))

          cases : Dec (K ≡ k) → Dec (D ≡ d) → Dec (R ≡ r) → Mark k d r
          cases (yes e) (yes f) (yes g) = subst (λ (i : ℕ). Mark i d r) e (subst (λ (i : ℕ). Mark K i r) f (subst (λ (i : ℕ). Mark K D i) g marks-here))
          cases (yes e) (yes f) (no g) = other (λ _ _. g)
          cases (yes e) (no f) g = other (λ _ i. absurd (f i))
          cases (no e) f g = other (λ i. absurd (e i))

      abbrev Tally : ℕ → ℕ → Type 0
      Tally p i = get_or c'' (lots_cell tally_at p i) 0 ≡ signed (out_of b next p i - back_to b next p i) (back_to b next p i - out_of b next p i)

      -- the two rows are apart
      tally-out-of : (i : ℕ) → i < issues_in b → Tally D i
      tally-out-of i l =
          let moved : ℕ = all_lots a.filled i in
          let back-same : lots_to next D i ≡ lots_to done D i = back-else D i (λ e. z.apart (sym e)) in
          let out-fits : out_of b done D i + moved ≤ position_limit = omega (arith, out_within D i deliverer l, out-here i) in
          let back-fits : back_to b done D i ≤ position_limit = omega (arith, back-within D i deliverer l, back-same) in
          v.delivered i (omega arith)
          ∙ ap₂ (λ (p q : ℕ). (p + q) % 18446744073709551616) (tally-kept D i deliverer l ∙ w.tally D i deliverer l) (same i)
          ∙ tally-out (out_of b done D i) (back_to b done D i) moved out-fits back-fits
          ∙ ap₂ (λ (p q : ℕ). signed (p - q) (q - p)) (omega (arith, out-here i)) (omega (arith, back-same))

      tally-back-to : (i : ℕ) → i < issues_in b → Tally R i
      tally-back-to i l =
          let moved : ℕ = all_lots a.filled i in
          let out-same : lots_from next R i ≡ lots_from done R i = out-else R i z.apart in
          let out-fits : out_of b done R i ≤ position_limit = omega (arith, out_within R i receiver l, out-same) in
          let back-fits : back_to b done R i + moved ≤ position_limit = omega (arith, back-within R i receiver l, back-here i) in
          v.received i (omega arith)
          ∙ ap₂ (λ (p q : ℕ). (p + (18446744073709551616 - q)) % 18446744073709551616) (tally-kept R i receiver l ∙ w.tally R i receiver l) (same i)
          ∙ tally-back (out_of b done R i) (back_to b done R i) moved out-fits back-fits
          ∙ ap₂ (λ (p q : ℕ). signed (p - q) (q - p)) (omega (arith, out-same)) (omega (arith, back-here i))

      tally : (p i : ℕ) → p < n → i < issues_in b → Tally p i
      tally p i l k = cases (ℕ_discrete D p) (ℕ_discrete R p)
        where
          cases : Dec (D ≡ p) → Dec (R ≡ p) → Tally p i
          cases (yes e) f = subst (λ (q : ℕ). Tally q i) e (tally-out-of i k)
          cases (no e) (yes f) = subst (λ (q : ℕ). Tally q i) f (tally-back-to i k)
          cases (no e) (no f) =
              lots-kept (lots_cell tally_at p i) (λ j m q. e (omega (arith, most))) (λ j m q. f (omega (arith, most)))
              ∙ tally-kept p i l k ∙ w.tally p i l k
              ∙ ap₂ (λ (p q : ℕ). signed (p - q) (q - p)) (omega (arith, out-else p i e)) (omega (arith, back-else p i f))

      pub booked-more : BookedTo b next c''
      booked-more = record {
        size = v.size ∙ u.size ∙ w.size;
        positions = position;
        marks = marks;
        tally = tally;
        kept = λ j e.
            lots-kept j (λ i l. e.tally D i deliverer l) (λ i l. e.tally R i receiver l)
            ∙ u.kept j (e.positions K D z.basket deliverer) (e.positions K R z.basket receiver) (e.marks K D R z.basket deliverer receiver)
            ∙ w.kept j e;
      }
