-- The forced issue, chosen on the way down the issues. Assumes nothing.
use mathlib.Core.Path.{◌≡◌, refl, sym, ap, ap₂, subst, ◌∙◌}
use mathlib.Core.Logic.{◌⊎◌, inl, inr, ⊎_elim}
use Prim.Native.Nat.{ℕ, suc, ◌+◌, ◌-◌, ◌≤◌, ◌<◌, suc-le-suc}
use native.Mathlib.Nat.{le_refl, not-suc-le-zero}
use native.Mathlib.Decide.{ℕ_discrete}
use native.Mathlib.Omega.{arith}
use mathlib.Core.Bool.{Bool, true, false, ◌&&◌}
use mathlib.Core.List.{List, [], ◌∷◌, ◌++◌, map, append-nil, append_assoc}
use lib.ListN.{length, get_or, length-append, length-map, get_or-map}
use lib.Seq.{get_or-append-add}
use lib.Dec.{eqb, leb, ltb}
use borrow.Author.Tests.{eq-eqb, ne_eqb, lt-ltb, le-ltb, le-leb, lt-leb}
use Rattle.std.specs.Prelude.{Option, Some, None}
use Rattle.std.specs.Option.{option_or}
use Rattle.lists.specs.Tests.{pick, all_below}
use Rattle.lists.specs.Tables.{from, up_to}
use Rattle.lists.specs.Folds.{keep, Every}
use Rattle.lists.proofs.TestLaws.{pick_yes, pick_no, pick-elim, stop, go, and_no, all_of, all-stop}
use Rattle.lists.proofs.FoldLaws.{every_map, every-from, every-at, every_get, every-keep, keep-cong, keep-none}
use Rattle.rule.specs.Allocable.{Marks, no_marks}
use Rattle.rule.specs.Value.{Terms, no_terms}
use Rattle.rule.specs.Day.{terms_of, marks_of}
use Rattle.rule.specs.Filling.{eligible, or_else, most_notified, fifth_largest, forced_issue}
use Rattle.baskets.specs.Kinds.{KindsOf}
use Rattle.forced.specs.Choice.{noted, takes, is_eligible, ten_year, fifth_among, FirstOf, BestAt, BestOf, least_of, FifthAt, FifthOf}
use Rattle.forced.specs.declared.Best.{Best}
use Rattle.forced.specs.declared.Fifth.{Fifth}

-- ---- the most notified lots

module _ (n : ℕ → ℕ) {l : List ℕ} {most issue : ℕ} (h : BestAt n l most issue) (i : ℕ) where
  -- the issue met has none, or fewer
  best-stays : (n i ≡ 0) ⊎ (n i < most) → BestAt n (i ∷ l) most issue
  best-stays w = record { all = (⊎_elim (λ e. omega arith) (λ k. omega arith) w, h.all); some = λ s. further s (h.some s) }
    where
      further : 0 < most → FirstOf n l most issue → FirstOf n (i ∷ l) most issue
      further s f = record {
        place = suc f.place;
        inside = suc-le-suc f.inside;
        there = f.there;
        rest = f.rest;
        first = pick_no (eqb (n i) most) _ _ (ne_eqb (n i) most (⊎_elim (λ e q. omega arith) (λ k q. omega arith) w)) ∙ f.first;
      }

  -- whether it is eligible or not
  stays : (n i ≡ 0) ⊎ (n i < most) → (e : Bool) → BestAt n (pick e (i ∷ l) l) most issue
  stays w e = pick-elim (λ m. BestAt n m most issue) e (i ∷ l) l (best-stays w) h

  -- it has the most
  met : most ≤ n i → BestAt n (i ∷ l) (n i) i
  met k = record {
    all = (le_refl (n i), every_map (λ j. n j ≤ most) (λ j. n j ≤ n i) (λ j a. omega arith) l h.all);
    some = λ s. record {
      place = 0;
      inside = omega arith;
      there = refl;
      rest = keep (λ j. eqb (n j) (n i)) l;
      first = pick_yes (eqb (n i) (n i)) _ _ (eq-eqb (n i) (n i) refl);
    };
  }

module _ (n : ℕ → ℕ) (l : List ℕ) (i : ℕ) where
  pub best-kept : (b : Option Best) → BestOf n l b → n i < least_of b → (e : Bool) → BestOf n (pick e (i ∷ l) l) b
  best-kept None h k e = stays n h i (inl (omega arith)) e
  best-kept (Some b) h k e = (h.0, stays n h.1 i (inr k) e)

  pub best-met : (b : Option Best) → BestOf n l b → {most : ℕ} → least_of b ≤ most → most ≡ n i → (0 < most) × BestAt n (i ∷ l) most i
  best-met None h k e = rw e (omega arith, met n h i (omega arith))
  best-met (Some b) h k e = rw e (omega (arith, h.0), met n h.1 i (omega arith))

-- ---- the fifth largest

module _ {l : List ℕ} {met issue : ℕ} (h : FifthAt l met issue) (i : ℕ) where
  pub fifth-more : met < 5 → FifthAt (i ∷ l) (met + 1) i
  fifth-more k = record {
    met_is = omega (arith, h.met_is);
    issue_is = let z : suc (length l) - 5 ≡ 0 = omega (arith, h.met_is) in rw z refl;
  }

  pub fifth-stays : 5 ≤ met → FifthAt (i ∷ l) met issue
  fifth-stays k = record {
    met_is = omega (arith, h.met_is);
    issue_is = h.issue_is ∙ (let z : suc (length l) - 5 ≡ suc (length l - 5) = omega (arith, h.met_is) in rw z);
  }

-- ---- an issue met

-- the issues of kind 2, with one more in front
ten-more : (ts : List Terms) (l : List ℕ) (i : ℕ) → (get_or ts i no_terms).kind ≡ 2 → ten_year ts (i ∷ l) ≡ i ∷ ten_year ts l
ten-more ts l i e = pick_yes (eqb (get_or ts i no_terms).kind 2) _ _ (eq-eqb _ 2 e)

ten-other : (ts : List Terms) (l : List ℕ) (i : ℕ) → ((get_or ts i no_terms).kind ≡ 2 → ⊥) → ten_year ts (i ∷ l) ≡ ten_year ts l
ten-other ts l i e = pick_no (eqb (get_or ts i no_terms).kind 2) _ _ (ne_eqb _ 2 e)

-- ---- the choice

or_else_some : (a b : List ℕ) → 0 < length a → or_else a b ≡ a
or_else_some [] b h = absurd (not-suc-le-zero h)
or_else_some (x ∷ xs) b h = refl

no-entry : (a : List ℕ) → length a ≡ 0 → a ≡ []
no-entry [] e = refl
no-entry (x ∷ xs) e = absurd (omega arith)

-- the issue that a walk found
abbrev pub found : Option Fifth → ℕ
found None = 0
found (Some f) = f.issue

chosen : (ts : List Terms) (l : List ℕ) (ten any : Option Fifth) → FifthOf (ten_year ts l) ten → FifthOf l any → found (option_or ten any) ≡ fifth_among ts l
chosen ts l None None t a = rw (no-entry (ten_year ts l) (omega (arith, t.met_is))) a.issue_is
chosen ts l None (Some any) t a = rw (no-entry (ten_year ts l) (omega (arith, t.met_is))) a.1.issue_is
chosen ts l (Some ten) any t a = rw (or_else_some (ten_year ts l) l (omega (arith, t.0, t.1.met_is))) t.1.issue_is

module _ (notified l : List ℕ) {most issue : ℕ} (h : BestAt (λ i. get_or notified i 0) l most issue) where
  abbrev n : ℕ → ℕ
  n i = get_or notified i 0

  -- "with the deliverer's most notified lots", as the rule tests it
  abbrev has-most : ℕ → Bool
  has-most i = ltb 0 (n i) && all_below (length l) (λ j. leb (n (get_or l j 0)) (n i))

  has-most-is : 0 < most → (i : ℕ) → n i ≤ most → has-most i ≡ eqb (n i) most
  has-most-is s i k = decide (ℕ_discrete (n i) most)
    where
      decide : Dec (n i ≡ most) → has-most i ≡ eqb (n i) most
      decide (yes e) =
          rw (eq-eqb (n i) most e)
          (go _ _ (lt-ltb 0 (n i) (omega arith))
          (all_of (λ j. leb (n (get_or l j 0)) (n i)) (length l)
          (λ j b. le-leb (n (get_or l j 0)) (n i) (omega (arith, every-at (λ i. n i ≤ most) 0 l h.all j b)))))
      decide (no d) =
          let f = h.some s in
          rw (ne_eqb (n i) most d, all-stop (λ j. leb (n (get_or l j 0)) (n i)) (length l) f.place f.inside (lt-leb (n (get_or l f.place 0)) (n i) (omega (arith, f.there))))
          (and_no (ltb 0 (n i)))

  some-notified : 0 < most → (m : List ℕ) → get_or (or_else (most_notified notified l) m) 0 0 ≡ issue
  unfolding most_notified
  some-notified s m =
      let f = h.some s in
      let e : keep has-most l ≡ issue ∷ f.rest =
      keep-cong has-most (λ i. eqb (n i) most) l (every_map (λ i. n i ≤ most) (λ i. has-most i ≡ eqb (n i) most) (has-most-is s) l h.all) ∙ f.first in
      rw e

  none-notified : most ≤ 0 → most_notified notified l ≡ []
  unfolding most_notified
  none-notified none =
      keep-none has-most l (every_map (λ i. n i ≤ most) (λ i. has-most i ≡ false) (λ i k. stop _ _ (le-ltb 0 (n i) (omega arith))) l h.all)

module _ (k : ℕ) (ts : List Terms) (ms : List Marks) (notified : List ℕ) where
  pub forced-best : {b : Best} → BestOf (λ i. get_or notified i 0) (eligible k ts ms) (Some b) → b.issue ≡ forced_issue k ts ms notified
  unfolding forced_issue
  forced-best h = sym (some-notified notified (eligible k ts ms) h.1 h.0 _)

  pub forced-fifth : {r : ℕ} → BestOf (λ i. get_or notified i 0) (eligible k ts ms) None → r ≡ fifth_among ts (eligible k ts ms) → r ≡ forced_issue k ts ms notified
  unfolding forced_issue
  forced-fifth h e = rw (none-notified notified (eligible k ts ms) h (le_refl 0)) e

-- ---- down the issues

-- the unmarked issues of the basket from i on
abbrev pub lower : ℕ → List Terms → List Marks → ℕ → ℕ → List ℕ
lower k ts ms issues i = keep (is_eligible k ts ms) (from i (issues - i))

module _ (k : ℕ) (ts : List Terms) (ms : List Marks) (issues : ℕ) where
  lower-none : lower k ts ms issues issues ≡ []
  lower-none = let z : issues - issues ≡ 0 = omega arith in rw z

  lower-more : {i j : ℕ} → suc j ≡ i → j < issues → lower k ts ms issues j ≡ pick (is_eligible k ts ms j) (j ∷ lower k ts ms issues i) (lower k ts ms issues i)
  lower-more {i} {j} e h =
      let z : issues - j ≡ suc (issues - i) = omega arith in
      rw (z, e)

  lower-all : {i : ℕ} → length ts ≡ issues → i ≤ 0 → lower k ts ms issues i ≡ eligible k ts ms
  unfolding eligible
  lower-all {i} e h =
      let z : i ≡ 0 = omega arith in
      let w : issues - 0 ≡ length ts = omega arith in
      rw (z, w)

module _ (issues : List (List ℕ)) where
  abbrev ts : List Terms
  ts = map terms_of issues

  abbrev ms : List Marks
  ms = map marks_of issues

  its-marks : (i : ℕ) → get_or ms i no_marks ≡ marks_of (get_or issues i [])
  its-marks i = get_or-map marks_of issues i []

  its-terms : (i : ℕ) → get_or ts i no_terms ≡ terms_of (get_or issues i [])
  its-terms i = get_or-map terms_of issues i []

  kind-at : (i : ℕ) → (get_or ts i no_terms).kind ≡ get_or (get_or issues i []) 0 0
  kind-at i = ap (λ (t : Terms). t.kind) (its-terms i)

  -- what the call says of issue i
  abbrev Said : List Bool → ℕ → Bool → Type 0
  Said kinds i r = (k : ℕ) → KindsOf k kinds → r ≡ takes k (terms_of (get_or issues i [])) (marks_of (get_or issues i []))

  eligible-at : {k : ℕ} (i : ℕ) {kinds : List Bool} {r : Bool} → KindsOf k kinds → Said kinds i r → r ≡ is_eligible k ts ms i
  eligible-at {k} i q e = e k q ∙ ap₂ (takes k) (sym (its-terms i)) (sym (its-marks i))

  module _ (kinds : List Bool) where
    -- the best among the issues from i on
    pub record BestDown (notified : List ℕ) (i : ℕ) (b : Option Best) : Type 0 where
      pub best : (k : ℕ) → KindsOf k kinds → BestOf (noted notified) (lower k ts ms (length issues) i) b

    pub best-begin : {notified : List ℕ} → BestDown notified (length issues) None
    best-begin = record { best = λ k q. rw (lower-none k ts ms (length issues)) (record { all = tt; some = λ s. absurd (omega arith) }) }

    pub best-more : {notified : List ℕ} {i j : ℕ} {b r : Option Best} → suc j ≡ i → j < length issues → BestDown notified i b
        → ((k : ℕ) (n : ℕ → ℕ) (l : List ℕ) → KindsOf k kinds → get_or notified j 0 ≡ n j → BestOf n l b
        → BestOf n (pick (takes k (terms_of (get_or issues j [])) (marks_of (get_or issues j []))) (j ∷ l) l) r) → BestDown notified j r
    best-more {notified} {i} {j} {b} {r} e h d f = record {
      best = λ k q.
          let l : List ℕ = lower k ts ms (length issues) i in
          let said = f k (noted notified) l q refl (d.best k q) in
          subst (λ (m : List ℕ). BestOf (noted notified) m r)
          (ap (λ (y : Bool). pick y (j ∷ l) l) (ap₂ (takes k) (sym (its-terms j)) (sym (its-marks j))) ∙ sym (lower-more k ts ms (length issues) e h)) said;
    }

    pub best-all : {notified : List ℕ} {i : ℕ} {b : Option Best} → i ≤ 0 → BestDown notified i b → (k : ℕ) → KindsOf k kinds → BestOf (noted notified) (eligible k ts ms) b
    best-all {notified} {i} {b} h d k q = subst (λ (l : List ℕ). BestOf (noted notified) l b) (lower-all k ts ms (length issues) (length-map issues terms_of) h) (d.best k q)

    -- the fifth largest of kind 2, and of all, among the issues from i on
    pub record FifthDown (i : ℕ) (ten any : Option Fifth) : Type 0 where
      pub ten_of : (k : ℕ) → KindsOf k kinds → FifthOf (ten_year ts (lower k ts ms (length issues) i)) ten
      pub any_of : (k : ℕ) → KindsOf k kinds → FifthOf (lower k ts ms (length issues) i) any

    pub fifth-none : FifthDown (length issues) None None
    fifth-none = record {
      ten_of = λ k q. rw (lower-none k ts ms (length issues)) (record { met_is = refl; issue_is = refl });
      any_of = λ k q. rw (lower-none k ts ms (length issues)) (record { met_is = refl; issue_is = refl });
    }

    module _ {i j : ℕ} (next : suc j ≡ i) (h : j < length issues) {ten any : Option Fifth} (d : FifthDown i ten any) {r : Bool} (e : Said kinds j r) where
      more : r ≡ true → (k : ℕ) → KindsOf k kinds → j ∷ lower k ts ms (length issues) i ≡ lower k ts ms (length issues) j
      more y k q = sym (lower-more k ts ms (length issues) next h ∙ pick_yes (is_eligible k ts ms j) _ _ (sym (eligible-at j q e) ∙ y))

      same : r ≡ false → (k : ℕ) → KindsOf k kinds → lower k ts ms (length issues) i ≡ lower k ts ms (length issues) j
      same y k q = sym (lower-more k ts ms (length issues) next h ∙ pick_no (is_eligible k ts ms j) _ _ (sym (eligible-at j q e) ∙ y))

      -- an unmarked issue of the basket, of kind 2 or another
      pub fifth-ten : {ten' any' : Option Fifth} → r ≡ true → get_or (get_or issues j []) 0 0 ≡ 2 → ((l : List ℕ) → FifthOf l ten → FifthOf (j ∷ l) ten')
          → ((l : List ℕ) → FifthOf l any → FifthOf (j ∷ l) any') → FifthDown j ten' any'
      fifth-ten {ten'} {any'} y kind f g = record {
        ten_of = λ k q. subst (λ (l : List ℕ). FifthOf l ten') (sym (ten-more ts (lower k ts ms (length issues) i) j (kind-at j ∙ kind)) ∙ ap (ten_year ts) (more y k q)) (f _ (d.ten_of k q));
        any_of = λ k q. subst (λ (l : List ℕ). FifthOf l any') (more y k q) (g _ (d.any_of k q));
      }

      pub fifth-other : {any' : Option Fifth} → r ≡ true → (get_or (get_or issues j []) 0 0 ≡ 2 → ⊥) → ((l : List ℕ) → FifthOf l any → FifthOf (j ∷ l) any') → FifthDown j ten any'
      fifth-other {any'} y kind g = record {
        ten_of = λ k q. subst (λ (l : List ℕ). FifthOf l ten) (sym (ten-other ts (lower k ts ms (length issues) i) j (λ x. kind (sym (kind-at j) ∙ x))) ∙ ap (ten_year ts) (more y k q)) (d.ten_of k q);
        any_of = λ k q. subst (λ (l : List ℕ). FifthOf l any') (more y k q) (g _ (d.any_of k q));
      }

      pub fifth-passed : r ≡ false → FifthDown j ten any
      fifth-passed y = record {
        ten_of = λ k q. subst (λ (l : List ℕ). FifthOf (ten_year ts l) ten) (same y k q) (d.ten_of k q);
        any_of = λ k q. subst (λ (l : List ℕ). FifthOf l any) (same y k q) (d.any_of k q);
      }

    pub fifth-all : {i : ℕ} {ten any : Option Fifth} → i ≤ 0 → FifthDown i ten any → (k : ℕ) → KindsOf k kinds → found (option_or ten any) ≡ fifth_among ts (eligible k ts ms)
    fifth-all {i} {ten} {any} h d k q =
        let e = lower-all k ts ms (length issues) (length-map issues terms_of) h in
        chosen ts (eligible k ts ms) ten any (subst (λ (l : List ℕ). FifthOf (ten_year ts l) ten) e (d.ten_of k q)) (subst (λ (l : List ℕ). FifthOf l any) e (d.any_of k q))

    -- ---- going down the issues, the first ones are left

    pub record FifthLeft (rest : List (List ℕ)) (count : ℕ) (ten any : Option Fifth) : Type 0 where
      pub behind : List (List ℕ)
      pub parts : issues ≡ rest ++ behind
      pub first : count ≡ 0
      pub down : FifthDown (length rest) ten any

    pub left-begin : {rest : List (List ℕ)} {count : ℕ} → count ≡ 0 → rest ≡ issues → FifthLeft rest count None None
    left-begin z e = record {
      behind = [];
      parts = sym e ∙ sym (append-nil _);
      first = z;
      down = subst (λ (n : ℕ). FifthDown n None None) (sym (ap length e)) fifth-none;
    }

    module _ {rest : List (List ℕ)} {count count' i : ℕ} {ten any : Option Fifth} (w : FifthLeft rest count ten any) (rest' : List (List ℕ)) (x : List ℕ) (c : count' ≡ count)
        (s : rest ≡ rest' ++ (x ∷ [])) (n : i ≡ count + length rest') where
      place : i ≡ length rest' + 0
      place = omega (arith, n, w.first)

      here : issues ≡ rest' ++ (x ∷ w.behind)
      here = w.parts ∙ ap (λ (r : List (List ℕ)). r ++ w.behind) s ∙ append_assoc rest' (x ∷ []) w.behind

      pub left-next : suc i ≡ length rest
      left-next = omega (arith, place, ap length s, length-append rest' (x ∷ []))

      pub left-inside : i < length issues
      left-inside = omega (arith, place, ap length here, length-append rest' (x ∷ w.behind))

      left-item : get_or issues i [] ≡ x
      left-item = ap₂ (λ (l : List (List ℕ)) (k : ℕ). get_or l k []) here place ∙ get_or-append-add rest' (x ∷ w.behind) 0 []

      pub left-said : {r : Bool} → ((k : ℕ) → KindsOf k kinds → r ≡ takes k (terms_of x) (marks_of x)) → Said kinds i r
      left-said e k q = e k q ∙ ap (λ (y : List ℕ). takes k (terms_of y) (marks_of y)) (sym left-item)

      pub left-kind : get_or (get_or issues i []) 0 0 ≡ get_or x 0 0
      left-kind = ap (λ (y : List ℕ). get_or y 0 0) left-item

      pub left-more : {ten' any' : Option Fifth} → FifthDown i ten' any' → FifthLeft rest' count' ten' any'
      left-more {ten'} {any'} d = record {
        behind = x ∷ w.behind;
        parts = here;
        first = c ∙ w.first;
        down = subst (λ (k : ℕ). FifthDown k ten' any') (omega (arith, place)) d;
      }

-- ---- the forced issue is one of the day's

module _ (k : ℕ) (ts : List Terms) (ms : List Marks) (some : 0 < length ts) where
  abbrev inside : ℕ → Type 0
  inside i = i < length ts

  eligible-inside : Every inside (eligible k ts ms)
  unfolding eligible
  eligible-inside = every-keep inside (is_eligible k ts ms) (up_to (length ts)) (every-from inside 0 (length ts) (λ i a b. omega arith))

  either-inside : (a b : List ℕ) → Every inside a → Every inside b → Every inside (or_else a b)
  either-inside [] b p q = q
  either-inside (x ∷ xs) b p q = p

  fifth-inside : (l : List ℕ) → Every inside l → fifth_largest l < length ts
  fifth-inside l h = every_get inside 0 some l h (length l - 5)

  most-inside : (notified l : List ℕ) → Every inside l → Every inside (most_notified notified l)
  unfolding most_notified
  most-inside notified l h = every-keep inside _ l h

  pub forced-inside : (notified : List ℕ) → forced_issue k ts ms notified < length ts
  unfolding forced_issue
  forced-inside notified =
      let l : List ℕ = eligible k ts ms in
      let all = eligible-inside in
      let fifth = fifth-inside (or_else (ten_year ts l) l) (either-inside (ten_year ts l) l (every-keep inside _ l all) all) in
      every_get inside 0 some (or_else (most_notified notified l) (fifth_largest (or_else (ten_year ts l) l) ∷ []))
      (either-inside (most_notified notified l) (fifth_largest (or_else (ten_year ts l) l) ∷ []) (most-inside notified l all) (fifth, tt)) 0
