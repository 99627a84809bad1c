-- Yesterday's pairs: a deliverer's, one receiver after the other, and all of them. Assumes nothing.
use mathlib.Core.Path.{◌≡◌, refl, sym, ap, ◌∙◌, subst}
use mathlib.Core.Bool.{true}
use mathlib.Core.List.{List, [], ◌∷◌, ◌++◌, map}
use Prim.Native.Nat.{ℕ, suc, ◌+◌, ◌-◌, ◌*◌, ◌≤◌, ◌<◌}
use native.Mathlib.Omega.{arith}
use lib.ListN.{length, get_or}
use lib.Dec.{eqb}
use borrow.Author.Tests.{eq-eqb, ne_eqb}
use Rattle.lists.specs.Tables.{from, up_to}
use Rattle.lists.specs.Folds.{foldl, keep, joined}
use Rattle.lists.proofs.TestLaws.{pick_yes, pick_no}
use Rattle.lists.proofs.FoldLaws.{every-keep}
use Rattle.lists.proofs.AppendLaws.{keep_append}
use Rattle.lists.proofs.PartLaws.{grid-get}
use Rattle.rule.specs.Layout.{most_participants}
use Rattle.rule.specs.Matching.{meet, with, pairs_of, preferred, preferential}
use Rattle.rule.specs.Matching as rule
use Rattle.matching.specs.declared.Left.{Left}
use Rattle.matching.specs.Plans.{left_of, SameBuffers, Room, MeetAsks, pair_marks, is_pair, meet_pairs, Sizes, MeetPairsOfAsks, MeetPreferentialAsks}
use Rattle.matching.proofs.ListLaws.{from_first, with_all}
use Rattle.matching.proofs.MeetLaws.{meets-none, meets-on, meets-room}

pub same_still : {s t u : Left} → SameBuffers s t → SameBuffers t u → SameBuffers s u
same_still a b = record {
  owed = b.owed ∙ a.owed;
  due = b.due ∙ a.due;
  made = b.made ∙ a.made;
  owed_size = b.owed_size ∙ a.owed_size;
  due_size = b.due_size ∙ a.due_size;
}

sizes-stay : {marks : List ℕ} {s t : Left} → Sizes marks s.owed.now s.due.now → SameBuffers s t → Sizes marks t.owed.now t.due.now
sizes-stay z b = record {
  same = omega (arith, z.same, b.owed_size, b.due_size);
  few = omega (arith, z.few, b.owed_size);
  marked = omega (arith, z.marked, b.owed_size);
}

-- ---- deliverer d and each receiver by number

-- the receivers of its pairs from r on, of n participants
abbrev to_meet : List ℕ → ℕ → ℕ → ℕ → List (ℕ × ℕ)
to_meet marks n d r = keep (is_pair marks n) (with (from r (n - r)) d)

is-mark : (marks : List ℕ) (n d r : ℕ) → d < n → r < n → is_pair marks n (d, r) ≡ eqb (get_or marks (most_participants * d + r) 0) 1
is-mark marks n d r h k =
    let e : 0 + most_participants * d + r ≡ most_participants * d + r = omega arith in
    ap (λ (v : ℕ). eqb v 1) (rw e at (grid-get marks 0 most_participants n n d r h k))

-- those left to meet lead to the whole
pub record Row (marks : List ℕ) (d : ℕ) (s₀ s : Left) (r : ℕ) : Type 0 where
  pub same : SameBuffers s₀ s
  pub leads : foldl (meet true) (left_of s) (to_meet marks (length s₀.owed.now) d r) ≡ meet_pairs marks (left_of s₀) (with (up_to (length s₀.owed.now)) d)

pub row-begin : (marks : List ℕ) (d : ℕ) (s : Left) → Row marks d s s 0
row-begin marks d s = record {
  same = record { owed = refl; due = refl; made = refl; owed_size = refl; due_size = refl };
  leads = let e : length s.owed.now - 0 ≡ length s.owed.now = omega arith in rw e;
}

module _ {marks : List ℕ} {d : ℕ} {s₀ s : Left} {r : ℕ} (p : MeetPairsOfAsks marks s₀ d) (w : Row marks d s₀ s r) where
  abbrev n : ℕ
  n = length s₀.owed.now

  abbrev whole : rule.Left
  whole = meet_pairs marks (left_of s₀) (with (up_to n) d)

  module _ (h : r < n) where
    -- the next is of a pair
    next-pair : get_or marks (most_participants * d + r) 0 ≡ 1 → to_meet marks n d r ≡ ((d, r) ∷ []) ++ to_meet marks n d (r + 1)
    next-pair m = rw (from_first r n h) (pick_yes _ _ _ (is-mark marks n d r p.deliverer h ∙ eq-eqb _ 1 m))

    next-none : (get_or marks (most_participants * d + r) 0 ≡ 1 → ⊥) → to_meet marks n d r ≡ to_meet marks n d (r + 1)
    next-none m = rw (from_first r n h) (pick_no _ _ _ (is-mark marks n d r p.deliverer h ∙ ne_eqb _ 1 m))

    leads-pair : get_or marks (most_participants * d + r) 0 ≡ 1 → foldl (meet true) (left_of s) (((d, r) ∷ []) ++ to_meet marks n d (r + 1)) ≡ whole
    leads-pair m = ap (foldl (meet true) (left_of s)) (sym (next-pair m)) ∙ w.leads

    pub row-asks : get_or marks (most_participants * d + r) 0 ≡ 1 → MeetAsks true s d r
    row-asks m = record {
      deliverer = omega (arith, p.deliverer, w.same.owed_size);
      receiver = omega (arith, p.sizes.same, w.same.due_size);
      room = meets-room true (left_of s) whole ((d, r) ∷ []) (to_meet marks n d (r + 1)) (leads-pair m) p.room;
    }

    pub row-met : {t : Left} → get_or marks (most_participants * d + r) 0 ≡ 1 → left_of t ≡ meet true (left_of s) (d, r) → SameBuffers s t → Row marks d s₀ t (r + 1)
    row-met m e b = record {
      same = same_still w.same b;
      leads = ap (λ (u : rule.Left). foldl (meet true) u (to_meet marks n d (r + 1))) e ∙ meets-on true (left_of s) whole ((d, r) ∷ []) (to_meet marks n d (r + 1)) (leads-pair m);
    }

    pub row_past : (get_or marks (most_participants * d + r) 0 ≡ 1 → ⊥) → Row marks d s₀ s (r + 1)
    row_past m = record { same = w.same; leads = ap (foldl (meet true) (left_of s)) (sym (next-none m)) ∙ w.leads }

  -- the deliverer has nothing left, whoever is left to meet
  pub row-stop : get_or s.owed.now d 0 ≡ 0 → left_of s ≡ whole
  row-stop e =
      sym (meets-none true d (to_meet marks n d r) (left_of s)
      (every-keep (λ c. c.0 ≡ d) (is_pair marks n) (with (from r (n - r)) d) (with_all d (from r (n - r)))) e) ∙ w.leads

  -- nobody is left to meet
  pub row-end : n ≤ r → left_of s ≡ whole
  row-end h = (let e : n - r ≡ 0 = omega arith in rw e at w.leads)

-- ---- each deliverer by number and all its receivers

-- the pairs of the deliverers from d on
abbrev to_pair : List ℕ → ℕ → ℕ → List (ℕ × ℕ)
to_pair marks n d = keep (is_pair marks n) (joined (map (with (up_to n)) (from d (n - d))))

pub record Rows (runs : ℕ) (marks : List ℕ) (s₀ s : Left) (d : ℕ) : Type 0 where
  pub same : SameBuffers s₀ s
  pub leads : foldl (meet true) (left_of s) (to_pair marks (length s₀.owed.now) d) ≡ preferential runs (pair_marks marks (length s₀.owed.now)) s₀.owed.now s₀.due.now

module _ {runs : ℕ} {marks : List ℕ} {s₀ : Left} (p : MeetPreferentialAsks runs marks s₀) where
  abbrev all : rule.Left
  all = preferential runs (pair_marks marks (length s₀.owed.now)) s₀.owed.now s₀.due.now

  -- "Run 1 first takes yesterday's pairs": runs 2 and 3 take none
  pub rows_none : 0 < runs → left_of s₀ ≡ all
  unfolding preferential preferred
  rows_none h = let e : runs ≡ suc (runs - 1) = omega arith in rw (p.empty, e)

  pub rows-begin : runs ≤ 0 → Rows runs marks s₀ s₀ 0
  unfolding preferential preferred pairs_of
  rows-begin h = record {
    same = record { owed = refl; due = refl; made = refl; owed_size = refl; due_size = refl };
    leads = let z : runs ≡ 0 = omega arith in let e : length s₀.owed.now - 0 ≡ length s₀.owed.now = omega arith in rw (p.empty, z, e);
  }

  module _ {s : Left} {d : ℕ} (w : Rows runs marks s₀ s d) where
    abbrev m : ℕ
    m = length s₀.owed.now

    module _ (h : d < m) where
      abbrev its : List (ℕ × ℕ)
      its = keep (is_pair marks m) (with (up_to m) d)

      leads-row : foldl (meet true) (left_of s) (its ++ to_pair marks m (d + 1)) ≡ all
      leads-row =
          ap (foldl (meet true) (left_of s)) (sym (ap (λ (l : List ℕ). keep (is_pair marks m) (joined (map (with (up_to m)) l))) (from_first d m h)
          ∙ keep_append (is_pair marks m) (with (up_to m) d) (joined (map (with (up_to m)) (from (d + 1) (m - (d + 1))))))) ∙ w.leads

      -- what is met next, said with the positions as they are now
      same_row : foldl (meet true) (left_of s) its ≡ meet_pairs marks (left_of s) (with (up_to (length s.owed.now)) d)
      same_row = ap (λ (k : ℕ). foldl (meet true) (left_of s) (keep (is_pair marks k) (with (up_to k) d))) (sym w.same.owed_size)

      pub rows-ask : MeetPairsOfAsks marks s d
      rows-ask = record {
        sizes = sizes-stay p.sizes w.same;
        deliverer = omega (arith, w.same.owed_size);
        room = subst Room same_row (meets-room true (left_of s) all its (to_pair marks m (d + 1)) leads-row p.room);
      }

      pub rows_on : {t : Left} → left_of t ≡ meet_pairs marks (left_of s) (with (up_to (length s.owed.now)) d) → SameBuffers s t → Rows runs marks s₀ t (d + 1)
      rows_on e b = record {
        same = same_still w.same b;
        leads = ap (λ (u : rule.Left). foldl (meet true) u (to_pair marks m (d + 1))) (e ∙ sym same_row) ∙ meets-on true (left_of s) all its (to_pair marks m (d + 1)) leads-row;
      }

    pub rows_end : m ≤ d → left_of s ≡ all
    rows_end h = (let e : m - d ≡ 0 = omega arith in rw e at w.leads)
