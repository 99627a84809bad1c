-- Laws that the proofs of a notice cite. Assumes nothing.
use mathlib.Core.Path.{◌≡◌, refl, sym, ap, ap₂, ◌∙◌}
use Prim.Native.Nat.{ℕ, ◌+◌, ◌-◌, ◌≤◌, ◌<◌}
use native.Mathlib.Decide.{ℕ_discrete}
use native.Mathlib.Numerals.{add-one}
use native.Mathlib.Omega.{arith}
use mathlib.Core.Bool.{Bool, true, false, not, and-true}
use mathlib.Core.List.{List}
use lib.ListN.{length, get_or, set, take, drop, replicate, length-set, length-replicate, get_or-replicate}
use lib.Seq.{get_or-set_same, get_or-set_other}
use borrow.Rule.Slice.PartMut.{put_mid}
use lib.Dec.{ltb, leb, eqb}
use borrow.Author.Tests.{ltb-true, leb-true, eq-eqb, ne_eqb, not-true, not-false}
use Rattle.lists.specs.Tests.{all_below}
use Rattle.lists.specs.Tables.{up_to, zeros}
use Rattle.lists.specs.Folds.{foldl}
use Rattle.lists.specs.Parts.{over}
use Rattle.lists.proofs.TestLaws.{all_more, all-stop, all-at, stop_is, through-is}
use Rattle.lists.proofs.FoldLaws.{foldl-up_to}
use Rattle.lists.proofs.PartLaws.{part_length, part-back}
use Rattle.rule.specs.Day.{notice_row, noticed}
use Rattle.rule.specs.Calls.{distinct}
use Rattle.rule.specs.Sound.{notice_limit}
use Rattle.layout.specs.InBook.{participants_in, issues_in}
use Rattle.rule.specs.Layout.{runs_at, notices_at, view, stored, lots_row}
use Rattle.rule.proofs.AnswerLaws.{denied, granted}
use Rattle.rule.proofs.BookLaws.{SoundBook}
use Rattle.rule.proofs.NoticeLaws.{Noticeable, length-notice_row, notice-stored}
use Rattle.notice.specs.Checked.{AllDistinctAsks, WriteAsks, notice_written}

-- ---- the issues named below j are marked

-- none of the entries below j names x
abbrev unnamed : List ℕ → ℕ → ℕ → Bool
unnamed named x j = all_below j (λ i. not (eqb (get_or named i 0) x))

pub record Marked (named : List ℕ) (met : List Bool) (j : ℕ) : Type 0 where
  pub here : j ≤ length named
  pub size : length met ≡ 32
  pub marks : (x : ℕ) → x < 32 → get_or met x false ≡ not (unnamed named x j)
  pub apart : all_below j (λ k. unnamed named (get_or named k 0) k) ≡ true

module _ (named : List ℕ) where
  pub marked-none : Marked named (replicate 32 false) 0
  unfolding all_below
  marked-none = record { here = omega arith; size = length-replicate 32 false; marks = λ x l. get_or-replicate 32 x false false l; apart = refl }

  -- the entry at j names its issue, and no other
  unnamed-same : (j : ℕ) → unnamed named (get_or named j 0) (j + 1) ≡ false
  unnamed-same j = all-stop _ (j + 1) j (omega arith) (granted _ (eq-eqb (get_or named j 0) (get_or named j 0) refl))

  unnamed-other : (x j : ℕ) → (x ≡ get_or named j 0 → ⊥) → unnamed named x (j + 1) ≡ unnamed named x j
  unfolding all_below
  unnamed-other x j ne = rw (add-one j, ne_eqb (get_or named j 0) x (λ e. ne (sym e))) (and-true (unnamed named x j))

  module _ {met : List Bool} {j : ℕ} (l : j < length named) (low : get_or named j 0 < 32) (h : Marked named met j) where
    -- the issue of the entry at j is marked already
    pub marked-twice : get_or met (get_or named j 0) false ≡ true → false ≡ distinct named
    unfolding distinct
    marked-twice e = stop_is _ (length named) j l (not-true _ (sym (h.marks (get_or named j 0) low) ∙ e))

    -- it is not, and is marked now
    pub marked_more : get_or met (get_or named j 0) false ≡ false → Marked named (set met (get_or named j 0) true) (j + 1)
    marked_more e = record {
      here = omega arith;
      size = length-set met (get_or named j 0) true ∙ h.size;
      marks = λ x k. go x k (ℕ_discrete x (get_or named j 0));
      apart = all_more _ j h.apart (not-false _ (sym (h.marks (get_or named j 0) low) ∙ e));
    }
      where
        go : (x : ℕ) → x < 32 → Dec (x ≡ get_or named j 0) → get_or (set met (get_or named j 0) true) x false ≡ not (unnamed named x (j + 1))
        go x k (yes e) = rw e (get_or-set_same met (get_or named j 0) true false (omega (arith, h.size)) ∙ sym (denied _ (unnamed-same j)))
        go x k (no ne) = get_or-set_other met (get_or named j 0) x true false ne ∙ h.marks x k ∙ ap not (sym (unnamed-other x j ne))

  pub marked_all : {met : List Bool} {j : ℕ} → length named ≤ j → Marked named met j → true ≡ distinct named
  unfolding distinct
  marked_all {j = j} l h = through-is _ (length named) j h.apart l h.here

-- ---- the entries below j are in the row

abbrev entry : List ℕ → List ℕ → List ℕ → ℕ → List ℕ
entry named lots row j = set row (get_or named j 0) (get_or lots j 0)

pub record Entered (row₀ named lots row : List ℕ) (j : ℕ) : Type 0 where
  pub here : j ≤ length named
  pub size : length row ≡ length row₀
  pub entries : row ≡ foldl (entry named lots) row₀ (up_to j)

module _ (row₀ named lots : List ℕ) where
  pub entered-none : Entered row₀ named lots row₀ 0
  entered-none = record { here = omega arith; size = refl; entries = refl }

  pub entered-more : {row : List ℕ} {j : ℕ} → j < length named → Entered row₀ named lots row j → Entered row₀ named lots (set row (get_or named j 0) (get_or lots j 0)) (j + 1)
  entered-more {row} {j} l h = record {
    here = omega arith;
    size = length-set row (get_or named j 0) (get_or lots j 0) ∙ h.size;
    entries = ap (λ (r : List ℕ). entry named lots r j) h.entries ∙ sym (foldl-up_to (entry named lots) row₀ j);
  }

  pub entered_all : {row : List ℕ} {j : ℕ} (m : ℕ) → length named ≤ j → row₀ ≡ zeros m → Entered row₀ named lots row j → row ≡ notice_row m named lots
  unfolding notice_row
  entered_all {j = j} m l e h =
      let k : j ≡ length named = omega (arith, h.here) in
      h.entries ∙ ap₂ (λ (r : List ℕ) (n : ℕ). foldl (entry named lots) r (up_to n)) e k

-- the row that was lent, and is back
pub row_back : (b : List ℕ) (p m : ℕ) {at : ℕ} (issues lots c : List ℕ) → at ≡ lots_row notices_at p → m ≡ issues_in b → at + m ≤ length b
    → c ≡ notice_row (length (take (at + m - at) (drop at b))) issues lots → put_mid at (at + m - at) b c ≡ notice_written b p issues lots
unfolding notice_written
row_back b p m {at} issues lots c place e fit h =
    let k : c ≡ notice_row m issues lots = h ∙ ap (λ (n : ℕ). notice_row n issues lots) (part_length b at m fit) in
    part-back b at m c (ap length k ∙ length-notice_row m issues lots)
    ∙ ap₂ (λ (r : List ℕ) (o : ℕ). over b o r) (k ∙ ap (λ (n : ℕ). notice_row n issues lots) e) place

-- ---- an accepted notice, in a sound book

module _ (b : List ℕ) (s : SoundBook b) (issues : List ℕ) (named : all_below (length issues) (λ j. ltb (get_or issues j 0) (issues_in b)) ≡ true) where
  of_day : (j : ℕ) → j < length issues → get_or issues j 0 < issues_in b
  of_day j l = ltb-true (get_or issues j 0) (issues_in b) (all-at (λ j. ltb (get_or issues j 0) (issues_in b)) (length issues) named j l)

  pub markable : AllDistinctAsks 32 issues
  markable = record { below = λ j l. omega (arith, of_day j l, s.sizes.most) }

  module _ (p : ℕ) (lots : List ℕ) (sender : p < participants_in b) (even : length issues ≡ length lots) where
    pub writable : WriteAsks b p issues lots
    writable = record {
      size = s.readable.size;
      sender = omega (arith, s.sizes.few);
      most = s.sizes.most;
      entries = record { lengths = even; named = record { below = of_day } };
    }

    module _ (runs : get_or b runs_at 0 < 3) (once : distinct issues ≡ true) (few : all_below (length lots) (λ j. leb (get_or lots j 0) notice_limit) ≡ true) where
      noticeable : Noticeable (view b) p issues lots
      unfolding view
      noticeable = record {
        sender = sender;
        runs = runs;
        named = of_day;
        once = once;
        few = λ j l. leb-true (get_or lots j 0) notice_limit (all-at (λ j. leb (get_or lots j 0) notice_limit) (length lots) few j (omega arith));
      }

      pub accepted-notice : (c : List ℕ) → c ≡ notice_written b p issues lots → c ≡ stored b (noticed (view b) p issues lots)
      unfolding notice_written view
      accepted-notice c e = e ∙ sym (notice-stored b s.readable p issues lots noticeable)
