-- Laws that the proofs of a run cite. Assumes nothing.
use mathlib.Core.Path.{◌≡◌, refl, sym, ap, ap₂, ◌∙◌}
use Prim.Native.Nat.{ℕ, ◌+◌, ◌≤◌, ◌<◌}
use native.Mathlib.Omega.{arith}
use borrow.Author.Rules.{rules}
use mathlib.Core.Logic.{◌≢◌}
use mathlib.Core.Bool.{Bool, true, false, cond}
use Rattle.std.specs.List.{count_by}
use Rattle.std.proofs.lemmas.List.Recursion.{is_count_by}
use mathlib.Core.List.{List}
use lib.ListN.{length, get_or}
use lib.Dec.{eqb}
use borrow.Author.Tests.{eq-eqb, ne_eqb}
use Rattle.lists.specs.Tests.{pick, all_below}
use Rattle.lists.specs.Folds.{joined, total}
use Rattle.lists.specs.Parts.{over}
use Rattle.lists.proofs.TestLaws.{go, stop}
use Rattle.rule.specs.Run.{allocations, ran, match_list, line_list}
use Rattle.rule.specs.Calls.{Reply, counts, refused, each_once, run_checks, run_reply}
use Rattle.layout.specs.InBook.{participants_in}
use Rattle.rule.specs.Layout.{runs_at, view, stored}
use Rattle.rule.proofs.AnswerLaws.{answers}
use Rattle.rule.proofs.BookLaws.{SoundBook}
use Rattle.rule.proofs.DrawLaws.{draw-right}
use Rattle.run_basket.specs.Running.{RunAsks}
use Rattle.run.specs.Ran.{RunGives}
use Rattle.run.specs.Checked.{run_sound}

-- ---- how many times the draw names a participant

abbrev pub named : ℕ → ℕ → ℕ
named p x = pick (eqb x p) 1 0

pub named-all : (draw : List ℕ) (p : ℕ) → count_by (λ x. eqb x p) draw ≡ total (named p) draw
named-all draw p = sym (is_count_by (total (named p)) (λ x. eqb x p) refl (λ x xs. one-more (eqb x p) (total (named p) xs)) draw)
  where
    one-more : (t : Bool) (n : ℕ) → pick t 1 0 + n ≡ cond t (1 + n) n
    one-more true n = refl
    one-more false n = omega arith

-- ---- whether it names each participant once

abbrev pub once : List ℕ → ℕ → Bool
once draw p = eqb (total (named p) draw) 1

module _ (draw : List ℕ) (n : ℕ) where
  pub other_length : length draw ≢ n → false ≡ each_once draw n
  unfolding each_once
  other_length h = sym (stop (eqb (length draw) n) (all_below n (once draw)) (ne_eqb (length draw) n h))

  pub same_length : {r : Bool} → length draw ≡ n → r ≡ all_below n (once draw) → r ≡ each_once draw n
  unfolding each_once
  same_length e h = h ∙ sym (go (eqb (length draw) n) (all_below n (once draw)) (eq-eqb (length draw) n e) refl)

-- ---- what each return of a run shows

module _ (b draw matches lines : List ℕ) where
  abbrev Answer : Type 0
  Answer = Reply × (List ℕ × List ℕ × List ℕ)

  pub three-done : 3 ≤ get_or b runs_at 0 → ◌≡◌ {A = Answer} (refused 6, (b, matches, lines)) (run_sound b draw matches lines)
  unfolding run_sound run_checks view
  three-done e = search (answers, rules) depth 12

  module _ (r : get_or b runs_at 0 < 3) where
    pub wrong-draw : each_once draw (participants_in b) ≡ false → ◌≡◌ {A = Answer} (refused 14, (b, matches, lines)) (run_sound b draw matches lines)
    unfolding run_sound run_checks view
    wrong-draw e = search (answers, rules) depth 12

    module _ (d : each_once draw (participants_in b) ≡ true) where
      pub short-matches : length matches < 539 → ◌≡◌ {A = Answer} (refused 15, (b, matches, lines)) (run_sound b draw matches lines)
      unfolding run_sound run_checks view
      short-matches e = search (answers, rules) depth 12

      module _ (m : 539 ≤ length matches) where
        pub short-lines : length lines < 7392 → ◌≡◌ {A = Answer} (refused 15, (b, matches, lines)) (run_sound b draw matches lines)
        unfolding run_sound run_checks view
        short-lines e = search (answers, rules) depth 12

        module _ (l : 7392 ≤ length lines) where
          pub run-asks : SoundBook b → RunAsks b draw matches lines
          unfolding view
          run-asks s = record { book = s; runs = r; once = draw-right (participants_in b) draw d; match_places = m; line_places = l }

          -- what was left, as one
          all_left : {c x z : List ℕ} {i j : ℕ} → RunGives b draw matches lines c x z i j
              → ◌≡◌ {A = List ℕ × List ℕ × List ℕ} (c, x, z)
              (stored b (ran (view b) (allocations (view b) draw)), over matches 0 (joined (match_list (allocations (view b) draw))), over lines 0 (joined (line_list (allocations (view b) draw))))
          all_left w = rw (w.book, w.entries, w.rows) refl

          -- the reply
          all_told : {c x z : List ℕ} {i j : ℕ} → RunGives b draw matches lines c x z i j → counts i j ≡ run_reply (allocations (view b) draw)
          unfolding run_reply
          all_told w = ap₂ counts w.match_count w.line_count

          pub all-ran : {c x z : List ℕ} {i j : ℕ} → RunGives b draw matches lines c x z i j → ◌≡◌ {A = Answer} (counts i j, (c, x, z)) (run_sound b draw matches lines)
          all-ran {c} {x} {z} {i} {j} w = ap (λ (q : Reply). (q, (c, x, z))) (all_told w) ∙ passed (all_left w)
            where
              passed : ◌≡◌ {A = List ℕ × List ℕ × List ℕ} (c, x, z)
                  (stored b (ran (view b) (allocations (view b) draw)), over matches 0 (joined (match_list (allocations (view b) draw))), over lines 0 (joined (line_list (allocations (view b) draw))))
                  → ◌≡◌ {A = Answer} (run_reply (allocations (view b) draw), (c, x, z)) (run_sound b draw matches lines)
              passed e = unfold run_sound run_checks view in search (answers, rules) depth 12
