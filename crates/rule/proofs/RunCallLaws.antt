-- Laws of an accepted run of a book: what it answers, and that the book it leaves is sound, with the definition's day in it. Assumes nothing.
use mathlib.Core.Path.{◌≡◌, refl, sym, ap, ◌∙◌}
use Prim.Native.Nat.{ℕ, zero, suc, ◌*◌, ◌≤◌, ◌<◌}
use mathlib.Core.Bool.{true, false}
use mathlib.Core.List.{List}
use lib.ListN.{length, get_or}
use borrow.Author.Tests.{leb-false, ltb-false, not-false}
use Rattle.lists.specs.Tests.{first}
use Rattle.lists.specs.Folds.{joined}
use Rattle.lists.specs.Parts.{over}
use Rattle.lists.proofs.TestLaws.{both_ways}
use Rattle.rule.specs.Day.{Day}
use Rattle.rule.specs.Run.{Allocation, allocations, ran, match_list, line_list}
use Rattle.rule.specs.Entries.{match_size, line_size}
use Rattle.rule.specs.Calls.{Reply, accepted, counts, refused, answer, refusal, most_matches, most_lines, run_checks, run_reply}
use Rattle.rule.specs.Layout.{view, stored, sound_book, run_of}
use Rattle.rule.proofs.LayoutLaws.{view-shaped, view-signed}
use Rattle.rule.proofs.BookLaws.{SoundBook}
use Rattle.rule.proofs.DrawLaws.{draw-right}
use Rattle.rule.proofs.CallLaws.{is_refused, None, no_row, stored-sound, was-sound}
use Rattle.rule.proofs.RunLaws.{Runnable}
use Rattle.rule.proofs.RunSound.{ran-shaped, ran-signed, ran-sound}

-- ---- counts are no refusal

abbrev matches_told : Reply → ℕ
matches_told accepted = 0
matches_told (counts m l) = m
matches_told (refused e) = 0

abbrev lines_told : Reply → ℕ
lines_told accepted = 0
lines_told (counts m l) = l
lines_told (refused e) = 0

passed-run : {X : Type 0} (e : ℕ) (reply : Reply) (new old : X) (m l : ℕ) → (answer e reply new old).0 ≡ counts m l → e ≡ 0
passed-run zero reply new old m l h = refl
passed-run (suc e) reply new old m l h = absurd (both_ways true refl (ap is_refused h))

answered : {X : Type 0} (e : ℕ) (reply : Reply) (new old : X) → e ≡ 0 → answer e reply new old ≡ (reply, new)
answered e reply new old h = rw h

-- what an accepted run has shown, has answered and has left
pub record RunLeaves (b draw matches lines : List ℕ) (m l : ℕ) : Type 0 where
  pub book : SoundBook b
  pub runnable : Runnable (view b) draw
  -- "run 77 matches and 2,464 lines"
  pub match_places : match_size * most_matches ≤ length matches
  pub line_places : line_size * most_lines ≤ length lines
  -- "A run returns its counts and writes two lists"; "Entries past the counts stay"
  pub match_count : m ≡ length (allocations (view b) draw)
  pub line_count : l ≡ length (line_list (allocations (view b) draw))
  pub matches_after : (run_of b draw matches lines).1.1 ≡ over matches 0 (joined (match_list (allocations (view b) draw)))
  pub lines_after : (run_of b draw matches lines).1.2 ≡ over lines 0 (joined (line_list (allocations (view b) draw)))
  pub book_after : (run_of b draw matches lines).1.0 ≡ stored b (ran (view b) (allocations (view b) draw))
  pub view_after : view (run_of b draw matches lines).1.0 ≡ ran (view b) (allocations (view b) draw)
  pub sound_after : sound_book (run_of b draw matches lines).1.0 ≡ true

module _ (b : List ℕ) (words : (j : ℕ) → get_or b j 0 < 18446744073709551616) (draw matches lines : List ℕ) where
  abbrev done : List Allocation
  done = allocations (view b) draw

  -- every row of the check table was passed
  record Passed : Type 0 where
    runnable : Runnable (view b) draw
    match_places : match_size * most_matches ≤ length matches
    line_places : line_size * most_lines ≤ length lines

  passed-checks : SoundBook b → first (run_checks (view b) draw (length matches) (length lines)) ≡ 0 → Passed
  unfolding run_checks
  passed-checks s h =
      shown (no_row (run_checks (view b) draw (length matches) (length lines)) refl h)
    where
      shown : None (run_checks (view b) draw (length matches) (length lines)) → Passed
      shown (runs, (draw_right, (matches_long, (lines_long, _)))) = record {
        runnable = record {
          shaped = view-shaped b s.readable;
          signed = view-signed b s.readable;
          day = s.day;
          runs = leb-false _ _ runs;
          once = draw-right _ draw (not-false _ draw_right);
        };
        match_places = ltb-false _ _ matches_long;
        line_places = ltb-false _ _ lines_long;
      }

  -- an accepted run leaves a sound book, with the day after the run in it
  pub run_sound : (m l : ℕ) → (run_of b draw matches lines).0 ≡ counts m l → RunLeaves b draw matches lines m l
  unfolding run_of run_reply
  run_sound m l a =
      let y : Day = ran (view b) done in
      let e : ℕ = refusal (sound_book b) (run_checks (view b) draw (length matches) (length lines)) in
      let new : List ℕ × List ℕ × List ℕ = (stored b y, over matches 0 (joined (match_list done)), over lines 0 (joined (line_list done))) in
      let z : e ≡ 0 = passed-run e (run_reply done) new (b, matches, lines) m l a in
      let w : SoundBook b × (first (run_checks (view b) draw (length matches) (length lines)) ≡ 0) =
      was-sound b words (run_checks (view b) draw (length matches) (length lines)) z in
      let p : Passed = passed-checks w.0 w.1 in
      let r : answer e (run_reply done) new (b, matches, lines) ≡ (run_reply done, new) = answered e (run_reply done) new (b, matches, lines) z in
      let s : (view (stored b y) ≡ y) × (sound_book (stored b y) ≡ true) =
      stored-sound y (ran-shaped (view b) draw p.runnable) (ran-signed (view b) draw p.runnable) (ran-sound (view b) draw p.runnable) b w.0.readable.size in
      let told : run_reply done ≡ counts m l = sym (ap (λ (x : Reply × (List ℕ × List ℕ × List ℕ)). x.0) r) ∙ a in
      let book : (answer e (run_reply done) new (b, matches, lines)).1.0 ≡ stored b y = ap (λ (x : Reply × (List ℕ × List ℕ × List ℕ)). x.1.0) r in
      record {
        book = w.0;
        runnable = p.runnable;
        match_places = p.match_places;
        line_places = p.line_places;
        match_count = sym (ap matches_told told);
        line_count = sym (ap lines_told told);
        matches_after = ap (λ (x : Reply × (List ℕ × List ℕ × List ℕ)). x.1.1) r;
        lines_after = ap (λ (x : Reply × (List ℕ × List ℕ × List ℕ)). x.1.2) r;
        book_after = book;
        view_after = ap view book ∙ s.0;
        sound_after = ap sound_book book ∙ s.1;
      }

  -- "A call is accepted if it returns no refusal": then it returns its counts
  pub run-counts : is_refused (run_of b draw matches lines).0 ≡ false → (run_of b draw matches lines).0 ≡ counts (length done) (length (line_list done))
  unfolding run_of run_reply
  run-counts a = go (refusal (sound_book b) (run_checks (view b) draw (length matches) (length lines))) _ _ a
    where
      go : (e : ℕ) (new old : List ℕ × List ℕ × List ℕ) → is_refused (answer e (run_reply done) new old).0 ≡ false → (answer e (run_reply done) new old).0 ≡ run_reply done
      go zero new old h = refl
      go (suc e) new old h = absurd (both_ways true refl h)
