-- The demands of document 01, as specs/Claims.antt says them. Assumes nothing.
use mathlib.Core.Path.{◌≡◌, refl, ◌∙◌}
use mathlib.Core.Logic.{◌⊎◌, inl, inr}
use mathlib.Core.Bool.{not}
use mathlib.Core.List.{List, [], ◌∷◌}
use lib.ListN.{length}
use Rattle.lists.specs.Tests.{member}
use Rattle.rule.specs.Day.{given_of}
use Rattle.rule.specs.Run.{Allocation, allocations, line_list}
use Rattle.rule.specs.Calls.{Reply, accepted, open_checks, refusal, trade_checks, notice_checks, run_checks, run_reply, close_checks}
use Rattle.rule.specs.Layout.{view, book_fits, sound_book, open_of, trade_of, notice_of, run_of, close_of}
use Rattle.rule.specs.History.{History, history}
use Rattle.claims.specs.Claims.{Counted, Demand1, Demand2, Demand3, Soundness, Following}
use Rattle.claims.proofs.RefusalLaws.{by-table}
use Rattle.rule.proofs.BookLaws.{sound-book}
use Rattle.rule.proofs.RunCallLaws.{RunLeaves, run_sound}
use Rattle.claims.proofs.HandedRight.{handed-right}
use Rattle.claims.proofs.HandedLaws.{matches-are, lines_are}
use Rattle.claims.proofs.HistoryLaws.{Kept, kept, holds_kept, sound-kept}
use Rattle.claims.proofs.FollowLaws.{Follows, follows}

pub demand-one : Demand1
unfolding member refusal open_of open_checks trade_of trade_checks notice_of notice_checks run_of run_checks run_reply close_of close_checks
demand-one = record {
  opening = λ n m codes terms receipts pairs b.
      by-table (1 ∷ 2 ∷ 3 ∷ 4 ∷ []) (open_checks (book_fits b) n m codes terms receipts pairs) accepted _ b refl;
  trade = λ b seller buyer k yen.
      by-table (5 ∷ 6 ∷ 7 ∷ 8 ∷ 9 ∷ 10 ∷ 11 ∷ []) ((5, not (sound_book b)) ∷ trade_checks (view b) seller buyer k yen) accepted _ b refl;
  notice = λ b p issues lots.
      by-table (5 ∷ 6 ∷ 7 ∷ 12 ∷ 13 ∷ []) ((5, not (sound_book b)) ∷ notice_checks (view b) p issues lots) accepted _ b refl;
  run = λ b draw matches lines.
      counted (allocations (view b) draw) _
      (by-table (5 ∷ 6 ∷ 14 ∷ 15 ∷ []) ((5, not (sound_book b)) ∷ run_checks (view b) draw (length matches) (length lines)) (run_reply (allocations (view b) draw)) _ (b, matches, lines) refl);
  close = λ b receipts pairs.
      by-table (5 ∷ 16 ∷ 15 ∷ []) ((5, not (sound_book b)) ∷ close_checks (view b) (length receipts) (length pairs)) accepted _ (receipts, pairs) refl;
}
  where
    counted : {Y : Type 0} (done : List Allocation) (r : Reply) → (r ≡ run_reply done) ⊎ Y → Counted r ⊎ Y
    counted done r (inl e) = inl (record { matches = length done; lines = length (line_list done); told = e })
    counted done r (inr y) = inr y

pub demand-two : Demand2
unfolding Demand2
demand-two b draw matches lines m l words a =
    let t : RunLeaves b draw matches lines m l = run_sound b words draw matches lines m l a in
    rw (a, matches-are b draw matches lines m l t, lines_are b draw matches lines m l t, t.match_count, t.line_count) (handed-right (view b) draw t.runnable)

pub demand-three : Demand3
unfolding Demand3
demand-three n m codes terms receipts pairs b calls a = holds_kept _ _ (kept n m codes terms receipts pairs b calls a)

pub soundness : Soundness
unfolding Soundness
soundness n m codes terms receipts pairs b calls a = sound-kept _ _ (kept n m codes terms receipts pairs b calls a)

pub following : Following
unfolding Following Follows given_of
following n m codes terms receipts pairs b calls new_codes new_terms new_receipts new_pairs a three =
    let h : History = history (open_of n m codes terms receipts pairs b).1 calls in
    let r : Kept (given_of n m codes terms receipts pairs) h = kept n m codes terms receipts pairs b calls a in
    follows h.book (sound-book h.book r.words r.sound) r.sound (r.runs ∙ three) (given_of n m codes terms receipts pairs) r.given new_codes new_terms new_receipts new_pairs
