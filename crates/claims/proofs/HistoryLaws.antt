-- What holds after every list of calls on a day that was opened. Assumes nothing.
use mathlib.Core.Path.{◌≡◌, sym, ap, ap₂, ◌∙◌, subst}
use mathlib.Core.Logic.{◌≢◌, ◌⊎◌, inl, inr}
use Prim.Native.Nat.{ℕ, ◌+◌, ◌≤◌, ◌<◌}
use native.Mathlib.Decide.{dec_lt}
use native.Mathlib.Omega.{arith}
use mathlib.Core.Bool.{true}
use mathlib.Core.List.{List, [], ◌∷◌, ◌++◌}
use lib.ListN.{length, get_or, length-append}
use Rattle.lists.specs.Tests.{pick}
use Rattle.lists.specs.Tables.{table, cell}
use Rattle.lists.specs.Folds.{foldl, total, sum}
use Rattle.lists.proofs.FoldLaws.{foldl-append, total-append}
use Rattle.rule.specs.Allocable.{allocable, no_marks}
use Rattle.rule.specs.Day.{Given, Day, given_of, opened, traded, noticed}
use Rattle.rule.specs.Run.{allocable_of, allocations, line_list}
use Rattle.rule.specs.Calls.{Reply, accepted, counts, refused, run_reply}
use Rattle.rule.specs.Layout.{plus, minus, signed, view, sound_book, open_of, trade_of, notice_of, run_of, close_of, position_cell}
use Rattle.rule.specs.History.{Call, trade, notice, run, close, Event, History, next, history, matches_of, lines_of}
use Rattle.claims.specs.Claims.{Words, sold_in, bought_in, delivered_in, received_in, lots_by, forced_by, is_run, runs_in, notified_after, notified, allocable_then, standing, EventHolds, HistoryHolds, StaysSound}
use Rattle.claims.proofs.SplitLaws.{Within, last-split}
use Rattle.rule.proofs.LayoutLaws.{signed-split}
use Rattle.rule.proofs.SoundLaws.{Zeroed}
use Rattle.rule.proofs.BookLaws.{SoundBook, sound-book, view-owed, view-due, row-owed, row-due}
use Rattle.claims.proofs.ClaimLaws.{quantity-is}
use Rattle.rule.proofs.OpenLaws.{zero-cell}
use Rattle.rule.proofs.CallLaws.{opening-sound, trade-passed, trade-sound, notice-passed, notice-sound}
use Rattle.rule.proofs.TradeLaws.{Tradeable}
use Rattle.rule.proofs.NoticeLaws.{Noticeable}
use Rattle.claims.proofs.HandedLaws.{matches-are, lines_are}
use Rattle.rule.proofs.RunCallLaws.{RunLeaves, run_sound}
use Rattle.claims.proofs.StepLaws.{event, Step, either_way, refused-step, trade-answered, notice-answered, run-answered, close-answered, closed-step, traded-step, noticed-step, ran-step}
use Rattle.claims.proofs.WordLaws.{open-words, trade-words, notice-words, run-words}

-- ---- what every call keeps

pub record EventRight (g : Given) (before : List Event) (e : Event) : Type 0 where
  pub holds : EventHolds g before e
  pub never : e.reply ≢ refused 5

pub record Kept (g : Given) (h : History) : Type 0 where
  pub words : Words h.book
  pub sound : sound_book h.book ≡ true
  pub given : (view h.book).given ≡ g
  pub runs : (view h.book).state.runs ≡ runs_in h.events
  pub notices : (p i : ℕ) → p < g.participants → i < g.issues → cell (view h.book).state.notices p i ≡ notified h.events p i
  pub conserved : (k p : ℕ) → k < 7 → p < g.participants
      → total (sold_in k p) h.events + total (received_in k p) h.events + cell (view h.book).state.due k p
      ≡ total (bought_in k p) h.events + total (delivered_in k p) h.events + cell (view h.book).state.owed k p
  pub each : (before after : List Event) (e : Event) → h.events ≡ before ++ (e ∷ after) → EventRight g before e

abbrev more : History → Event → List ℕ → History
more h e b = record { events = h.events ++ (e ∷ []); book = b }

total-more : (f : Event → ℕ) (events : List Event) (e : Event) → total f (events ++ (e ∷ [])) ≡ total f events + f e
total-more f events e = total-append f events (e ∷ []) ∙ omega arith

module _ (h : History) (e : Event) (b : List ℕ) (s : Step h.book e b) where
  abbrev y : Day
  y = view h.book

  allocable-is : Kept y.given h → (d i : ℕ) → d < y.given.participants → i < y.given.issues → allocable_of y d i ≡ allocable_then y.given h.events d i
  unfolding allocable_of allocable_then
  allocable-is k d i l m =
      ap₂ (λ (r x : ℕ). allocable r (get_or y.given.marks i no_marks) x (cell y.given.receipts d i)) k.runs (k.notices d i l m)
      ∙ sym (quantity-is (runs_in h.events) (get_or y.given.marks i no_marks) _ _)

  -- with the day's own data
  kept-own : Kept y.given h → Kept y.given (more h e b)
  unfolding runs_in notified
  kept-own k = record {
    words = s.words;
    sound = s.sound;
    given = s.given;
    runs = omega (arith, s.runs, k.runs, total-more (λ e. pick (is_run e) 1 0) h.events e);
    notices = λ p i l m.
        s.notices p i l m ∙ ap (λ (x : ℕ). notified_after p i x e) (k.notices p i l m) ∙ sym (foldl-append (notified_after p i) h.events (e ∷ []) 0);
    conserved = λ j p l m. omega (
      arith,
      k.conserved j p l m,
      s.moved j p l m,
      total-more (sold_in j p) h.events e,
      total-more (received_in j p) h.events e,
      total-more (bought_in j p) h.events e,
      total-more (delivered_in j p) h.events e,
    );
    each = λ before after x q. cases before after x (last-split h.events e x before after q);
  }
    where
      bounded : (d i : ℕ) → Dec (d < y.given.participants) → Dec (i < y.given.issues)
          → lots_by d i e.matches e.lines ≤ allocable_then y.given h.events d i + forced_by d i e.matches
      bounded d i (yes l) (yes m) = omega (arith, s.allocable d i l m, allocable-is k d i l m)
      bounded d i (yes l) (no m) = omega (arith, s.no_other d i (inr (omega arith)))
      bounded d i (no l) m = omega (arith, s.no_other d i (inl (omega arith)))

      -- the new event, after all before it
      last : EventRight y.given h.events e
      last = record {
        holds = record {
          allocable = λ d i. bounded d i (dec_lt d y.given.participants) (dec_lt i y.given.issues);
          forced = s.forced;
          unforced = λ l. s.unforced (omega (arith, k.runs));
        };
        never = s.never;
      }

      cases : (before after : List Event) (x : Event) → ((h.events ≡ before) × (e ≡ x)) ⊎ Within h.events before x → EventRight y.given before x
      cases before after x (inl r) = subst (λ (l : List Event). EventRight y.given l x) r.0 (subst (λ (z : Event). EventRight y.given h.events z) r.1 last)
      cases before after x (inr w) = k.each before w.rest x w.is

  kept_more : (g : Given) → Kept g h → Kept g (more h e b)
  kept_more g k =
      subst (λ (x : Given). Kept x (more h e b)) k.given (kept-own (subst (λ (x : Given). Kept x h) (sym k.given) k))

-- ---- each call is such a step

module _ (b : List ℕ) (words : Words b) (sound : sound_book b ≡ true) where
  trade-step : (seller buyer k yen : ℕ) → let r : Reply × List ℕ = trade_of b seller buyer k yen in Step b (event (trade seller buyer k yen) r.0 [] []) r.1
  trade-step seller buyer k yen =
      let c : Call = trade seller buyer k yen in
      let r : Reply × List ℕ = trade_of b seller buyer k yen in
      either_way (λ (reply : Reply) (x : List ℕ). Step b (event c reply [] []) x) r b accepted (trade-answered b sound seller buyer k yen)
      (λ a.
      let h : SoundBook b × Tradeable (view b) seller buyer k yen = trade-passed b words seller buyer k yen a in
      let t : (view r.1 ≡ traded (view b) seller buyer k yen) × (sound_book r.1 ≡ true) = trade-sound b words seller buyer k yen a in
      traded-step b r.1 h.0 seller buyer k yen h.1 t.0 (trade-words b words seller buyer k yen a) t.1)
      (refused-step b words sound c)

  notice-step : (p : ℕ) (issues lots : List ℕ) → let r : Reply × List ℕ = notice_of b p issues lots in Step b (event (notice p issues lots) r.0 [] []) r.1
  notice-step p issues lots =
      let c : Call = notice p issues lots in
      let r : Reply × List ℕ = notice_of b p issues lots in
      either_way (λ (reply : Reply) (x : List ℕ). Step b (event c reply [] []) x) r b accepted (notice-answered b sound p issues lots)
      (λ a.
      let h : SoundBook b × Noticeable (view b) p issues lots = notice-passed b words p issues lots a in
      let t : (view r.1 ≡ noticed (view b) p issues lots) × (sound_book r.1 ≡ true) = notice-sound b words p issues lots a in
      noticed-step b r.1 h.0 p issues lots h.1 h.1.once t.0 (notice-words b words p issues lots a) t.1)
      (refused-step b words sound c)

  run_step : (draw matches lines : List ℕ) → let r : Reply × (List ℕ × List ℕ × List ℕ) = run_of b draw matches lines in
      Step b (event (run draw matches lines) r.0 (matches_of r.0 r.1.1) (lines_of r.0 r.1.2)) r.1.0
  unfolding run_reply
  run_step draw matches lines =
      let c : Call = run draw matches lines in
      let r : Reply × (List ℕ × List ℕ × List ℕ) = run_of b draw matches lines in
      let m : ℕ = length (allocations (view b) draw) in
      let l : ℕ = length (line_list (allocations (view b) draw)) in
      either_way (λ (reply : Reply) (x : List ℕ × List ℕ × List ℕ). Step b (event c reply (matches_of reply x.1) (lines_of reply x.2)) x.0) r (b, matches, lines) (counts m l)
      (run-answered b sound draw matches lines)
      (λ a.
      let t : RunLeaves b draw matches lines m l = run_sound b words draw matches lines m l a in
      ran-step b r.1.0 draw matches lines t.runnable m l (matches_of (counts m l) r.1.1) (lines_of (counts m l) r.1.2)
      (matches-are b draw matches lines m l t) (lines_are b draw matches lines m l t) t.view_after (run-words b words draw matches lines m l a) t.sound_after)
      (λ q ne. unfold matches_of lines_of in refused-step b words sound c q ne)

  close-step : (receipts pairs : List ℕ) → Step b (event (close receipts pairs) (close_of b receipts pairs).0 [] []) b
  close-step receipts pairs =
      let c : Call = close receipts pairs in
      either_way (λ (reply : Reply) (x : List ℕ × List ℕ). Step b (event c reply [] []) b) (close_of b receipts pairs) (receipts, pairs) accepted (close-answered b sound receipts pairs)
      (λ a. closed-step b words sound receipts pairs) (refused-step b words sound c)

-- ---- after every list of calls

module _ (g : Given) where
  kept_next : (h : History) (c : Call) → Kept g h → Kept g (next h c)
  unfolding next
  kept_next h (trade seller buyer k yen) r = kept_more h _ _ (trade-step h.book r.words r.sound seller buyer k yen) g r
  kept_next h (notice p issues lots) r = kept_more h _ _ (notice-step h.book r.words r.sound p issues lots) g r
  kept_next h (run draw matches lines) r = kept_more h _ _ (run_step h.book r.words r.sound draw matches lines) g r
  kept_next h (close receipts pairs) r = kept_more h _ _ (close-step h.book r.words r.sound receipts pairs) g r

  kept-calls : (calls : List Call) (h : History) → Kept g h → Kept g (foldl next h calls)
  kept-calls [] h r = r
  kept-calls (c ∷ calls) h r = kept-calls calls (next h c) (kept_next h c r)

-- a day that was just opened
kept-opened : (g : Given) (b : List ℕ) → Words b → sound_book b ≡ true → view b ≡ opened g → Kept g (record { events = []; book = b })
unfolding opened runs_in notified
kept-opened g b words sound v = record {
  words = words;
  sound = sound;
  given = ap (λ (y : Day). y.given) v;
  runs = ap (λ (y : Day). y.state.runs) v;
  notices = λ p i l m. ap (λ (y : Day). cell y.state.notices p i) v ∙ zero-cell g.participants g.issues p i l;
  conserved = λ k p l m. omega (arith, ap (λ (y : Day). cell y.state.due k p) v, ap (λ (y : Day). cell y.state.owed k p) v, zero-cell 7 g.participants k p l);
  each = λ before after e q. absurd (omega (arith, ap length q, length-append before (e ∷ after)));
}

pub kept : (n m : ℕ) (codes terms receipts pairs b : List ℕ) (calls : List Call) → (open_of n m codes terms receipts pairs b).0 ≡ accepted
    → Kept (given_of n m codes terms receipts pairs) (history (open_of n m codes terms receipts pairs b).1 calls)
unfolding history
kept n m codes terms receipts pairs b calls a =
    let g : Given = given_of n m codes terms receipts pairs in
    let new : List ℕ = (open_of n m codes terms receipts pairs b).1 in
    let o : (view new ≡ opened g) × (sound_book new ≡ true) = opening-sound n m codes terms receipts pairs b a in
    kept-calls g calls (record { events = []; book = new }) (kept-opened g new (open-words n m codes terms receipts pairs b a) o.1 o.0)

-- ---- demand 3, and that no list of calls leads to an unsound book

module _ (g : Given) (h : History) (r : Kept g h) where
  book-sound : SoundBook h.book
  book-sound = sound-book h.book r.words r.sound

  -- the sizes are those of the opening
  size_is : get_or h.book 0 0 ≡ g.participants
  unfolding view
  size_is = ap (λ (x : Given). x.participants) r.given

  standing-owed : (k p : ℕ) → k < 7 → p < g.participants → cell (view h.book).state.owed k p ≡ plus (standing h.book k p)
  standing-owed k p l q = view-owed h.book book-sound.readable k p l (omega (arith, size_is))

  standing-due : (k p : ℕ) → k < 7 → p < g.participants → cell (view h.book).state.due k p ≡ minus (standing h.book k p)
  standing-due k p l q = view-due h.book book-sound.readable k p l (omega (arith, size_is))

  zero-after : 3 ≤ runs_in h.events → (k p : ℕ) → k < 7 → p < g.participants → standing h.book k p ≡ 0
  unfolding view
  zero-after three k p l q =
      let z : Zeroed _ _ _ _ _ = book-sound.day.done (omega (arith, r.runs, book-sound.day.limits.runs)) in
      let a : plus (standing h.book k p) ≡ 0 = omega (arith, z.owed k p l (omega (arith, size_is)), standing-owed k p l q) in
      let c : minus (standing h.book k p) ≡ 0 = omega (arith, z.due k p l (omega (arith, size_is)), standing-due k p l q) in
      sym (signed-split (standing h.book k p) (r.words (position_cell k p))) ∙ ap₂ signed a c

  even-places : (k : ℕ) → k < 7
      → sum (table g.participants (λ p. plus (standing h.book k p))) ≡ sum (table g.participants (λ p. minus (standing h.book k p)))
  even-places k l =
      ap (λ (n : ℕ). sum (table n (λ p. plus (standing h.book k p)))) (sym size_is) ∙ ap sum (sym (row-owed h.book book-sound.readable k l))
      ∙ book-sound.day.positions.even k l
      ∙ ap sum (row-due h.book book-sound.readable k l) ∙ ap (λ (n : ℕ). sum (table n (λ p. minus (standing h.book k p)))) size_is

  pub holds_kept : HistoryHolds g h
  holds_kept = record {
    conserved = λ k p l q. omega (arith, r.conserved k p l q, standing-owed k p l q, standing-due k p l q);
    even = even-places;
    each = λ before after e q. (r.each before after e q).holds;
    zero = zero-after;
  }

  pub sound-kept : StaysSound h
  sound-kept = record {
    sound = r.sound;
    never_unsound = λ before after e q. (r.each before after e q).never;
    runs = (sym r.runs, omega (arith, r.runs, book-sound.day.limits.runs));
  }
