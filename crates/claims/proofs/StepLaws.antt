-- What one call does to a sound book, said by its event: the call, its reply, and the lists that it handed out. Assumes nothing.
use mathlib.Core.Path.{◌≡◌, refl, sym, ap, ◌∙◌, subst}
use mathlib.Core.Logic.{◌≢◌, ◌⊎◌, inl, inr}
use Prim.Native.Nat.{ℕ, zero, suc, ◌+◌, ◌-◌, ◌≤◌, ◌<◌, zero-le}
use native.Mathlib.Decide.{dec_lt, ℕ_discrete}
use native.Mathlib.Omega.{arith}
use mathlib.Core.Bool.{Bool, true, not, ◌&&◌}
use mathlib.Core.List.{List, [], ◌∷◌, map}
use lib.ListN.{length, get_or, set}
use lib.Seq.{get_or-set_same, get_or-set_other}
use lib.Dec.{eqb}
use borrow.Author.Tests.{eq-eqb, ne_eqb, eqb-false, not-true}
use Rattle.lists.specs.Tests.{pick, first}
use Rattle.lists.specs.Tables.{table, cell}
use Rattle.lists.proofs.TestLaws.{and_left, and_right, pick-cases, first-no}
use Rattle.lists.proofs.FoldLaws.{every_map}
use Rattle.lists.proofs.TableLaws.{get_or-table}
use Rattle.rule.specs.Day.{Day, notice_row, noticed, traded}
use Rattle.rule.specs.Run.{entry_of, Allocation, allocable_of, allocations, covered_from, covered_to, used, line_list, ran}
use Rattle.rule.specs.Calls.{Reply, accepted, counts, refused, answer, refusal, trade_checks, distinct, notice_checks, run_checks, run_reply, close_checks}
use Rattle.rule.specs.Layout.{view, sound_book, trade_of, notice_of, run_of, close_of}
use Rattle.rule.specs.Entries.{MatchEntry, LineEntry, line_of}
use Rattle.rule.specs.History.{Call, trade, notice, run, close, Event}
use Rattle.claims.specs.Claims.{Words, sold_in, bought_in, delivered_in, received_in, lots_by, forced_by, is_run, named, notified_after}
use Rattle.rule.proofs.LayoutLaws.{Shaped, view-shaped}
use Rattle.rule.proofs.BookLaws.{SoundBook}
use Rattle.rule.proofs.TradeLaws.{Tradeable, owed2, due2, traded-owed, traded-due, owed-seller, due-seller, owed-buyer, due-buyer, owed-other, due-other, which}
use Rattle.rule.proofs.NoticeLaws.{Noticeable}
use Rattle.claims.proofs.ClaimLaws.{named-is}
use Rattle.rule.proofs.OpenLaws.{zero-cell}
use Rattle.rule.proofs.AnswerLaws.{granted}
use Rattle.claims.proofs.HandedLaws.{delivered-is, received_is, forced-none, no-forced, no-lots-from, no-line-lots, lots_are, lots-by}
use Rattle.rule.proofs.RunLaws.{Runnable, Allocated, allocated, covered-from, covered-to}
use Rattle.rule.proofs.RunLots.{used-most}
use Rattle.rule.proofs.RunLists.{Line, line-right, all-issues}

abbrev pub event : Call → Reply → List MatchEntry → List LineEntry → Event
event c reply matches lines = record { call = c; reply = reply; matches = matches; lines = lines }

-- from book a to book b, by event e
pub record Step (a : List ℕ) (e : Event) (b : List ℕ) : Type 0 where
  pub words : Words b
  pub sound : sound_book b ≡ true
  pub given : (view b).given ≡ (view a).given
  pub runs : (view b).state.runs ≡ (view a).state.runs + pick (is_run e) 1 0
  pub notices : (p i : ℕ) → p < (view a).given.participants → i < (view a).given.issues
      → cell (view b).state.notices p i ≡ notified_after p i (cell (view a).state.notices p i) e
  -- positions move by what is sold and bought, delivered and received
  pub moved : (k p : ℕ) → k < 7 → p < (view a).given.participants
      → sold_in k p e + received_in k p e + cell (view b).state.due k p + cell (view a).state.owed k p
      ≡ bought_in k p e + delivered_in k p e + cell (view b).state.owed k p + cell (view a).state.due k p
  pub allocable : (d i : ℕ) → d < (view a).given.participants → i < (view a).given.issues
      → lots_by d i e.matches e.lines ≤ allocable_of (view a) d i + forced_by d i e.matches
  -- nobody else delivers, and no other issue
  pub no_other : (d i : ℕ) → ((view a).given.participants ≤ d) ⊎ ((view a).given.issues ≤ i) → lots_by d i e.matches e.lines ≡ 0
  pub forced : (d i : ℕ) → forced_by d i e.matches ≤ lots_by d i e.matches e.lines
  pub unforced : (view a).state.runs < 2 → (d i : ℕ) → forced_by d i e.matches ≡ 0
  pub never : e.reply ≢ refused 5

-- ---- a call that moves nothing

abbrev refusal_of : Reply → ℕ
refusal_of accepted = 0
refusal_of (counts m l) = 0
refusal_of (refused n) = n

-- no accepted trade, notice or run
record Idle (c : Call) (reply : Reply) : Type 0 where
  ran : pick {X = ℕ} (is_run (event c reply [] [])) 1 0 ≡ 0
  notified : (p i before : ℕ) → notified_after p i before (event c reply [] []) ≡ before
  sold : (k p : ℕ) → sold_in k p (event c reply [] []) ≡ 0
  bought : (k p : ℕ) → bought_in k p (event c reply [] []) ≡ 0

idle-step : (a : List ℕ) → Words a → sound_book a ≡ true → (c : Call) (reply : Reply) → reply ≢ refused 5 → Idle c reply → Step a (event c reply [] []) a
unfolding delivered_in received_in lots_by forced_by
idle-step a words sound c reply ne h = record {
  words = words;
  sound = sound;
  given = refl;
  runs = omega (arith, h.ran);
  notices = λ p i l m. sym (h.notified p i (cell (view a).state.notices p i));
  moved = λ k p l m. omega (arith, h.sold k p, h.bought k p);
  allocable = λ d i l m. zero-le;
  no_other = λ d i o. refl;
  forced = λ d i. zero-le;
  unforced = λ l d i. refl;
  never = ne;
}

-- "book and lists stay", and a sound book is not called unsound
pub refused-step : (a : List ℕ) → Words a → sound_book a ≡ true → (c : Call) (q : ℕ) → q ≢ 5 → Step a (event c (refused q) [] []) a
unfolding sold_in bought_in is_run notified_after
refused-step a words sound c q ne = idle-step a words sound c (refused q) (λ e. ne (ap refusal_of e)) (record {
  ran = not-ran c;
  notified = λ p i before. refl;
  sold = λ k p. refl;
  bought = λ k p. refl;
})
  where
    not-ran : (c : Call) → pick {X = ℕ} (is_run (event c (refused q) [] [])) 1 0 ≡ 0
    not-ran (trade seller buyer k yen) = refl
    not-ran (notice p issues lots) = refl
    not-ran (run draw matches lines) = refl
    not-ran (close receipts pairs) = refl

-- no row of the table has number n
abbrev lacks : ℕ → List (ℕ × Bool) → Bool
lacks n [] = true
lacks n (c ∷ cs) = not (eqb c.0 n) && lacks n cs

lacking : (n : ℕ) (cs : List (ℕ × Bool)) → lacks n cs ≡ true → 0 < n → first cs ≢ n
unfolding first
lacking n [] h l = λ e. omega arith
lacking n (c ∷ cs) h l =
    pick-cases (λ v. v ≢ n) c.1 c.0 (first cs) (λ t. eqb-false c.0 n (not-true (eqb c.0 n) (and_left (not (eqb c.0 n)) (lacks n cs) h)))
    (λ t. lacking n cs (and_right (not (eqb c.0 n)) (lacks n cs) h) l)

-- a call that is refused: what it answers is its number, and nothing moves
pub record Refused {X : Type 0} (r : Reply × X) (old : X) : Type 0 where
  pub number : ℕ
  pub is : r ≡ (refused number, old)
  pub sound : number ≢ 5

answered : {X : Type 0} (e : ℕ) (reply : Reply) (new old : X) → e ≢ 5 → ((answer e reply new old).0 ≡ reply) ⊎ Refused (answer e reply new old) old
answered zero reply new old ne = inl refl
answered (suc q) reply new old ne = inr (record { number = suc q; is = refl; sound = ne })

-- what holds of what an accepted call leaves, and of what stays, holds of what a call leaves
pub either_way : {X : Type 0} (P : Reply → X → Type 0) (r : Reply × X) (old : X) (reply : Reply) → (r.0 ≡ reply) ⊎ Refused r old
    → (r.0 ≡ reply → P reply r.1) → ((q : ℕ) → q ≢ 5 → P (refused q) old) → P r.0 r.1
either_way P r old reply (inl a) new stays = subst (λ (x : Reply). P x r.1) (sym a) (new a)
either_way {X} P r old reply (inr q) new stays = subst (λ (x : Reply × X). P x.0 x.1) (sym q.is) (stays q.number q.sound)

not-unsound : (is_sound : Bool) (cs : List (ℕ × Bool)) → is_sound ≡ true → lacks 5 cs ≡ true → refusal is_sound cs ≢ 5
unfolding refusal
not-unsound is_sound cs s h = λ e. lacking 5 cs h (omega arith) (sym (first-no 5 (not is_sound) cs (granted is_sound s)) ∙ e)

-- ---- a call on a sound book is accepted or refused

module _ (b : List ℕ) (s : sound_book b ≡ true) where
  pub trade-answered : (seller buyer k yen : ℕ) → ((trade_of b seller buyer k yen).0 ≡ accepted) ⊎ Refused (trade_of b seller buyer k yen) b
  unfolding trade_of trade_checks
  trade-answered seller buyer k yen = answered _ accepted _ b (not-unsound (sound_book b) (trade_checks (view b) seller buyer k yen) s refl)

  pub notice-answered : (p : ℕ) (issues lots : List ℕ) → ((notice_of b p issues lots).0 ≡ accepted) ⊎ Refused (notice_of b p issues lots) b
  unfolding notice_of notice_checks
  notice-answered p issues lots = answered _ accepted _ b (not-unsound (sound_book b) (notice_checks (view b) p issues lots) s refl)

  pub run-answered : (draw matches lines : List ℕ)
      → ((run_of b draw matches lines).0 ≡ run_reply (allocations (view b) draw)) ⊎ Refused (run_of b draw matches lines) (b, matches, lines)
  unfolding run_of run_checks
  run-answered draw matches lines =
      answered _ (run_reply (allocations (view b) draw)) _ (b, matches, lines) (not-unsound (sound_book b) (run_checks (view b) draw (length matches) (length lines)) s refl)

  pub close-answered : (receipts pairs : List ℕ) → ((close_of b receipts pairs).0 ≡ accepted) ⊎ Refused (close_of b receipts pairs) (receipts, pairs)
  unfolding close_of close_checks
  close-answered receipts pairs = answered _ accepted _ (receipts, pairs) (not-unsound (sound_book b) (close_checks (view b) (length receipts) (length pairs)) s refl)

-- ---- an accepted close: "The book stays"

pub closed-step : (a : List ℕ) → Words a → sound_book a ≡ true → (receipts pairs : List ℕ) → Step a (event (close receipts pairs) accepted [] []) a
unfolding sold_in bought_in is_run notified_after
closed-step a words sound receipts pairs = idle-step a words sound (close receipts pairs) accepted (λ e. omega (arith, ap refusal_of e)) (record {
  ran = refl;
  notified = λ p i before. refl;
  sold = λ k p. refl;
  bought = λ k p. refl;
})

-- ---- an accepted trade

-- yen of one position
at_own : (k p x : ℕ) → pick (eqb k k && eqb p p) x 0 ≡ x
at_own k p x = rw (eq-eqb k k refl, eq-eqb p p refl)

at_other : (k p j q x : ℕ) → (j ≡ k → q ≢ p) → pick (eqb k j && eqb p q) x 0 ≡ 0
at_other k p j q x ne = cases (ℕ_discrete k j)
  where
    cases : Dec (k ≡ j) → pick (eqb k j && eqb p q) x 0 ≡ 0
    cases (yes e) = rw (eq-eqb k j e, ne_eqb p q (λ f. ne (sym e) (sym f)))
    cases (no n) = rw (ne_eqb k j n)

module _ (a b : List ℕ) (s : SoundBook a) (seller buyer k yen : ℕ) (h : Tradeable (view a) seller buyer k yen) (v : view b ≡ traded (view a) seller buyer k yen) where
  abbrev y : Day
  y = view a

  abbrev shape : Shaped (view a)
  shape = view-shaped a s.readable

  abbrev sale : Event
  sale = event (trade seller buyer k yen) accepted [] []

  owed-is : (j p : ℕ) → cell (view b).state.owed j p ≡ cell (owed2 y shape seller buyer k yen h) j p
  owed-is j p = ap (λ (z : Day). cell z.state.owed j p) v ∙ ap (λ (t : List (List ℕ)). cell t j p) (traded-owed y shape seller buyer k yen h)

  due-is : (j p : ℕ) → cell (view b).state.due j p ≡ cell (due2 y shape seller buyer k yen h) j p
  due-is j p = ap (λ (z : Day). cell z.state.due j p) v ∙ ap (λ (t : List (List ℕ)). cell t j p) (traded-due y shape seller buyer k yen h)

  abbrev Moved : ℕ → ℕ → Type 0
  Moved j p =
      pick (eqb k j && eqb seller p) yen 0 + cell (view b).state.due j p + cell y.state.owed j p
      ≡ pick (eqb k j && eqb buyer p) yen 0 + cell (view b).state.owed j p + cell y.state.due j p

  trade-moves : (j p : ℕ) → Moved j p
  trade-moves = which y shape seller buyer k yen h Moved
      (omega (
        arith,
        at_own k seller yen,
        at_other k buyer k seller yen (λ e. h.apart),
        owed-is k seller,
        due-is k seller,
        owed-seller y shape seller buyer k yen h,
        due-seller y shape seller buyer k yen h,
      ))
      (omega (
        arith,
        at_own k buyer yen,
        at_other k seller k buyer yen (λ e f. h.apart (sym f)),
        owed-is k buyer,
        due-is k buyer,
        owed-buyer y shape seller buyer k yen h,
        due-buyer y shape seller buyer k yen h,
      ))
      (λ j p ne. omega (
        arith,
        at_other k seller j p yen (λ e. (ne e).0),
        at_other k buyer j p yen (λ e. (ne e).1),
        owed-is j p,
        due-is j p,
        owed-other y shape seller buyer k yen h j p ne,
        due-other y shape seller buyer k yen h j p ne,
      ))

  pub traded-step : Words b → sound_book b ≡ true → Step a sale b
  unfolding traded sold_in bought_in delivered_in received_in lots_by forced_by is_run notified_after
  traded-step words sound = record {
    words = words;
    sound = sound;
    given = ap (λ (z : Day). z.given) v;
    runs = ap (λ (z : Day). z.state.runs) v ∙ omega arith;
    notices = λ p i l m. ap (λ (z : Day). cell z.state.notices p i) v;
    moved = λ j p l m. omega (arith, trade-moves j p);
    allocable = λ d i l m. zero-le;
    no_other = λ d i o. refl;
    forced = λ d i. zero-le;
    unforced = λ l d i. refl;
    never = λ e. omega (arith, ap refusal_of e);
  }

-- ---- an accepted notice

module _ (a b : List ℕ) (s : SoundBook a) (q : ℕ) (issues lots : List ℕ) (h : Noticeable (view a) q issues lots) (once : distinct issues ≡ true)
    (v : view b ≡ noticed (view a) q issues lots) where
  notice-row : (p i : ℕ) → i < (view a).given.issues
      → cell (set (view a).state.notices q (notice_row (view a).given.issues issues lots)) p i
      ≡ pick (eqb q p) (named i issues lots) (cell (view a).state.notices p i)
  notice-row p i l = cases (ℕ_discrete p q)
    where
      new : List ℕ
      new = notice_row (view a).given.issues issues lots

      cases : Dec (p ≡ q) → cell (set (view a).state.notices q new) p i ≡ pick (eqb q p) (named i issues lots) (cell (view a).state.notices p i)
      cases (yes e) =
          rw (e, get_or-set_same (view a).state.notices q new [] (omega (arith, (view-shaped a s.readable).notices.rows, h.sender)), eq-eqb q q refl)
          (named-is issues lots once (view a).given.issues i l)
      cases (no ne) = rw (get_or-set_other (view a).state.notices q p new [] ne, ne_eqb q p (λ e. ne (sym e)))

  pub noticed-step : Words b → sound_book b ≡ true → Step a (event (notice q issues lots) accepted [] []) b
  unfolding noticed sold_in bought_in delivered_in received_in lots_by forced_by is_run notified_after
  noticed-step words sound = record {
    words = words;
    sound = sound;
    given = ap (λ (z : Day). z.given) v;
    runs = ap (λ (z : Day). z.state.runs) v ∙ omega arith;
    notices = λ p i l m. ap (λ (z : Day). cell z.state.notices p i) v ∙ notice-row p i m;
    moved = λ j p l m. omega (arith, ap (λ (z : Day). cell z.state.owed j p) v, ap (λ (z : Day). cell z.state.due j p) v);
    allocable = λ d i l m. zero-le;
    no_other = λ d i o. refl;
    forced = λ d i. zero-le;
    unforced = λ l d i. refl;
    never = λ e. omega (arith, ap refusal_of e);
  }

-- ---- an accepted run

table-cell : (n m : ℕ) (f : ℕ → ℕ → ℕ) (p i : ℕ) → p < n → i < m → cell (table n (λ p. table m (f p))) p i ≡ f p i
table-cell n m f p i l k = rw (get_or-table n (λ p. table m (f p)) p [] l) (get_or-table m (f p) i 0 k)

module _ (a b draw matches lines : List ℕ) (h : Runnable (view a) draw) (m l : ℕ) (ms : List MatchEntry) (ls : List LineEntry)
    (handed : ms ≡ map entry_of (allocations (view a) draw)) (listed : ls ≡ map line_of (line_list (allocations (view a) draw)))
    (v : view b ≡ ran (view a) (allocations (view a) draw)) where
  abbrev e : Event
  e = event (run draw matches lines) (counts m l) ms ls

  abbrev done : List Allocation
  done = allocations (view a) draw

  run-lots : (d i : ℕ) → i < (view a).given.issues → lots_by d i ms ls ≡ used done d i + forced_by d i ms
  run-lots d i k = lots-by done ms handed ls listed d i (all-issues (view a) draw h i k) ∙ lots_are done ms handed d i

  -- an issue not of the day has no line, and is not forced
  run-no-issue : (d i : ℕ) → (view a).given.issues ≤ i → (lots_by d i ms ls ≡ 0) × (forced_by d i ms ≡ 0)
  run-no-issue d i o = (
    no-line-lots done ms handed ls listed d i (every_map (Line (view a) done) (λ l. get_or l 1 0 ≢ i) (λ l r e. omega (arith, r.issue)) (line_list done) (line-right (view a) draw h)),
    no-forced done ms handed d i (every_map (Allocated (view a)) (λ x. x.filled.forced ≢ i) (λ x r e. omega (arith, r.forced)) done (allocated (view a) draw h)),
  )

  run-no-other : (d i : ℕ) → ((view a).given.participants ≤ d) ⊎ ((view a).given.issues ≤ i) → lots_by d i ms ls ≡ 0
  run-no-other d i (inr o) = (run-no-issue d i o).0
  run-no-other d i (inl o) = cases (dec_lt i (view a).given.issues)
    where
      cases : Dec (i < (view a).given.issues) → lots_by d i ms ls ≡ 0
      cases (yes k) =
          lots-by done ms handed ls listed d i (all-issues (view a) draw h i k)
          ∙ no-lots-from done d i (every_map (Allocated (view a)) (λ x. x.match.deliverer ≢ d) (λ x r e. omega (arith, r.deliverer)) done (allocated (view a) draw h))
      cases (no k) = (run-no-issue d i (omega arith)).0

  run-forced : (d i : ℕ) → Dec (i < (view a).given.issues) → forced_by d i ms ≤ lots_by d i ms ls
  run-forced d i (yes k) = omega (arith, run-lots d i k)
  run-forced d i (no k) = omega (arith, (run-no-issue d i (omega arith)).1)

  run-moves : (k p : ℕ) → k < 7 → p < (view a).given.participants
      → received_in k p e + cell (view b).state.due k p + cell (view a).state.owed k p ≡ delivered_in k p e + cell (view b).state.owed k p + cell (view a).state.due k p
  unfolding ran
  run-moves k p l q =
      let owed : cell (view b).state.owed k p ≡ cell (view a).state.owed k p - covered_from done k p =
      ap (λ (z : Day). cell z.state.owed k p) v ∙ table-cell 7 (view a).given.participants (λ k p. cell (view a).state.owed k p - covered_from done k p) k p l q in
      let due : cell (view b).state.due k p ≡ cell (view a).state.due k p - covered_to done k p =
      ap (λ (z : Day). cell z.state.due k p) v ∙ table-cell 7 (view a).given.participants (λ k p. cell (view a).state.due k p - covered_to done k p) k p l q in
      omega (arith, owed, due, delivered-is done e handed k p, received_is done e handed k p, covered-from (view a) draw h k p l, covered-to (view a) draw h k p l)

  pub ran-step : Words b → sound_book b ≡ true → Step a e b
  unfolding ran sold_in bought_in is_run notified_after
  ran-step words sound = record {
    words = words;
    sound = sound;
    given = ap (λ (z : Day). z.given) v;
    runs = ap (λ (z : Day). z.state.runs) v;
    notices = λ p i l k. ap (λ (z : Day). cell z.state.notices p i) v ∙ zero-cell (view a).given.participants (view a).given.issues p i l;
    moved = λ k p l q. omega (arith, run-moves k p l q);
    allocable = λ d i l k. omega (arith, run-lots d i k, used-most (view a) draw h d i l k);
    no_other = run-no-other;
    forced = λ d i. run-forced d i (dec_lt i (view a).given.issues);
    unforced = λ l. forced-none done ms handed (every_map (Allocated (view a)) (λ x. x.filled.forced_lots ≡ 0) (λ x r. r.early l) done (allocated (view a) draw h));
    never = λ e. omega (arith, ap refusal_of e);
  }
