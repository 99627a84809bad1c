-- A call on a book is the call on the day that the book is read as: its reply, the day and the lists afterwards, for every book of the right
-- length. So what is computed on tables is true of the calls that the contracts name. Assumes nothing.
use mathlib.Core.Path.{◌≡◌, refl, sym, ap, ◌∙◌, subst}
use Prim.Native.Nat.{ℕ, zero, suc}
use native.Mathlib.Omega.{arith}
use mathlib.Core.Bool.{Bool, true}
use mathlib.Core.List.{List, [], ◌∷◌, ◌++◌, map}
use lib.ListN.{length}
use lib.Dec.{eqb}
use borrow.Author.Tests.{eq-eqb, eqb-true}
use Rattle.lists.specs.Tests.{first}
use Rattle.lists.specs.Folds.{foldl, joined}
use Rattle.lists.specs.Parts.{over}
use Rattle.lists.specs.Tables.{zeros}
use Rattle.lists.proofs.TestLaws.{and_left}
use Rattle.lists.proofs.TableLaws.{length-zeros, get_or-zeros}
use Rattle.lists.proofs.AppendLaws.{over_none}
use Rattle.rule.specs.Day.{Day, given_of, opened, traded, noticed}
use Rattle.rule.specs.Run.{Allocation, allocations, ran, match_list, line_list}
use Rattle.rule.specs.Sound.{sound}
use Rattle.rule.specs.Calls.{Reply, accepted, refused, answer, open_checks, refusal, trade_checks, notice_checks, run_checks, run_reply, close_checks, tomorrow_receipts, tomorrow_pairs}
use Rattle.rule.specs.Layout.{book_length, view, stored, book_fits, sound_book, open_of, trade_of, notice_of, run_of, close_of}
use Rattle.rule.specs.Entries.{MatchEntry, LineEntry, match_of, line_of}
use Rattle.rule.specs.History.{matches_of, lines_of, Call, trade, notice, run, close, Event, History, next, history}
use Rattle.claims.specs.Claims.{Words}
use Rattle.rule.proofs.CallLaws.{opening-sound, trade-sound, notice-sound}
use Rattle.rule.proofs.RunCallLaws.{RunLeaves, run_sound}
use Rattle.claims.proofs.HandedLaws.{entries, matches-are, lines_are}
use Rattle.claims.proofs.WordLaws.{open-words, trade-words, notice-words, run-words}
use Rattle.rule.proofs.DayCalls.{open_day, trade_day, notice_day, run_within, close_within, DayHistory, next_day, day_history}

-- a book of the right length that is read as day y
pub record ReadAs (b : List ℕ) (y : Day) : Type 0 where
  pub size : length b ≡ book_length
  pub words : Words b
  pub day : view b ≡ y

-- a reply and what is left, on the book and on the tables, by one check table: what holds of an accepted call's and of a refused one's
both : {X Y : Type 0} (P : Reply → X → Y → Type 0) (e : ℕ) (reply : Reply) (new old : X) (new' old' : Y) → (e ≡ 0 → P reply new new')
    → ((n : ℕ) → P (refused n) old old')
    → ((answer e reply new old).0 ≡ (answer e reply new' old').0) × P (answer e reply new old).0 (answer e reply new old).1 (answer e reply new' old').1
both P zero reply new old new' old' h k = (refl, h refl)
both P (suc e) reply new old new' old' h k = (refl, k (suc e))

answered : {X : Type 0} (e : ℕ) (reply : Reply) (new old : X) → e ≡ 0 → answer e reply new old ≡ (reply, new)
answered e reply new old h = rw h

sized : (b : List ℕ) → sound_book b ≡ true → length b ≡ book_length
unfolding sound_book book_fits
sized b s = eqb-true (length b) book_length (and_left (eqb (length b) book_length) (sound (view b)) s)

-- what an accepted call leaves
accepted-read : (r : Reply × List ℕ) (new : List ℕ) (y : Day) → r ≡ (accepted, new) → (r.0 ≡ accepted → ReadAs r.1 y) → ReadAs new y
accepted-read r new y e h = subst (λ (x : Reply × List ℕ). ReadAs x.1 y) e (h (ap (λ (x : Reply × List ℕ). x.0) e))

-- what a run leaves on the book and in the lent lists, by its reply
pub record RunReadAs (matches lines : List ℕ) (reply : Reply) (x : List ℕ × List ℕ × List ℕ) (t : Day × List (List ℕ) × List (List ℕ)) : Type 0 where
  pub book : ReadAs x.0 t.0
  -- "writes two lists .. Entries past the counts stay"
  pub match_cells : x.1 ≡ over matches 0 (joined t.1)
  pub line_cells : x.2 ≡ over lines 0 (joined t.2)
  -- what is handed out
  pub matches_read : matches_of reply x.1 ≡ map match_of t.1
  pub lines_read : lines_of reply x.2 ≡ map line_of t.2

module _ (b : List ℕ) (size : length b ≡ book_length) (words : Words b) where
  fits : book_fits b ≡ true
  unfolding book_fits
  fits = eq-eqb (length b) book_length size

  sound-is : sound_book b ≡ sound (view b)
  unfolding sound_book
  sound-is = rw fits

  same : ReadAs b (view b)
  same = record { size = size; words = words; day = refl }

  open-view : (n m : ℕ) (codes terms receipts pairs : List ℕ)
      → ((open_of n m codes terms receipts pairs b).0 ≡ (open_day (view b) n m codes terms receipts pairs).0)
      × ReadAs (open_of n m codes terms receipts pairs b).1 (open_day (view b) n m codes terms receipts pairs).1
  unfolding open_of open_day
  open-view n m codes terms receipts pairs =
      let day : Day = opened (given_of n m codes terms receipts pairs) in
      let new : List ℕ = stored (zeros book_length) day in
      let e : Bool → ℕ = λ fit. first (open_checks fit n m codes terms receipts pairs) in
      subst (λ (fit : Bool).
      ((open_of n m codes terms receipts pairs b).0 ≡ (answer (e fit) accepted day (view b)).0) × ReadAs (open_of n m codes terms receipts pairs b).1 (answer (e fit) accepted day (view b)).1) fits
      (both (λ r x y. ReadAs x y) (e (book_fits b)) accepted new b day (view b)
      (λ z. accepted-read (open_of n m codes terms receipts pairs b) new day (answered (e (book_fits b)) accepted new b z) (λ a.
      let o : _ = opening-sound n m codes terms receipts pairs b a in
      record { size = sized _ o.1; words = open-words n m codes terms receipts pairs b a; day = o.0 }))
      (λ n. same))

  trade-view : (seller buyer k yen : ℕ)
      → ((trade_of b seller buyer k yen).0 ≡ (trade_day (view b) seller buyer k yen).0) × ReadAs (trade_of b seller buyer k yen).1 (trade_day (view b) seller buyer k yen).1
  unfolding trade_of trade_day
  trade-view seller buyer k yen =
      let day : Day = traded (view b) seller buyer k yen in
      let new : List ℕ = stored b day in
      let e : Bool → ℕ = λ s. refusal s (trade_checks (view b) seller buyer k yen) in
      subst (λ (s : Bool). ((trade_of b seller buyer k yen).0 ≡ (answer (e s) accepted day (view b)).0) × ReadAs (trade_of b seller buyer k yen).1 (answer (e s) accepted day (view b)).1) sound-is
      (both (λ r x y. ReadAs x y) (e (sound_book b)) accepted new b day (view b)
      (λ z. accepted-read (trade_of b seller buyer k yen) new day (answered (e (sound_book b)) accepted new b z) (λ a.
      let t : _ = trade-sound b words seller buyer k yen a in
      record { size = sized _ t.1; words = trade-words b words seller buyer k yen a; day = t.0 }))
      (λ n. same))

  notice-view : (p : ℕ) (issues lots : List ℕ)
      → ((notice_of b p issues lots).0 ≡ (notice_day (view b) p issues lots).0) × ReadAs (notice_of b p issues lots).1 (notice_day (view b) p issues lots).1
  unfolding notice_of notice_day
  notice-view p issues lots =
      let day : Day = noticed (view b) p issues lots in
      let new : List ℕ = stored b day in
      let e : Bool → ℕ = λ s. refusal s (notice_checks (view b) p issues lots) in
      subst (λ (s : Bool). ((notice_of b p issues lots).0 ≡ (answer (e s) accepted day (view b)).0) × ReadAs (notice_of b p issues lots).1 (answer (e s) accepted day (view b)).1) sound-is
      (both (λ r x y. ReadAs x y) (e (sound_book b)) accepted new b day (view b)
      (λ z. accepted-read (notice_of b p issues lots) new day (answered (e (sound_book b)) accepted new b z) (λ a.
      let t : _ = notice-sound b words p issues lots a in
      record { size = sized _ t.1; words = notice-words b words p issues lots a; day = t.0 }))
      (λ n. same))

  module _ (draw matches lines : List ℕ) where
    abbrev done : List Allocation
    done = allocations (view b) draw

    abbrev written : List ℕ × List ℕ × List ℕ
    written = (stored b (ran (view b) done), over matches 0 (joined (match_list done)), over lines 0 (joined (line_list done)))

    abbrev tables : Day × List (List ℕ) × List (List ℕ)
    tables = (ran (view b) done, match_list done, line_list done)

    ran-read : (run_of b draw matches lines).0 ≡ run_reply done → RunReadAs matches lines (run_reply done) (run_of b draw matches lines).1 tables
    unfolding run_reply
    ran-read a =
        let m : ℕ = length done in
        let l : ℕ = length (line_list done) in
        let t : RunLeaves b draw matches lines m l = run_sound b words draw matches lines m l a in
        record {
          book = record { size = sized _ t.sound_after; words = run-words b words draw matches lines m l a; day = t.view_after };
          match_cells = t.matches_after;
          line_cells = t.lines_after;
          matches_read = matches-are b draw matches lines m l t ∙ sym (entries done);
          lines_read = lines_are b draw matches lines m l t;
        }

    stays-read : (n : ℕ) → RunReadAs matches lines (refused n) (b, matches, lines) (view b, [], [])
    unfolding matches_of lines_of
    stays-read n = record { book = same; match_cells = sym (over_none matches 0); line_cells = sym (over_none lines 0); matches_read = refl; lines_read = refl }

    run-view :
        ((run_of b draw matches lines).0 ≡ (run_within (view b) draw (length matches) (length lines)).0)
        × RunReadAs matches lines (run_of b draw matches lines).0 (run_of b draw matches lines).1 (run_within (view b) draw (length matches) (length lines)).1
    unfolding run_of run_within
    run-view =
        let e : Bool → ℕ = λ s. refusal s (run_checks (view b) draw (length matches) (length lines)) in
        let old : Day × List (List ℕ) × List (List ℕ) = (view b, [], []) in
        let made : Reply × (List ℕ × List ℕ × List ℕ) = run_of b draw matches lines in
        let read : Bool → Reply × (Day × List (List ℕ) × List (List ℕ)) = λ s. answer (e s) (run_reply done) tables old in
        subst (λ (s : Bool). (made.0 ≡ (read s).0) × RunReadAs matches lines made.0 made.1 (read s).1) sound-is
        (both (RunReadAs matches lines) (e (sound_book b)) (run_reply done) written (b, matches, lines) tables old
        (λ z.
        let r : ◌≡◌ {A = Reply × (List ℕ × List ℕ × List ℕ)} (run_of b draw matches lines) (run_reply done, written) = answered (e (sound_book b)) (run_reply done) written (b, matches, lines) z in
        subst (λ (x : Reply × (List ℕ × List ℕ × List ℕ)). RunReadAs matches lines (run_reply done) x.1 tables) r
        (ran-read (ap (λ (x : Reply × (List ℕ × List ℕ × List ℕ)). x.0) r)))
        stays-read)

  module _ (receipts pairs : List ℕ) where
    -- "Close .. writes tomorrow's scheduled receipts .. and pairs"
    abbrev CloseReadAs : Reply → List ℕ × List ℕ → List (List ℕ) × List (List (List ℕ)) → Type 0
    CloseReadAs reply x t = (x.0 ≡ over receipts 0 (joined t.0)) × (x.1 ≡ over pairs 0 (joined (map joined t.1)))

    pub close-view :
        ((close_of b receipts pairs).0 ≡ (close_within (view b) (length receipts) (length pairs)).0)
        × CloseReadAs (close_of b receipts pairs).0 (close_of b receipts pairs).1 (close_within (view b) (length receipts) (length pairs)).1
    unfolding close_of close_within
    close-view =
        let e : Bool → ℕ = λ s. refusal s (close_checks (view b) (length receipts) (length pairs)) in
        let tables : List (List ℕ) × List (List (List ℕ)) = (tomorrow_receipts (view b), tomorrow_pairs (view b)) in
        let new : List ℕ × List ℕ = (over receipts 0 (joined tables.0), over pairs 0 (joined (map joined tables.1))) in
        let none : List (List ℕ) × List (List (List ℕ)) = ([], []) in
        let made : Reply × (List ℕ × List ℕ) = close_of b receipts pairs in
        let read : Bool → Reply × (List (List ℕ) × List (List (List ℕ))) = λ s. answer (e s) accepted tables none in
        subst (λ (s : Bool). (made.0 ≡ (read s).0) × CloseReadAs made.0 made.1 (read s).1) sound-is
        (both CloseReadAs (e (sound_book b)) accepted new (receipts, pairs) tables none (λ z. (refl, refl)) (λ n. (sym (over_none receipts 0), sym (over_none pairs 0))))

-- ---- of a book that is read as day y

module _ {b : List ℕ} {y : Day} (s : ReadAs b y) where
  pub open-viewed : (n m : ℕ) (codes terms receipts pairs : List ℕ)
      → ((open_of n m codes terms receipts pairs b).0 ≡ (open_day y n m codes terms receipts pairs).0)
      × ReadAs (open_of n m codes terms receipts pairs b).1 (open_day y n m codes terms receipts pairs).1
  open-viewed n m codes terms receipts pairs =
      let made : Reply × List ℕ = open_of n m codes terms receipts pairs b in
      let read : Day → Reply × Day = λ x. open_day x n m codes terms receipts pairs in
      subst (λ (x : Day). (made.0 ≡ (read x).0) × ReadAs made.1 (read x).1) s.day (open-view b s.size s.words n m codes terms receipts pairs)

  pub trade-viewed : (seller buyer k yen : ℕ)
      → ((trade_of b seller buyer k yen).0 ≡ (trade_day y seller buyer k yen).0) × ReadAs (trade_of b seller buyer k yen).1 (trade_day y seller buyer k yen).1
  trade-viewed seller buyer k yen =
      subst (λ (x : Day). ((trade_of b seller buyer k yen).0 ≡ (trade_day x seller buyer k yen).0) × ReadAs (trade_of b seller buyer k yen).1 (trade_day x seller buyer k yen).1)
      s.day (trade-view b s.size s.words seller buyer k yen)

  pub notice-viewed : (p : ℕ) (issues lots : List ℕ)
      → ((notice_of b p issues lots).0 ≡ (notice_day y p issues lots).0) × ReadAs (notice_of b p issues lots).1 (notice_day y p issues lots).1
  notice-viewed p issues lots =
      subst (λ (x : Day). ((notice_of b p issues lots).0 ≡ (notice_day x p issues lots).0) × ReadAs (notice_of b p issues lots).1 (notice_day x p issues lots).1)
      s.day (notice-view b s.size s.words p issues lots)

  pub run-viewed : (draw matches lines : List ℕ)
      → ((run_of b draw matches lines).0 ≡ (run_within y draw (length matches) (length lines)).0)
      × RunReadAs matches lines (run_of b draw matches lines).0 (run_of b draw matches lines).1 (run_within y draw (length matches) (length lines)).1
  run-viewed draw matches lines =
      subst (λ (x : Day).
      ((run_of b draw matches lines).0 ≡ (run_within x draw (length matches) (length lines)).0)
      × RunReadAs matches lines (run_of b draw matches lines).0 (run_of b draw matches lines).1 (run_within x draw (length matches) (length lines)).1)
      s.day (run-view b s.size s.words draw matches lines)

  pub close-viewed : (receipts pairs : List ℕ) → (close_of b receipts pairs).0 ≡ (close_within y (length receipts) (length pairs)).0
  close-viewed receipts pairs =
      subst (λ (x : Day). (close_of b receipts pairs).0 ≡ (close_within x (length receipts) (length pairs)).0) s.day (close-view b s.size s.words receipts pairs).0

-- ---- calls one after the other

pub record SameHistory (h : History) (d : DayHistory) : Type 0 where
  pub events : h.events ≡ d.events
  pub book : ReadAs h.book d.day

-- one event more
told : (c : Call) (events events' : List Event) (reply reply' : Reply) (ms ms' : List MatchEntry) (ls ls' : List LineEntry)
    → events ≡ events' → reply ≡ reply' → ms ≡ ms' → ls ≡ ls'
    → events ++ (record { call = c; reply = reply; matches = ms; lines = ls } ∷ []) ≡ events' ++ (record { call = c; reply = reply'; matches = ms'; lines = ls' } ∷ [])
told c events events' reply reply' ms ms' ls ls' e r m l = cc

next-viewed : (h : History) (d : DayHistory) (c : Call) → SameHistory h d → SameHistory (next h c) (next_day d c)
unfolding next next_day
next-viewed h d (trade seller buyer k yen) s =
    let t : _ = trade-viewed s.book seller buyer k yen in
    record { events = told _ h.events d.events _ _ _ _ _ _ s.events t.0 refl refl; book = t.1 }
next-viewed h d (notice p issues lots) s =
    let t : _ = notice-viewed s.book p issues lots in
    record { events = told _ h.events d.events _ _ _ _ _ _ s.events t.0 refl refl; book = t.1 }
next-viewed h d (run draw matches lines) s =
    let t : _ = run-viewed s.book draw matches lines in
    record { events = told _ h.events d.events _ _ _ _ _ _ s.events t.0 t.1.matches_read t.1.lines_read; book = t.1.book }
next-viewed h d (close receipts pairs) s =
    record { events = told _ h.events d.events _ _ _ _ _ _ s.events (close-viewed s.book receipts pairs) refl refl; book = s.book }

calls-viewed : (calls : List Call) (h : History) (d : DayHistory) → SameHistory h d → SameHistory (foldl next h calls) (foldl next_day d calls)
calls-viewed [] h d s = s
calls-viewed (c ∷ calls) h d s = calls-viewed calls (next h c) (next_day d c) (next-viewed h d c s)

pub history-viewed : {b : List ℕ} {y : Day} → ReadAs b y → (calls : List Call) → SameHistory (history b calls) (day_history y calls)
unfolding history day_history
history-viewed s calls = calls-viewed calls _ _ (record { events = refl; book = s })

-- the book of zeros that the worked days begin with
pub zeros-read : ReadAs (zeros book_length) (view (zeros book_length))
zeros-read = record { size = length-zeros book_length; words = λ j. rw (get_or-zeros book_length j) (omega arith); day = refl }
