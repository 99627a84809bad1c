-- Document 01, "We agree": the demands, as claims about what the calls answer, write and leave, for every book and every list of calls. They
-- are proved in proofs/Demands.antt. Assumes nothing.
use Rattle.std.specs.Prelude.{◌≡◌, ◌≢◌, ◌⊎◌, ℕ, suc, ◌+◌, ◌-◌, ◌*◌, ◌≤◌, ◌<◌, min, Bool, true, false, ◌&&◌, List, [], ◌∷◌, ◌++◌, length, get_or, take, eqb, ltb}
use Rattle.lists.specs.Tests.{pick, member}
use Rattle.lists.specs.Tables.{up_to, table, zeros, cell, less}
use Rattle.lists.specs.Folds.{foldl, total, sum, keep}
use Rattle.lists.specs.Parts.{block}
use Rattle.rule.specs.Value.{no_terms}
use Rattle.rule.specs.Baskets.{within}
use Rattle.rule.specs.Allocable.{Marks, no_marks}
use Rattle.rule.specs.Filling.{worth}
use Rattle.rule.specs.Day.{Given, Day, baskets, given_of}
use Rattle.rule.specs.Run.{Allocation, allocations, line_list}
use Rattle.rule.specs.Entries.{MatchEntry, LineEntry, match_of, line_of}
use Rattle.rule.specs.History.{Call, trade, notice, run, close, Event, History, history, matches_of, lines_of}
use Rattle.rule.specs.Calls.{Reply, accepted, counts, refused, most_matches, most_lines}
use Rattle.rule.specs.Layout.{position_cell, plus, minus, view, sound_book, open_of, trade_of, notice_of, run_of, close_of}

-- ---- demand 1: every call, whatever it is given, answers by the check table, and a refused one changes nothing

-- a refusal with one of the numbers of the call's place, "alone; book and lists stay": what was lent is as it was
pub record RefusedWith {X : Type 0} (numbers : List ℕ) (lent : X) (r : Reply × X) : Type 0 where
  pub number : ℕ
  pub listed : member number numbers ≡ true
  pub stays : r ≡ (refused number, lent)

-- "A run returns its counts"
pub record Counted (r : Reply) : Type 0 where
  pub matches : ℕ
  pub lines : ℕ
  pub told : r ≡ counts matches lines

pub record Demand1 : Type 0 where
  pub opening : (n m : ℕ) (codes terms receipts pairs b : List ℕ)
      → let r : Reply × List ℕ = open_of n m codes terms receipts pairs b in
      (r.0 ≡ accepted) ⊎ RefusedWith (1 ∷ 2 ∷ 3 ∷ 4 ∷ []) b r
  pub trade : (b : List ℕ) (seller buyer k yen : ℕ)
      → let r : Reply × List ℕ = trade_of b seller buyer k yen in
      (r.0 ≡ accepted) ⊎ RefusedWith (5 ∷ 6 ∷ 7 ∷ 8 ∷ 9 ∷ 10 ∷ 11 ∷ []) b r
  pub notice : (b : List ℕ) (p : ℕ) (issues lots : List ℕ)
      → let r : Reply × List ℕ = notice_of b p issues lots in
      (r.0 ≡ accepted) ⊎ RefusedWith (5 ∷ 6 ∷ 7 ∷ 12 ∷ 13 ∷ []) b r
  pub run : (b draw matches lines : List ℕ)
      → let r : Reply × (List ℕ × List ℕ × List ℕ) = run_of b draw matches lines in
      Counted r.0 ⊎ RefusedWith (5 ∷ 6 ∷ 14 ∷ 15 ∷ []) (b, matches, lines) r
  pub close : (b receipts pairs : List ℕ)
      → let r : Reply × (List ℕ × List ℕ) = close_of b receipts pairs in
      (r.0 ≡ accepted) ⊎ RefusedWith (5 ∷ 16 ∷ 15 ∷ []) (receipts, pairs) r

-- ---- the lists that a run hands out

-- what a read past the last entry gives
abbrev pub no_match_entry : MatchEntry
no_match_entry = match_of []

abbrev pub no_line_entry : LineEntry
no_line_entry = line_of []

-- match j's lots of issue i
unfoldable pub lots_in : List LineEntry → ℕ → ℕ → ℕ
lots_in lines j i = total (λ l. pick (eqb l.match j && eqb l.issue i) l.lots 0) lines

-- deliverer d's lots of issue i, over all baskets, and the forced ones among them
unfoldable pub lots_by : ℕ → ℕ → List MatchEntry → List LineEntry → ℕ
lots_by d i matches lines = total (λ l. pick (eqb (get_or matches l.match no_match_entry).deliverer d && eqb l.issue i) l.lots 0) lines

unfoldable pub forced_by : ℕ → ℕ → List MatchEntry → ℕ
forced_by d i matches = total (λ m. pick (eqb m.deliverer d && eqb m.forced i) m.forced_lots 0) matches

-- ---- demand 2: an accepted run, on whatever book

-- a cell is a number of 64 bits
abbrev pub Words : List ℕ → Type 0
Words b = (j : ℕ) → get_or b j 0 < 18446744073709551616

-- the allocable quantity, of an issue of these marks: "In run 1 it is the smaller of the notified lots and the scheduled receipt, and 0 for
-- an issue redeemed on the following day. In runs 2 and 3 it is the notified lots, and 0 for an issue with either mark"
unfoldable pub quantity : ℕ → Marks → ℕ → ℕ → ℕ
quantity runs_done marks notified scheduled =
    pick (eqb runs_done 0) (pick (ltb 0 marks.redeemed) 0 (min notified scheduled)) (pick (ltb 0 (marks.redeemed + marks.interest)) 0 notified)

-- lots of issue i that match j's deliverer used in the matches before it: "Lots used earlier in the same run are gone; forced lots never
-- count as used"
unfoldable pub used_before : List MatchEntry → List LineEntry → ℕ → ℕ → ℕ
used_before matches lines j i =
    let d : ℕ = (get_or matches j no_match_entry).deliverer in
    lots_by d i matches (keep (λ l. ltb l.match j) lines) - forced_by d i (take j matches)

-- what match j may use of each issue. "Outside the basket nothing may be used"
unfoldable pub usable_in : Day → List MatchEntry → List LineEntry → ℕ → List ℕ
usable_in y matches lines j =
    let m : MatchEntry = get_or matches j no_match_entry in
    let d : ℕ = m.deliverer in
    table y.given.issues (λ i.
    pick (within m.basket (get_or y.given.terms i no_terms))
    (quantity y.state.runs (get_or y.given.marks i no_marks) (cell y.state.notices d i) (cell y.given.receipts d i) - used_before matches lines j i) 0)

-- of the matched yen these are covered, and the rest is the shortage "rounded up to 10,000,000 yen, at most the amount": as few times
-- 10,000,000 yen as make it up; `-` stops at 0
pub record Short (matched usable_worth covered : ℕ) : Type 0 where
  pub times : ℕ
  pub makes_up : matched - usable_worth ≤ 10000000 * times
  pub no_more : 10000000 * times < matched - usable_worth + 10000000
  pub rest : covered ≡ matched - 10000000 * times

-- a match on day y, with what it may use and its lots, by issue, and the issue that was taken last
pub record MatchHolds (y : Day) (m : MatchEntry) (usable lots : List ℕ) (last : ℕ) : Type 0 where
  -- two participants of the day in one of its baskets, and some yen
  pub basket : m.basket < baskets
  pub deliverer : m.deliverer < y.given.participants
  pub receiver : m.receiver < y.given.participants
  pub apart : m.deliverer ≢ m.receiver
  pub some : 0 < m.matched
  -- "If all usable lots are worth less than the amount, in runs 1 and 2 the shortage .. stays in both positions; the rest is the covered
  -- amount"; else all of it is covered, and so it is in run 3
  pub enough : m.matched ≤ worth y.given.terms usable → m.covered ≡ m.matched
  pub short : y.state.runs < 2 → worth y.given.terms usable < m.matched → Short m.matched (worth y.given.terms usable) m.covered
  pub third : y.state.runs ≡ 2 → m.covered ≡ m.matched
  -- the lots are worth at least the covered amount, and where that is above 0 one lot fewer of the issue taken last is worth less
  pub reached : m.covered ≤ worth y.given.terms lots
  pub needed : 0 < m.covered → (0 < get_or lots last 0) × (worth y.given.terms (less lots last 1) < m.covered)
  -- "lots with forced ones"; all but those may be used
  pub used : (i : ℕ) → i < y.given.issues → get_or lots i 0 ≤ get_or usable i 0 + pick (eqb i m.forced) m.forced_lots 0
  pub forced : m.forced_lots ≤ get_or lots m.forced 0
  -- "In run 3 all usable lots go", and some are forced, only where they are worth less than the amount
  pub forced_only : 0 < m.forced_lots
      → (y.state.runs ≡ 2) × (worth y.given.terms usable < m.matched)
      × ((i : ℕ) → i < y.given.issues → get_or lots i 0 ≡ get_or usable i 0 + pick (eqb i m.forced) m.forced_lots 0)

-- a line stands before the next: "issues rise within a match"
abbrev pub Rises : LineEntry → LineEntry → Type 0
Rises a b = (a.match < b.match) ⊎ ((a.match ≡ b.match) × (a.issue < b.issue))

-- a run on day y handed out these matches and lines; done are the matches of the definition, which say what was taken last
pub record RunHolds (y : Day) (done : List Allocation) (m : ℕ) (matches : List MatchEntry) (l : ℕ) (lines : List LineEntry) : Type 0 where
  -- "A run returns its counts"
  pub match_count : m ≡ length done
  pub line_count : l ≡ length (line_list done)
  pub few_matches : m ≤ most_matches
  pub few_lines : l ≤ most_lines
  pub each : (j : ℕ) (a : Allocation) → j < m
      → MatchHolds y (get_or matches j no_match_entry) (usable_in y matches lines j) (table y.given.issues (lots_in lines j)) (get_or done j a).filled.last
  -- "until nothing is left": every position is matched whole
  pub owed : (k p : ℕ) → k < baskets → p < y.given.participants
      → total (λ x. pick (eqb x.basket k && eqb x.deliverer p) x.matched 0) matches ≡ cell y.state.owed k p
  pub due : (k p : ℕ) → k < baskets → p < y.given.participants
      → total (λ x. pick (eqb x.basket k && eqb x.receiver p) x.matched 0) matches ≡ cell y.state.due k p
  -- "Covered 0 has no line"
  pub no_line : (i j : ℕ) → (get_or matches j no_match_entry).covered ≡ 0 → lots_in lines j i ≡ 0
  -- a line's match and issue are there, and it has lots
  pub of_match : (q : ℕ) → q < l → (get_or lines q no_line_entry).match < m
  pub of_day : (q : ℕ) → q < l → (get_or lines q no_line_entry).issue < y.given.issues
  pub some : (q : ℕ) → q < l → 0 < (get_or lines q no_line_entry).lots
  pub rise : (q : ℕ) → suc q < l → Rises (get_or lines q no_line_entry) (get_or lines (suc q) no_line_entry)

unfoldable pub Demand2 : Type 0
Demand2 = (b draw matches lines : List ℕ) (m l : ℕ) → Words b
    → let r : Reply × (List ℕ × List ℕ × List ℕ) = run_of b draw matches lines in
    r.0 ≡ counts m l → RunHolds (view b) (allocations (view b) draw) m (matches_of r.0 r.1.1) l (lines_of r.0 r.1.2)

-- ---- what is read off a history, from replies and lists alone

-- "A call is accepted if it returns no refusal"
abbrev pub is_accepted : Reply → Bool
is_accepted accepted = true
is_accepted (counts m l) = true
is_accepted (refused e) = false

-- yen of an accepted trade in basket k, of seller p and of buyer p
unfoldable pub sold_in : ℕ → ℕ → Event → ℕ
sold_in k p e = pick (is_accepted e.reply) (sale e.call) 0
  where
    sale : Call → ℕ
    sale (trade seller buyer j yen) = pick (eqb j k && eqb seller p) yen 0
    sale (notice q issues lots) = 0
    sale (run draw matches lines) = 0
    sale (close receipts pairs) = 0

unfoldable pub bought_in : ℕ → ℕ → Event → ℕ
bought_in k p e = pick (is_accepted e.reply) (purchase e.call) 0
  where
    purchase : Call → ℕ
    purchase (trade seller buyer j yen) = pick (eqb j k && eqb buyer p) yen 0
    purchase (notice q issues lots) = 0
    purchase (run draw matches lines) = 0
    purchase (close receipts pairs) = 0

-- covered yen in basket k of deliverer p and of receiver p
unfoldable pub delivered_in : ℕ → ℕ → Event → ℕ
delivered_in k p e = total (λ m. pick (eqb m.basket k && eqb m.deliverer p) m.covered 0) e.matches

unfoldable pub received_in : ℕ → ℕ → Event → ℕ
received_in k p e = total (λ m. pick (eqb m.basket k && eqb m.receiver p) m.covered 0) e.matches

-- an accepted run
unfoldable pub is_run : Event → Bool
is_run e = ran e.call && is_accepted e.reply
  where
    ran : Call → Bool
    ran (trade seller buyer k yen) = false
    ran (notice p issues lots) = false
    ran (run draw matches lines) = true
    ran (close receipts pairs) = false

unfoldable pub runs_in : List Event → ℕ
runs_in events = total (λ e. pick (is_run e) 1 0) events

-- lots of issue i in a notice's entries, "unnamed issues counting 0"; an accepted notice names no issue twice
unfoldable pub named : ℕ → List ℕ → List ℕ → ℕ
named i issues lots = total (λ j. pick (eqb (get_or issues j 0) i) (get_or lots j 0) 0) (up_to (length issues))

-- "Notified lots are those of a participant's last accepted notice since the last accepted run, or since the opening before run 1; 0 if
-- none": of participant p and issue i
unfoldable pub notified_after : ℕ → ℕ → ℕ → Event → ℕ
notified_after p i before e = pick (is_accepted e.reply) (after e.call) before
  where
    after : Call → ℕ
    after (trade seller buyer k yen) = before
    after (notice q issues lots) = pick (eqb q p) (named i issues lots) before
    after (run draw matches lines) = 0
    after (close receipts pairs) = before

unfoldable pub notified : List Event → ℕ → ℕ → ℕ
notified events p i = foldl (notified_after p i) 0 events

-- "The allocable quantity follows from these and the opening data by the rule above, before any lot is used in that run"
unfoldable pub allocable_then : Given → List Event → ℕ → ℕ → ℕ
allocable_then g before d i = quantity (runs_in before) (get_or g.marks i no_marks) (notified before d i) (cell g.receipts d i)

-- ---- demand 3: one claim about a whole list of calls

-- what event e keeps to, after the events before it
pub record EventHolds (g : Given) (before : List Event) (e : Event) : Type 0 where
  -- a deliverer's lots of an issue, over all baskets and less those forced, are at most its allocable quantity in that run
  pub allocable : (d i : ℕ) → lots_by d i e.matches e.lines ≤ allocable_then g before d i + forced_by d i e.matches
  -- the forced lots are among them
  pub forced : (d i : ℕ) → forced_by d i e.matches ≤ lots_by d i e.matches e.lines
  -- nothing is forced before the third accepted run
  pub unforced : runs_in before < 2 → (d i : ℕ) → forced_by d i e.matches ≡ 0

-- "Of all this only the position standing is read from the book": participant p's in basket k, at its place. It is `plus` of it less `minus`
-- of it
abbrev pub standing : List ℕ → ℕ → ℕ → ℕ
standing b k p = get_or b (position_cell k p) 0

-- of a day that was opened with g
pub record HistoryHolds (g : Given) (h : History) : Type 0 where
  -- sold yen less bought, less covered as deliverer, and covered as receiver, are the position standing
  pub conserved : (k p : ℕ) → k < baskets → p < g.participants
      → total (sold_in k p) h.events + total (received_in k p) h.events + minus (standing h.book k p)
      ≡ total (bought_in k p) h.events + total (delivered_in k p) h.events + plus (standing h.book k p)
  -- each basket's positions sum to zero
  pub even : (k : ℕ) → k < baskets
      → sum (table g.participants (λ p. plus (standing h.book k p))) ≡ sum (table g.participants (λ p. minus (standing h.book k p)))
  pub each : (before after : List Event) (e : Event) → h.events ≡ before ++ (e ∷ after) → EventHolds g before e
  -- once the third run is accepted every position is zero
  pub zero : 3 ≤ runs_in h.events → (k p : ℕ) → k < baskets → p < g.participants → standing h.book k p ≡ 0

unfoldable pub Demand3 : Type 0
Demand3 = (n m : ℕ) (codes terms receipts pairs b : List ℕ) (calls : List Call)
    → let r : Reply × List ℕ = open_of n m codes terms receipts pairs b in
    r.0 ≡ accepted → HistoryHolds (given_of n m codes terms receipts pairs) (history r.1 calls)

-- ---- no list of calls leads to an unsound book

pub record StaysSound (h : History) : Type 0 where
  pub sound : sound_book h.book ≡ true
  pub never_unsound : (before after : List Event) (e : Event) → h.events ≡ before ++ (e ∷ after) → e.reply ≢ refused 5
  -- "runs done": three at most
  pub runs : (runs_in h.events ≡ (view h.book).state.runs) × (runs_in h.events ≤ 3)

unfoldable pub Soundness : Type 0
Soundness = (n m : ℕ) (codes terms receipts pairs b : List ℕ) (calls : List Call)
    → let r : Reply × List ℕ = open_of n m codes terms receipts pairs b in
    r.0 ≡ accepted → StaysSound (history r.1 calls)

-- ---- the day can follow the day: tomorrow's opening takes what close wrote, wherever it takes tomorrow's issues with no receipts and pairs

unfoldable pub Following : Type 0
Following = (n m : ℕ) (codes terms receipts pairs b : List ℕ) (calls : List Call) (new_codes new_terms new_receipts new_pairs : List ℕ)
    → let r : Reply × List ℕ = open_of n m codes terms receipts pairs b in
    let h : History = history r.1 calls in
    let c : Reply × (List ℕ × List ℕ) = close_of h.book new_receipts new_pairs in
    r.0 ≡ accepted → runs_in h.events ≡ 3 → n * m ≤ length new_receipts → baskets * (n * n) ≤ length new_pairs
    → (open_of n m new_codes new_terms (zeros (n * m)) (zeros (baskets * (n * n))) h.book).0 ≡ accepted
    → (c.0 ≡ accepted) × ((open_of n m new_codes new_terms (block c.1.0 0 (n * m)) (block c.1.1 0 (baskets * (n * n))) h.book).0 ≡ accepted)
