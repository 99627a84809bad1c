-- Laws of a notice: one row of the book is written, and no other cell; an accepted one leaves a sound day. Assumes nothing.
use mathlib.Core.Path.{◌≡◌, sym, ◌∙◌, subst}
use mathlib.Core.Logic.{◌⊎◌, inl, inr, ◌≢◌}
use Prim.Native.Nat.{ℕ, ◌+◌, ◌≤◌, ◌<◌}
use native.Mathlib.Decide.{dec_lt, ℕ_discrete}
use native.Mathlib.Omega.{arith}
use mathlib.Core.Bool.{true}
use mathlib.Core.List.{List, []}
use lib.ListN.{length, get_or, set, length-set}
use lib.Seq.{get_or-set_same, get_or-set_other}
use Rattle.lists.specs.Tables.{up_to, zeros, row, cell}
use Rattle.lists.specs.Folds.{joined, Every}
use Rattle.lists.specs.Parts.{over}
use Rattle.lists.proofs.FoldLaws.{fold-kept, every-from}
use Rattle.lists.proofs.TableLaws.{length-table, get_or-zeros, set-kept}
use Rattle.lists.proofs.PartLaws.{Outside, Shape, Stands, length_over, over-in, over-out}
use Rattle.rule.specs.Day.{Day, notice_row, noticed}
use Rattle.rule.specs.Layout.{notices_at, today_at, view, tables_of, stored, lots_cell, lots_row, most_issues}
use Rattle.rule.specs.Calls.{distinct}
use Rattle.rule.specs.Sound.{notice_limit}
use Rattle.rule.proofs.SoundLaws.{Most, SoundDay}
use Rattle.rule.proofs.LayoutLaws.{Shaped, Holds, Readable, given-kept, positions-kept, today-kept, tally-kept, outside-notice, view-shaped, view-holds, stored_is}

-- ---- the row of a notice

abbrev entry : List ℕ → List ℕ → List ℕ → ℕ → List ℕ
entry issues lots r j = set r (get_or issues j 0) (get_or lots j 0)

pub length-notice_row : (m : ℕ) (issues lots : List ℕ) → length (notice_row m issues lots) ≡ m
unfolding notice_row
length-notice_row m issues lots =
    fold-kept (λ (r : List ℕ). length r ≡ m) (λ (j : ℕ). j < length issues) (entry issues lots) (λ r j q h. length-set r (get_or issues j 0) (get_or lots j 0) ∙ h)
    (up_to (length issues)) (every-from (λ j. j < length issues) 0 (length issues) (λ j a b. omega arith)) (zeros m) (length-table m (λ i. 0))

pub notice_row-most : (m : ℕ) (issues lots : List ℕ) → ((j : ℕ) → j < length issues → get_or lots j 0 ≤ notice_limit) → (i : ℕ) → get_or (notice_row m issues lots) i 0 ≤ notice_limit
unfolding notice_row
notice_row-most m issues lots few i =
    fold-kept (λ (r : List ℕ). get_or r i 0 ≤ notice_limit) (λ (j : ℕ). j < length issues) (entry issues lots)
    (λ r j q h. set-kept (λ (a b : ℕ). b ≤ notice_limit) r (get_or issues j 0) (get_or lots j 0) i (λ e. few j q) h)
    (up_to (length issues)) (every-from (λ j. j < length issues) 0 (length issues) (λ j a b. omega arith)) (zeros m) (omega (arith, get_or-zeros m i))

-- what an accepted notice has shown
pub record Noticeable (y : Day) (p : ℕ) (issues lots : List ℕ) : Type 0 where
  pub sender : p < y.given.participants
  pub runs : y.state.runs < 3
  pub named : (j : ℕ) → j < length issues → get_or issues j 0 < y.given.issues
  pub once : distinct issues ≡ true
  pub few : (j : ℕ) → j < length issues → get_or lots j 0 ≤ notice_limit

module _ (y : Day) (s : Shaped y) (p : ℕ) (issues lots : List ℕ) (h : Noticeable y p issues lots) where
  abbrev n : ℕ
  n = y.given.participants

  abbrev m : ℕ
  m = y.given.issues

  abbrev pub notice_of_sender : List ℕ
  notice_of_sender = notice_row m issues lots

  abbrev pub rows : List (List ℕ)
  rows = set y.state.notices p notice_of_sender

  row-sender : row rows p ≡ notice_of_sender
  row-sender = get_or-set_same y.state.notices p notice_of_sender [] (omega (arith, s.notices.rows, h.sender))

  row_other : (q : ℕ) → q ≢ p → row rows q ≡ row y.state.notices q
  row_other q ne = get_or-set_other y.state.notices p q notice_of_sender [] ne

  rows-shape : Shape rows n m
  rows-shape = record { rows = length-set y.state.notices p notice_of_sender ∙ s.notices.rows; cells = λ q l. go q l (ℕ_discrete q p) }
    where
      go : (q : ℕ) → q < n → Dec (q ≡ p) → length (row rows q) ≡ m
      go q l (yes e) = rw (e, row-sender) (length-notice_row m issues lots)
      go q l (no ne) = rw (row_other q ne) (s.notices.cells q l)

  pub noticed-shaped : Shaped (noticed y p issues lots)
  unfolding noticed
  noticed-shaped = record {
    given = s.given;
    owed = s.owed;
    due = s.due;
    notices = rows-shape;
    today = s.today;
    today_baskets = s.today_baskets;
    delivered = s.delivered;
    received = s.received;
  }

  rows-most : SoundDay y → Most notice_limit n m rows
  rows-most z q i l k = go (ℕ_discrete q p)
    where
      go : Dec (q ≡ p) → cell rows q i ≤ notice_limit
      go (yes e) = rw (e, row-sender) (notice_row-most m issues lots h.few i)
      go (no ne) = rw (row_other q ne) (z.limits.notices q i l k)

  pub noticed-sound : SoundDay y → SoundDay (noticed y p issues lots)
  unfolding noticed
  noticed-sound z = record {
    limits = record { runs = z.limits.runs; notices = rows-most z; trades = z.limits.trades };
    given = z.given;
    positions = z.positions;
    tallies = z.tallies;
    today = z.today;
    done = λ e. absurd (omega (arith, h.runs));
  }

-- ---- in the book

module _ (b : List ℕ) (r : Readable b) (p : ℕ) (issues lots : List ℕ) (h : Noticeable (view b) p issues lots) where
  abbrev y : Day
  y = view b

  abbrev s : Shaped (view b)
  s = view-shaped b r

  abbrev written : List ℕ
  written = notice_of_sender y s p issues lots h

  abbrev at : ℕ
  at = lots_row notices_at p

  abbrev after : List ℕ
  after = over b at written

  fits : at + length written ≤ length b
  fits = omega (arith, length-notice_row y.given.issues issues lots, s.given.few, s.given.most, h.sender, r.size)

  after-out : (j : ℕ) → (j < at) ⊎ (at + y.given.issues ≤ j) → get_or after j 0 ≡ get_or b j 0
  after-out j w = over-out b written at fits j (subst (λ (k : ℕ). (j < at) ⊎ (at + k ≤ j)) (sym (length-notice_row y.given.issues issues lots)) w)

  notices-stand : Stands after notices_at most_issues y.given.participants y.given.issues (rows y s p issues lots h)
  notices-stand q i l k = go (ℕ_discrete q p)
    where
      go : Dec (q ≡ p) → get_or after (lots_cell notices_at q i) 0 ≡ cell (rows y s p issues lots h) q i
      go (yes e) = rw (e, row-sender y s p issues lots h) (over-in b written at fits i (omega (arith, length-notice_row y.given.issues issues lots)))
      go (no ne) = rw (row_other y s p issues lots h q ne) (after-out (lots_cell notices_at q i) (apart (dec_lt q p)) ∙ (view-holds b r).notices q i l k)
        where
          apart : Dec (q < p) → (lots_cell notices_at q i < at) ⊎ (at + y.given.issues ≤ lots_cell notices_at q i)
          apart (yes a) = inl (omega (arith, s.given.most))
          apart (no a) = inr (omega (arith, s.given.most))

  after_holds : Holds after (noticed y p issues lots)
  unfolding noticed
  after_holds =
      let v : Holds b y = view-holds b r in
      let first : (j : ℕ) → j < notices_at → get_or after j 0 ≡ get_or b j 0 = λ j l. after-out j (inl (omega arith)) in
      let last : (j : ℕ) → today_at ≤ j → get_or after j 0 ≡ get_or b j 0 = λ j l. after-out j (inr (omega (arith, s.given.few, s.given.most, h.sender))) in
      record {
        participants = first 0 (omega arith) ∙ v.participants;
        issues = first 1 (omega arith) ∙ v.issues;
        runs = first 2 (omega arith) ∙ v.runs;
        trades = first 3 (omega arith) ∙ v.trades;
        given = given-kept y s b after (λ j l k. first j (omega arith)) v.given;
        positions = positions-kept y s b after (λ j l k. first j k) v;
        notices = notices-stand;
        today = today-kept y s b after (λ j l k. last j l) v;
        tally = tally-kept y s b after (λ j l. last j (omega arith)) v;
      }

  frame : (j : ℕ) → Every (Outside j) (joined (tables_of (noticed y p issues lots))) → get_or after j 0 ≡ get_or b j 0
  frame j q =
      let t : Shaped (noticed y p issues lots) = noticed-shaped y s p issues lots h in
      let w : (j < at) ⊎ (at + y.given.issues ≤ j) = unfold noticed in outside-notice (noticed y p issues lots) t b r.size j q p h.sender in
      after-out j w

  pub notice-stored : stored b (noticed y p issues lots) ≡ after
  notice-stored =
      stored_is (noticed y p issues lots) (noticed-shaped y s p issues lots h) b r.size after (length_over b written at fits ∙ r.size) after_holds frame
