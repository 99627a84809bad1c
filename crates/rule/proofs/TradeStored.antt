-- A trade in the book: two positions and the trade count are stored, and no other cell. Assumes nothing.
use mathlib.Core.Path.{◌≡◌, sym, ap₂, ◌∙◌}
use mathlib.Core.Logic.{◌⊎◌, inl, inr, ◌≢◌}
use Prim.Native.Nat.{ℕ, ◌+◌, ◌-◌, ◌%◌, ◌≤◌, ◌<◌}
use native.Mathlib.Decide.{dec_lt}
use native.Mathlib.Omega.{arith}
use mathlib.Core.List.{List}
use lib.ListN.{length, get_or, set, length-set}
use lib.Seq.{get_or-set_same, get_or-set_other}
use Rattle.lists.specs.Tables.{cell}
use Rattle.lists.specs.Folds.{joined, Every}
use Rattle.lists.proofs.PartLaws.{Outside, Stands}
use Rattle.rule.specs.Day.{Day, traded}
use Rattle.rule.specs.Layout.{trades_at, positions_at, notices_at, book_length, plus, minus, signed, signed_rows, view, tables_of, stored, most_participants, position_cell, position_row}
use Rattle.rule.specs.Sound.{position_limit}
use Rattle.rule.proofs.LayoutLaws.{Shaped, Holds, Readable, given-kept, notices-kept, today-kept, tally-kept, outside-sizes, outside-position, signed-cell, plus-out, plus-back, minus-out, minus-back, view-shaped, view-holds, stored_is}
use Rattle.rule.proofs.TradeLaws.{Tradeable, owed2, due2, owed2-shape, traded-shaped, owed-seller, due-seller, owed-buyer, due-buyer, owed-other, due-other, which}

abbrev half : ℕ
half = 9223372036854775808

abbrev whole : ℕ
whole = 18446744073709551616

-- yen are added to a position, and taken from it, in its cell
pub raise-cell : (c x : ℕ) → c < whole → plus c ≤ position_limit → minus c ≤ position_limit → x ≤ 1000000000000
    → signed (plus c + x - minus c) (minus c - (plus c + x)) ≡ (c + x) % whole
raise-cell c x h o d l = go (dec_lt c half)
  where
    go : Dec (c < half) → signed (plus c + x - minus c) (minus c - (plus c + x)) ≡ (c + x) % whole
    go (yes k) = rw (plus-out c k, minus-out c k) (omega (arith, plus-out c k))
    go (no k) = rw (plus-back c (omega arith), minus-back c (omega arith)) (omega (arith, minus-back c (omega arith)))

pub lower-cell : (c r x : ℕ) → c < whole → r < whole → plus c ≤ position_limit → minus c ≤ position_limit → x ≤ 1000000000000 → (r + x) % whole ≡ c
    → signed (plus c - (minus c + x)) (minus c + x - plus c) ≡ r
lower-cell c r x h q o d l e = go (dec_lt c half)
  where
    go : Dec (c < half) → signed (plus c - (minus c + x)) (minus c + x - plus c) ≡ r
    go (yes k) = rw (plus-out c k, minus-out c k) (omega (arith, plus-out c k))
    go (no k) = rw (plus-back c (omega arith), minus-back c (omega arith)) (omega (arith, minus-back c (omega arith)))

module _ (b : List ℕ) (r : Readable b) (seller buyer k yen sold bought count : ℕ) (h : Tradeable (view b) seller buyer k yen) where
  abbrev y : Day
  y = view b

  abbrev s : Shaped (view b)
  s = view-shaped b r

  -- the cells of the two positions
  abbrev at_seller : ℕ
  at_seller = position_cell k seller

  abbrev at_buyer : ℕ
  at_buyer = position_cell k buyer

  abbrev after : List ℕ
  after = set (set (set b at_seller sold) at_buyer bought) 3 count

  few : y.given.participants ≤ 12
  few = s.given.few

  length-after : length after ≡ book_length
  length-after = length-set (set (set b at_seller sold) at_buyer bought) 3 count ∙ length-set (set b at_seller sold) at_buyer bought ∙ length-set b at_seller sold ∙ r.size

  room : (length (set b at_seller sold) ≡ book_length) × (length (set (set b at_seller sold) at_buyer bought) ≡ book_length)
  room = (length-set b at_seller sold ∙ r.size, length-set (set b at_seller sold) at_buyer bought ∙ length-set b at_seller sold ∙ r.size)

  after-else : (j : ℕ) → j ≢ at_seller → j ≢ at_buyer → j ≢ 3 → get_or after j 0 ≡ get_or b j 0
  after-else j f g e =
      get_or-set_other (set (set b at_seller sold) at_buyer bought) 3 j count 0 e ∙ get_or-set_other (set b at_seller sold) at_buyer j bought 0 g ∙ get_or-set_other b at_seller j sold 0 f

  after-seller : get_or after at_seller 0 ≡ sold
  after-seller =
      get_or-set_other (set (set b at_seller sold) at_buyer bought) 3 at_seller count 0 (λ e. omega arith)
      ∙ get_or-set_other (set b at_seller sold) at_buyer at_seller bought 0 (λ e. h.apart (omega arith))
      ∙ get_or-set_same b at_seller sold 0 (omega (arith, few, h.sells, h.basket, r.size))

  after-buyer : get_or after at_buyer 0 ≡ bought
  after-buyer =
      get_or-set_other (set (set b at_seller sold) at_buyer bought) 3 at_buyer count 0 (λ e. omega arith)
      ∙ get_or-set_same (set b at_seller sold) at_buyer bought 0 (omega (arith, few, h.buys, h.basket, room.0))

  after-count : get_or after trades_at 0 ≡ count
  after-count = get_or-set_same (set (set b at_seller sold) at_buyer bought) 3 count 0 (omega (arith, room.1))

  -- before the positions and after them nothing changes but the count
  below : (j : ℕ) → 3 < j → j < positions_at → get_or after j 0 ≡ get_or b j 0
  below j l m = after-else j (λ e. omega arith) (λ e. omega arith) (λ e. omega arith)

  above : (j : ℕ) → notices_at ≤ j → get_or after j 0 ≡ get_or b j 0
  above j l = after-else j (λ e. omega (arith, few, h.sells, h.basket)) (λ e. omega (arith, few, h.buys, h.basket)) (λ e. omega arith)

  module _ (es : sold ≡ signed (cell y.state.owed k seller + yen - cell y.state.due k seller) (cell y.state.due k seller - (cell y.state.owed k seller + yen)))
      (eb : bought ≡ signed (cell y.state.owed k buyer - (cell y.state.due k buyer + yen)) (cell y.state.due k buyer + yen - cell y.state.owed k buyer))
      (ec : count ≡ y.state.trades + 1) where
    positions-stand : Stands after positions_at most_participants 7 y.given.participants (signed_rows (owed2 y s seller buyer k yen h) (due2 y s seller buyer k yen h))
    positions-stand j p l m =
        which y s seller buyer k yen h
        (λ j p. j < 7 → p < y.given.participants → get_or after (position_cell j p) 0 ≡ cell (signed_rows (owed2 y s seller buyer k yen h) (due2 y s seller buyer k yen h)) j p)
        (λ l m. after-seller ∙ es ∙ sym (shown k seller l m ∙ ap₂ signed (owed-seller y s seller buyer k yen h) (due-seller y s seller buyer k yen h)))
        (λ l m. after-buyer ∙ eb ∙ sym (shown k buyer l m ∙ ap₂ signed (owed-buyer y s seller buyer k yen h) (due-buyer y s seller buyer k yen h)))
        (λ j p ne l m.
        after-else (position_cell j p) (λ e. (ne (omega (arith, few, h.sells))).0 (omega (arith, few, h.sells)))
        (λ e. (ne (omega (arith, few, h.buys))).1 (omega (arith, few, h.buys))) (λ e. omega arith)
        ∙ (view-holds b r).positions j p l m
        ∙ signed-cell y.state.owed y.state.due 7 y.given.participants j p s.owed l m
        ∙ sym (shown j p l m ∙ ap₂ signed (owed-other y s seller buyer k yen h j p ne) (due-other y s seller buyer k yen h j p ne)))
        j p l m
      where
        shown : (j p : ℕ) → j < 7 → p < y.given.participants
            → cell (signed_rows (owed2 y s seller buyer k yen h) (due2 y s seller buyer k yen h)) j p ≡ signed (cell (owed2 y s seller buyer k yen h) j p) (cell (due2 y s seller buyer k yen h) j p)
        shown j p l m = signed-cell (owed2 y s seller buyer k yen h) (due2 y s seller buyer k yen h) 7 y.given.participants j p (owed2-shape y s seller buyer k yen h) l m

    after_holds : Holds after (traded y seller buyer k yen)
    unfolding traded
    after_holds =
        let v : Holds b y = view-holds b r in
        record {
          participants = after-else 0 (λ e. omega arith) (λ e. omega arith) (λ e. omega arith) ∙ v.participants;
          issues = after-else 1 (λ e. omega arith) (λ e. omega arith) (λ e. omega arith) ∙ v.issues;
          runs = after-else 2 (λ e. omega arith) (λ e. omega arith) (λ e. omega arith) ∙ v.runs;
          trades = after-count ∙ ec;
          given = given-kept y s b after (λ j l m. below j l m) v.given;
          positions = positions-stand;
          notices = notices-kept y s b after (λ j l m. above j l) v;
          today = today-kept y s b after (λ j l m. above j (omega arith)) v;
          tally = tally-kept y s b after (λ j l. above j (omega arith)) v;
        }

    -- places outside the day's tables stay
    frame : (j : ℕ) → Every (Outside j) (joined (tables_of (traded y seller buyer k yen))) → get_or after j 0 ≡ get_or b j 0
    frame j q =
        let t : Shaped (traded y seller buyer k yen) = traded-shaped y s seller buyer k yen h in
        let w : (j < position_row k) ⊎ (position_cell k y.given.participants ≤ j) =
        unfold traded in outside-position (traded y seller buyer k yen) t b r.size j q k h.basket in
        after-else j (λ e. apart_from seller h.sells w e) (λ e. apart_from buyer h.buys w e) (λ e. omega (arith, outside-sizes (traded y seller buyer k yen) t b r.size j q))
      where
        apart_from : (p : ℕ) → p < y.given.participants → (j < position_row k) ⊎ (position_cell k y.given.participants ≤ j) → j ≡ position_cell k p → ⊥
        apart_from p l (inl a) e = omega arith
        apart_from p l (inr a) e = omega arith

    pub trade-stored : stored b (traded y seller buyer k yen) ≡ after
    trade-stored = stored_is (traded y seller buyer k yen) (traded-shaped y s seller buyer k yen h) b r.size after length-after after_holds frame
