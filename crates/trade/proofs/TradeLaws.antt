-- Laws that the proofs of a trade cite. Assumes nothing.
use Rattle.std.proofs.Common.{◌≡◌, ℕ, ◌+◌, ◌-◌, ◌<◌, ◌≤◌, true, false, ltb, List, get_or, sym, refl, ap, ◌∙◌, ap₂, mod-lt, min, arith, lit<, le-ltb, lt-ltb}
use Rattle.lists.specs.Tables.{cell}
use Rattle.rule.specs.Day.{traded}
use Rattle.rule.specs.Calls.{afterwards}
use Rattle.rule.specs.Sound.{tradable, position_limit, trade_limit}
use Rattle.layout.specs.InBook.{participants_in}
use Rattle.rule.specs.Layout.{trades_at, position_cell, plus, minus, view, stored}
use Rattle.rule.proofs.LayoutLaws.{Readable, plus-signed, minus-signed}
use Rattle.rule.proofs.BookLaws.{SoundBook, view-owed, view-due}
use Rattle.rule.proofs.TradeLaws.{Tradeable}
use Rattle.rule.proofs.TradeStored.{raise-cell, lower-cell, trade-stored}
use Rattle.signed.specs.Sums.{cell_more, cell_less}
use Rattle.trade.specs.Positions.{Movable, moved_to, moved_of}
use Rattle.trade.specs.Checked.{Between}

-- ---- a position after yen were added to it or taken from it, as a cell

one_side : (a b : ℕ) → min (a - b) (b - a) ≡ 0
one_side a b = omega arith

sold_of : (c x : ℕ) → c < 18446744073709551616 → Movable c x → plus (cell_more c x) ≡ plus c + x - minus c
sold_of c x w m =
    ap plus (sym (raise-cell c x w m.owed m.due m.most))
    ∙ plus-signed (record { one = one_side (plus c + x) (minus c); out = omega (arith, m.owed, m.most); back = omega (arith, m.due) })

-- the number that yen are added to wraps back to c
back : (c x : ℕ) → c < 18446744073709551616 → x ≤ 1000000000000 → cell_more (cell_less c x) x ≡ c
back c x a m = omega arith

bought_of : (c x : ℕ) → c < 18446744073709551616 → Movable c x → minus (cell_less c x) ≡ minus c + x - plus c
bought_of c x w m =
    ap minus (sym (lower-cell c _ x w (mod-lt _ (lit< tt)) m.owed m.due m.most (back c x w m.most)))
    ∙ minus-signed (record { one = one_side (plus c) (minus c + x); out = omega (arith, m.owed); back = omega (arith, m.due, m.most) })

-- ---- a position of a sound book

module _ (b : List ℕ) (s : SoundBook b) (k p at yen : ℕ) (basket : k < 7) (participant : p < participants_in b) (place : at ≡ position_cell k p) where
  abbrev c : ℕ
  c = get_or b at 0

  owed-is : cell (view b).state.owed k p ≡ plus c
  owed-is = view-owed b s.readable k p basket participant ∙ ap (λ (j : ℕ). plus (get_or b j 0)) (sym place)

  due-is : cell (view b).state.due k p ≡ minus c
  due-is = view-due b s.readable k p basket participant ∙ ap (λ (j : ℕ). minus (get_or b j 0)) (sym place)

  of_day : p < (view b).given.participants
  unfolding view
  of_day = participant

  pub movable : yen ≤ 1000000000000 → Movable c yen
  movable l = record { owed = omega (arith, owed-is, s.day.positions.owed k p basket of_day); due = omega (arith, due-is, s.day.positions.due k p basket of_day); most = l }

  -- the sides of the cells that the code writes are what the check table asks
  pub sold-is : yen ≤ 1000000000000 → (to r : ℕ) → to ≡ cell_more c yen → r ≡ plus to → r ≡ afterwards (cell (view b).state.owed k p) (cell (view b).state.due k p) yen
  sold-is l to r m e = e ∙ ap plus m ∙ sold_of c yen (s.readable.words at) (movable l) ∙ ap₂ (λ (o d : ℕ). o + yen - d) (sym owed-is) (sym due-is)

  pub bought-is : yen ≤ 1000000000000 → (to r : ℕ) → to ≡ cell_less c yen → r ≡ minus to → r ≡ afterwards (cell (view b).state.due k p) (cell (view b).state.owed k p) yen
  bought-is l to r m e = e ∙ ap minus m ∙ bought_of c yen (s.readable.words at) (movable l) ∙ ap₂ (λ (o d : ℕ). d + yen - o) (sym owed-is) (sym due-is)

-- a number that is known by another name is above a limit, or not
pub over : (limit r t : ℕ) → r ≡ t → limit < r → ltb limit t ≡ true
over limit r t e h = lt-ltb limit t (omega arith)

pub not-over : (limit r t : ℕ) → r ≡ t → r ≤ limit → ltb limit t ≡ false
not-over limit r t e h = le-ltb limit t (omega arith)

-- ---- an accepted trade, in a sound book

module _ (b : List ℕ) (s : SoundBook b) (seller buyer k yen : ℕ) (h : Tradeable (view b) seller buyer k yen) (l : yen ≤ 1000000000000) where
  sells : seller < participants_in b
  unfolding view
  sells = h.sells

  buys : buyer < participants_in b
  unfolding view
  buys = h.buys

  count-is : (view b).state.trades ≡ get_or b trades_at 0
  unfolding view
  count-is = refl

  pub trade-moves : moved_of b (position_cell k seller) (position_cell k buyer) yen ≡ stored b (traded (view b) seller buyer k yen)
  unfolding moved_of
  trade-moves =
      let r : Readable b = s.readable in
      let cs : ℕ = get_or b (position_cell k seller) 0 in
      let cb : ℕ = get_or b (position_cell k buyer) 0 in
      let ms : Movable cs yen = movable b s k seller (position_cell k seller) yen h.basket sells refl l in
      let mb : Movable cb yen = movable b s k buyer (position_cell k buyer) yen h.basket buys refl l in
      sym (trade-stored b r seller buyer k yen _ _ _ h
      (sym (rw (view-owed b r k seller h.basket sells, view-due b r k seller h.basket sells) (raise-cell cs yen (r.words _) ms.owed ms.due l)))
      (sym (rw (view-owed b r k buyer h.basket buys, view-due b r k buyer h.basket buys) (lower-cell cb _ yen (r.words _) (mod-lt _ (lit< tt)) mb.owed mb.due l (back cb yen (r.words _) l))))
      (ap (λ (n : ℕ). n + 1) (sym count-is)))

module _ (b : List ℕ) (seller buyer k yen : ℕ) (w : Between b seller buyer k yen) where
  tradeable : tradable k (view b).given.terms (view b).given.marks ≡ true
      → afterwards (cell (view b).state.owed k seller) (cell (view b).state.due k seller) yen ≤ position_limit
      → afterwards (cell (view b).state.due k buyer) (cell (view b).state.owed k buyer) yen ≤ position_limit → get_or b trades_at 0 < trade_limit → Tradeable (view b) seller buyer k yen
  unfolding view
  tradeable t s u n = record { sells = w.sells; buys = w.buys; basket = w.basket; apart = w.apart; runs = w.runs; tradable = t; sold = s; bought = u; trades = n }

  pub accepted-trade : (to_seller to_buyer sold bought at_seller at_buyer : ℕ) → to_seller ≡ cell_more (get_or b at_seller 0) yen → to_buyer ≡ cell_less (get_or b at_buyer 0) yen
      → at_seller ≡ position_cell k seller → at_buyer ≡ position_cell k buyer → tradable k (view b).given.terms (view b).given.marks ≡ true
      → sold ≡ afterwards (cell (view b).state.owed k seller) (cell (view b).state.due k seller) yen → sold ≤ position_limit
      → bought ≡ afterwards (cell (view b).state.due k buyer) (cell (view b).state.owed k buyer) yen → bought ≤ position_limit → get_or b trades_at 0 < trade_limit
      → moved_to b at_seller at_buyer to_seller to_buyer ≡ stored b (traded (view b) seller buyer k yen)
  unfolding moved_of
  accepted-trade to_seller to_buyer sold bought at_seller at_buyer ms mb ps pb t es ls eb lb n =
      ap₂ (λ (x y : ℕ). moved_to b at_seller at_buyer x y) ms mb ∙ ap₂ (λ (i j : ℕ). moved_of b i j yen) ps pb
      ∙ trade-moves b w.sound seller buyer k yen (tradeable t (omega arith) (omega arith) n) w.most
