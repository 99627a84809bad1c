-- Laws of a trade: what it does to the two positions and to nothing else, and that an accepted one leaves a sound day. Assumes nothing.
use mathlib.Core.Path.{◌≡◌, refl, sym, ap₂, ◌∙◌}
use mathlib.Core.Logic.{◌⊎◌, inr, ◌≢◌}
use Prim.Native.Nat.{ℕ, ◌+◌, ◌-◌, ◌≤◌, ◌<◌}
use native.Mathlib.Decide.{ℕ_discrete}
use native.Mathlib.Omega.{arith}
use mathlib.Core.Bool.{true}
use mathlib.Core.List.{List}
use Rattle.lists.specs.Tables.{row, cell, put}
use Rattle.lists.specs.Folds.{sum}
use Rattle.lists.proofs.FoldLaws.{sum-set}
use Rattle.lists.proofs.PartLaws.{Shape, put-row, put-row-other, put-shape, put_same, put_other}
use Rattle.rule.specs.Day.{Day, traded}
use Rattle.rule.specs.Sound.{tradable, position_limit, trade_limit}
use Rattle.rule.proofs.SoundLaws.{SoundDay}
use Rattle.rule.proofs.LayoutLaws.{Shaped}

-- what an accepted trade has shown
pub record Tradeable (y : Day) (seller buyer k yen : ℕ) : Type 0 where
  pub sells : seller < y.given.participants
  pub buys : buyer < y.given.participants
  pub basket : k < 7
  pub apart : seller ≢ buyer
  pub runs : y.state.runs < 3
  pub tradable : tradable k y.given.terms y.given.marks ≡ true
  pub sold : cell y.state.owed k seller + yen - cell y.state.due k seller ≤ position_limit
  pub bought : cell y.state.due k buyer + yen - cell y.state.owed k buyer ≤ position_limit
  pub trades : y.state.trades < trade_limit

module _ (y : Day) (s : Shaped y) (seller buyer k yen : ℕ) (h : Tradeable y seller buyer k yen) where
  abbrev pub n : ℕ
  n = y.given.participants

  abbrev pub o : ℕ → ℕ
  o p = cell y.state.owed k p

  abbrev pub d : ℕ → ℕ
  d p = cell y.state.due k p

  -- the tables after the seller's position, and after the buyer's
  abbrev pub owed1 : List (List ℕ)
  owed1 = put y.state.owed k seller (o seller + yen - d seller)

  abbrev pub due1 : List (List ℕ)
  due1 = put y.state.due k seller (d seller - (o seller + yen))

  abbrev pub owed2 : List (List ℕ)
  owed2 = put owed1 k buyer (cell owed1 k buyer - (cell due1 k buyer + yen))

  abbrev pub due2 : List (List ℕ)
  due2 = put due1 k buyer (cell due1 k buyer + yen - cell owed1 k buyer)

  pub traded-owed : (traded y seller buyer k yen).state.owed ≡ owed2
  unfolding traded
  traded-owed = refl

  pub traded-due : (traded y seller buyer k yen).state.due ≡ due2
  unfolding traded
  traded-due = refl

  owed1-shape : Shape owed1 7 n
  owed1-shape = put-shape y.state.owed 7 n s.owed k seller _ h.basket h.sells

  due1-shape : Shape due1 7 n
  due1-shape = put-shape y.state.due 7 n s.due k seller _ h.basket h.sells

  pub owed2-shape : Shape owed2 7 n
  owed2-shape = put-shape owed1 7 n owed1-shape k buyer _ h.basket h.buys

  due2-shape : Shape due2 7 n
  due2-shape = put-shape due1 7 n due1-shape k buyer _ h.basket h.buys

  -- the buyer's position is as it was when the seller's has changed
  owed1-buyer : cell owed1 k buyer ≡ o buyer
  owed1-buyer = put_other y.state.owed 7 n s.owed k seller _ h.basket h.sells k buyer (λ e f. h.apart (sym f))

  due1-buyer : cell due1 k buyer ≡ d buyer
  due1-buyer = put_other y.state.due 7 n s.due k seller _ h.basket h.sells k buyer (λ e f. h.apart (sym f))

  pub owed-seller : cell owed2 k seller ≡ o seller + yen - d seller
  owed-seller =
      put_other owed1 7 n owed1-shape k buyer _ h.basket h.buys k seller (λ e f. h.apart f)
      ∙ put_same y.state.owed 7 n s.owed k seller _ h.basket h.sells

  pub due-seller : cell due2 k seller ≡ d seller - (o seller + yen)
  due-seller =
      put_other due1 7 n due1-shape k buyer _ h.basket h.buys k seller (λ e f. h.apart f)
      ∙ put_same y.state.due 7 n s.due k seller _ h.basket h.sells

  pub owed-buyer : cell owed2 k buyer ≡ o buyer - (d buyer + yen)
  owed-buyer = put_same owed1 7 n owed1-shape k buyer _ h.basket h.buys ∙ ap₂ (λ (a b : ℕ). a - (b + yen)) owed1-buyer due1-buyer

  pub due-buyer : cell due2 k buyer ≡ d buyer + yen - o buyer
  due-buyer = put_same due1 7 n due1-shape k buyer _ h.basket h.buys ∙ ap₂ (λ (a b : ℕ). b + yen - a) owed1-buyer due1-buyer

  -- every other position stays
  pub owed-other : (j p : ℕ) → (j ≡ k → (p ≢ seller) × (p ≢ buyer)) → cell owed2 j p ≡ cell y.state.owed j p
  owed-other j p ne =
      put_other owed1 7 n owed1-shape k buyer _ h.basket h.buys j p (λ e. (ne e).1)
      ∙ put_other y.state.owed 7 n s.owed k seller _ h.basket h.sells j p (λ e. (ne e).0)

  pub due-other : (j p : ℕ) → (j ≡ k → (p ≢ seller) × (p ≢ buyer)) → cell due2 j p ≡ cell y.state.due j p
  due-other j p ne =
      put_other due1 7 n due1-shape k buyer _ h.basket h.buys j p (λ e. (ne e).1)
      ∙ put_other y.state.due 7 n s.due k seller _ h.basket h.sells j p (λ e. (ne e).0)

  pub traded-shaped : Shaped (traded y seller buyer k yen)
  unfolding traded
  traded-shaped = record {
    given = s.given;
    owed = owed2-shape;
    due = due2-shape;
    notices = s.notices;
    today = s.today;
    today_baskets = s.today_baskets;
    delivered = s.delivered;
    received = s.received;
  }

  -- ---- an accepted trade leaves a sound day

  net : (a b : ℕ) → a - b + b ≡ b - a + a
  net a b = omega arith

  sum-owed1 : sum (row owed1 k) + o seller ≡ sum (row y.state.owed k) + (o seller + yen - d seller)
  sum-owed1 = rw (put-row y.state.owed 7 n s.owed k seller (o seller + yen - d seller) h.basket h.sells)
      (sum-set (row y.state.owed k) seller (o seller + yen - d seller) (omega (arith, s.owed.cells k h.basket, h.sells)))

  sum-due1 : sum (row due1 k) + d seller ≡ sum (row y.state.due k) + (d seller - (o seller + yen))
  sum-due1 = rw (put-row y.state.due 7 n s.due k seller (d seller - (o seller + yen)) h.basket h.sells)
      (sum-set (row y.state.due k) seller (d seller - (o seller + yen)) (omega (arith, s.due.cells k h.basket, h.sells)))

  sum-owed2 : sum (row owed2 k) + o buyer ≡ sum (row owed1 k) + (o buyer - (d buyer + yen))
  sum-owed2 =
      let v : ℕ = cell owed1 k buyer - (cell due1 k buyer + yen) in
      let e : v ≡ o buyer - (d buyer + yen) = ap₂ (λ (a b : ℕ). a - (b + yen)) owed1-buyer due1-buyer in
      rw (put-row owed1 7 n owed1-shape k buyer v h.basket h.buys)
      (omega (arith, sum-set (row owed1 k) buyer v (omega (arith, owed1-shape.cells k h.basket, h.buys)), owed1-buyer, e))

  sum-due2 : sum (row due2 k) + d buyer ≡ sum (row due1 k) + (d buyer + yen - o buyer)
  sum-due2 =
      let v : ℕ = cell due1 k buyer + yen - cell owed1 k buyer in
      let e : v ≡ d buyer + yen - o buyer = ap₂ (λ (a b : ℕ). b + yen - a) owed1-buyer due1-buyer in
      rw (put-row due1 7 n due1-shape k buyer v h.basket h.buys)
      (omega (arith, sum-set (row due1 k) buyer v (omega (arith, due1-shape.cells k h.basket, h.buys)), due1-buyer, e))

  -- what the seller's position gains, the buyer's loses
  even-arith : (so sd so1 sd1 so2 sd2 os ds ob db us ws ub wb : ℕ) → so ≡ sd → so1 + os ≡ so + us → sd1 + ds ≡ sd + ws → so2 + ob ≡ so1 + ub → sd2 + db ≡ sd1 + wb
      → us + ds ≡ ws + (os + yen) → ub + (db + yen) ≡ wb + ob → so2 ≡ sd2
  even-arith so sd so1 sd1 so2 sd2 os ds ob db us ws ub wb e1 e2 e3 e4 e5 e6 e7 = omega arith

  even-k : sum (row y.state.owed k) ≡ sum (row y.state.due k) → sum (row owed2 k) ≡ sum (row due2 k)
  even-k e = even-arith _ _ _ _ _ _ _ _ _ _ _ _ _ _ e sum-owed1 sum-due1 sum-owed2 sum-due2 (net (o seller + yen) (d seller)) (omega arith)

  row_other : (j : ℕ) → j ≢ k → (row owed2 j ≡ row y.state.owed j) × (row due2 j ≡ row y.state.due j)
  row_other j ne = (
    put-row-other owed1 7 n owed1-shape k buyer _ h.basket h.buys j ne ∙ put-row-other y.state.owed 7 n s.owed k seller _ h.basket h.sells j ne,
    put-row-other due1 7 n due1-shape k buyer _ h.basket h.buys j ne ∙ put-row-other y.state.due 7 n s.due k seller _ h.basket h.sells j ne,
  )

  -- a position is the seller's, the buyer's, or another
  pub which : (P : ℕ → ℕ → Type 0) → P k seller → P k buyer → ((j p : ℕ) → (j ≡ k → (p ≢ seller) × (p ≢ buyer)) → P j p) → (j p : ℕ) → P j p
  which P a b c j p = go (ℕ_discrete j k) (ℕ_discrete p seller) (ℕ_discrete p buyer)
    where
      go : Dec (j ≡ k) → Dec (p ≡ seller) → Dec (p ≡ buyer) → P j p
      go (yes e) (yes f) q = rw (e, f) a
      go (yes e) (no f) (yes q) = rw (e, q) b
      go (yes e) (no f) (no q) = c j p (λ r. (f, q))
      go (no e) f q = c j p (λ r. absurd (e r))

  pub traded-sound : SoundDay y → SoundDay (traded y seller buyer k yen)
  unfolding traded
  traded-sound z = record {
    limits = record { runs = z.limits.runs; notices = z.limits.notices; trades = omega (arith, h.trades) };
    given = z.given;
    positions = record {
      owed = λ j p l m. which (λ j p. j < 7 → p < n → cell owed2 j p ≤ position_limit)
          (λ a b. omega (arith, owed-seller, h.sold)) (λ a b. omega (arith, owed-buyer, z.positions.owed k buyer a b))
          (λ j p ne a b. omega (arith, owed-other j p ne, z.positions.owed j p a b)) j p l m;
      due = λ j p l m. which (λ j p. j < 7 → p < n → cell due2 j p ≤ position_limit)
          (λ a b. omega (arith, due-seller, z.positions.due k seller a b)) (λ a b. omega (arith, due-buyer, h.bought))
          (λ j p ne a b. omega (arith, due-other j p ne, z.positions.due j p a b)) j p l m;
      even = λ j l. evens j l (ℕ_discrete j k);
      tradable = λ j l. frees j l (ℕ_discrete j k);
    };
    tallies = z.tallies;
    today = z.today;
    done = λ e. absurd (omega (arith, h.runs));
  }
    where
      evens : (j : ℕ) → j < 7 → Dec (j ≡ k) → sum (row owed2 j) ≡ sum (row due2 j)
      evens j l (yes e) = rw e (even-k (z.positions.even k h.basket))
      evens j l (no ne) = rw ((row_other j ne).0, (row_other j ne).1) (z.positions.even j l)

      frees : (j : ℕ) → j < 7 → Dec (j ≡ k) → (sum (row owed2 j) + sum (row due2 j) ≡ 0) ⊎ (tradable j y.given.terms y.given.marks ≡ true)
      frees j l (yes e) = inr (rw e h.tradable)
      frees j l (no ne) = rw ((row_other j ne).0, (row_other j ne).1) (z.positions.tradable j l)
