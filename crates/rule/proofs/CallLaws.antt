-- Laws of accepted calls: the book that one leaves is sound, and is viewed as the definition's day. Assumes nothing.
use mathlib.Core.Path.{◌≡◌, refl, ap}
use Prim.Native.Nat.{ℕ, zero, suc, ◌≤◌, ◌<◌, min}
use native.Mathlib.Omega.{arith}
use mathlib.Core.Bool.{Bool, true, false, not, ◌&&◌}
use mathlib.Core.List.{List, [], ◌∷◌, ◌++◌}
use lib.ListN.{length, get_or}
use lib.Dec.{ltb, leb}
use borrow.Author.Tests.{ltb-true, ltb-false, leb-true, leb-false, eqb-true, eqb-false, not-false, eq-eqb}
use Rattle.lists.specs.Tests.{first}
use Rattle.lists.specs.Tables.{zeros, cell}
use Rattle.lists.specs.Folds.{Every}
use Rattle.lists.proofs.TestLaws.{and_left, and_right, all-at, both_ways}
use Rattle.lists.proofs.TableLaws.{length-zeros}
use Rattle.lists.proofs.FoldLaws.{every-left, every-right}
use Rattle.rule.specs.Day.{Day, given_of, opened, traded, noticed}
use Rattle.rule.specs.Sound.{position_limit, notice_limit}
use Rattle.rule.specs.Calls.{Reply, accepted, counts, refused, answer, open_checks, refusal, trade_checks, notice_checks, size_checks, data_checks, party_checks, position_checks}
use Rattle.rule.specs.Layout.{book_length, view, stored, book_fits, sound_book, open_of, trade_of, notice_of}
use Rattle.rule.proofs.SoundLaws.{SoundDay, facts-sound}
use Rattle.rule.proofs.LayoutLaws.{Shaped, Signed, Signs, length-stored, view-stored, view-shaped, view-signed}
use Rattle.rule.proofs.BookLaws.{SoundBook, sound-book}
use Rattle.rule.proofs.OpenLaws.{Openable, opened-shaped, opened-signed, opened-sound}
use Rattle.rule.proofs.TradeLaws.{Tradeable, owed2, due2, owed-seller, due-seller, owed-buyer, due-buyer, owed-other, due-other, which, traded-shaped, traded-sound}
use Rattle.rule.proofs.NoticeLaws.{Noticeable, noticed-shaped, noticed-sound}

-- ---- an accepted call has passed every row of its check table

abbrev pub is_refused : Reply → Bool
is_refused accepted = false
is_refused (counts m l) = false
is_refused (refused n) = true

pub passed : {X : Type 0} (e : ℕ) (new old : X) → (answer e accepted new old).0 ≡ accepted → e ≡ 0
passed zero new old h = refl
passed (suc e) new old h = absurd (both_ways true refl (ap is_refused h))

pub left : {X : Type 0} (e : ℕ) (new old : X) → e ≡ 0 → (answer e accepted new old).1 ≡ new
left e new old h = rw h

-- every row has a number
abbrev pub numbered : List (ℕ × Bool) → Bool
numbered [] = true
numbered (c ∷ cs) = ltb 0 c.0 && numbered cs

one-row : (n : ℕ) (t : Bool) (cs : List (ℕ × Bool)) → ltb 0 n ≡ true → first ((n, t) ∷ cs) ≡ 0 → (t ≡ false) × (first cs ≡ 0)
unfolding first
one-row n true cs p e = absurd (omega (arith, ltb-true 0 n p))
one-row n false cs p e = (refl, e)

-- no row of a table has its condition
abbrev pub None : List (ℕ × Bool) → Type 0
None cs = Every (λ c. c.1 ≡ false) cs

pub no_row : (cs : List (ℕ × Bool)) → numbered cs ≡ true → first cs ≡ 0 → None cs
no_row [] p e = tt
no_row (c ∷ cs) p e =
    let r : (c.1 ≡ false) × (first cs ≡ 0) = one-row c.0 c.1 cs (and_left (ltb 0 c.0) (numbered cs) p) e in
    (r.0, no_row cs (and_right (ltb 0 c.0) (numbered cs) p) r.1)

-- ---- what is stored is a sound book with its day in view

pub stored-sound : (y : Day) (s : Shaped y) → Signed y s → SoundDay y → (b : List ℕ) → length b ≡ book_length → (view (stored b y) ≡ y) × (sound_book (stored b y) ≡ true)
unfolding sound_book book_fits
stored-sound y s g d b size =
    let v : view (stored b y) ≡ y = view-stored y s g b size in
    (v, rw (eq-eqb (length (stored b y)) book_length (length-stored y s b size), v) (facts-sound y d))

-- ---- opening

module _ (n m : ℕ) (codes terms receipts pairs b : List ℕ) where
  pub openable : first (open_checks (book_fits b) n m codes terms receipts pairs) ≡ 0 → Openable n m codes terms receipts pairs
  unfolding open_checks given_of
  openable h =
      let sizes : List (ℕ × Bool) = size_checks (book_fits b) n m codes terms receipts pairs in
      let given : List (ℕ × Bool) = data_checks n m (given_of n m codes terms receipts pairs) in
      let none : None (sizes ++ given) = no_row (sizes ++ given) refl h in
      shown (every-left (λ c. c.1 ≡ false) sizes given none) (every-right (λ c. c.1 ≡ false) sizes given none)
    where
      shown : None (size_checks (book_fits b) n m codes terms receipts pairs) → None (data_checks n m (given_of n m codes terms receipts pairs)) → Openable n m codes terms receipts pairs
      shown (sizes, (codes_size, (terms_size, (receipts_size, (pairs_size, _))))) (codes, (terms, (receipts, (pairs, _)))) = record {
        sizes = not-false _ sizes;
        codes_size = eqb-true _ _ (not-false _ codes_size);
        terms_size = eqb-true _ _ (not-false _ terms_size);
        receipts_size = eqb-true _ _ (not-false _ receipts_size);
        pairs_size = eqb-true _ _ (not-false _ pairs_size);
        given = record {
          sizes = not-false _ sizes;
          codes = not-false _ codes;
          terms = not-false _ terms;
          receipts = not-false _ receipts;
          pairs = not-false _ pairs;
        };
      }

  -- an accepted opening passed every row
  pub open-passed : (open_of n m codes terms receipts pairs b).0 ≡ accepted → Openable n m codes terms receipts pairs
  unfolding open_of
  open-passed a = openable (passed _ (stored (zeros book_length) (opened (given_of n m codes terms receipts pairs))) b a)

  -- an accepted opening leaves a sound book, with the given day in it
  pub opening-sound : (open_of n m codes terms receipts pairs b).0 ≡ accepted
      → (view (open_of n m codes terms receipts pairs b).1 ≡ opened (given_of n m codes terms receipts pairs)) × (sound_book (open_of n m codes terms receipts pairs b).1 ≡ true)
  unfolding open_of
  opening-sound a =
      let y : Day = opened (given_of n m codes terms receipts pairs) in
      let e : ℕ = first (open_checks (book_fits b) n m codes terms receipts pairs) in
      let z : e ≡ 0 = passed e (stored (zeros book_length) y) b a in
      let h : Openable n m codes terms receipts pairs = openable z in
      rw (left e (stored (zeros book_length) y) b z)
      (stored-sound y (opened-shaped n m codes terms receipts pairs h) (opened-signed n m codes terms receipts pairs h) (opened-sound n m codes terms receipts pairs h)
      (zeros book_length) (length-zeros book_length))

-- ---- trade and notice: the book was sound, and every other row was passed too

pub was-sound : (b : List ℕ) → ((j : ℕ) → get_or b j 0 < 18446744073709551616) → (cs : List (ℕ × Bool)) → refusal (sound_book b) cs ≡ 0 → SoundBook b × (first cs ≡ 0)
unfolding refusal
was-sound b words cs h =
    let r : (not (sound_book b) ≡ false) × (first cs ≡ 0) = one-row 5 (not (sound_book b)) cs refl h in
    (sound-book b words (not-false _ r.0), r.1)

module _ (b : List ℕ) (words : (j : ℕ) → get_or b j 0 < 18446744073709551616) (seller buyer k yen : ℕ) where
  pub tradeable : first (trade_checks (view b) seller buyer k yen) ≡ 0 → Tradeable (view b) seller buyer k yen
  unfolding trade_checks
  tradeable h =
      let parties : List (ℕ × Bool) = party_checks (view b) seller buyer k yen in
      let positions : List (ℕ × Bool) = position_checks (view b) seller buyer k yen in
      let none : None (parties ++ positions) = no_row (parties ++ positions) refl h in
      shown (every-left (λ c. c.1 ≡ false) parties positions none) (every-right (λ c. c.1 ≡ false) parties positions none)
    where
      shown : None (party_checks (view b) seller buyer k yen) → None (position_checks (view b) seller buyer k yen) → Tradeable (view b) seller buyer k yen
      shown (runs, (sells, (buys, (basket, (apart, _))))) (tradable, (sold, (bought, (trades, _)))) = record {
        runs = leb-false _ _ runs;
        sells = leb-false _ _ sells;
        buys = leb-false _ _ buys;
        basket = leb-false _ _ basket;
        apart = eqb-false _ _ apart;
        tradable = not-false _ tradable;
        sold = ltb-false _ _ sold;
        bought = ltb-false _ _ bought;
        trades = leb-false _ _ trades;
      }

  module _ (s : SoundBook b) (h : Tradeable (view b) seller buyer k yen) where
    abbrev shape : Shaped (view b)
    shape = view-shaped b s.readable

    traded-signed : Signed (traded (view b) seller buyer k yen) (traded-shaped (view b) shape seller buyer k yen h)
    unfolding traded
    traded-signed =
        let y : Day = view b in
        let d : SoundDay y = s.day in
        let g : Signed y shape = view-signed b s.readable in
        record {
          positions = λ j p l m.
              which y shape seller buyer k yen h
              (λ j p. j < 7 → p < y.given.participants → Signs (cell (owed2 y shape seller buyer k yen h) j p) (cell (due2 y shape seller buyer k yen h) j p))
              (λ a c. signs (owed-seller y shape seller buyer k yen h) (due-seller y shape seller buyer k yen h) (omega arith) h.sold (omega (arith, d.positions.due k seller a c)))
              (λ a c. signs (owed-buyer y shape seller buyer k yen h) (due-buyer y shape seller buyer k yen h) (omega arith) (omega (arith, d.positions.owed k buyer a c)) h.bought)
              (λ j p ne a c.
              signs (owed-other y shape seller buyer k yen h j p ne) (due-other y shape seller buyer k yen h j p ne)
              (g.positions j p a c).one (d.positions.owed j p a c) (d.positions.due j p a c))
              j p l m;
          tally = g.tally;
        }
      where
        signs : {a c x z : ℕ} → x ≡ a → z ≡ c → min a c ≡ 0 → a ≤ position_limit → c ≤ position_limit → Signs x z
        signs e f one la lc = rw (e, f) (record { one = one; out = omega arith; back = omega arith })

  -- an accepted trade had a sound book, and passed every row
  pub trade-passed : (trade_of b seller buyer k yen).0 ≡ accepted → SoundBook b × Tradeable (view b) seller buyer k yen
  unfolding trade_of
  trade-passed a =
      let cs : List (ℕ × Bool) = trade_checks (view b) seller buyer k yen in
      let w : SoundBook b × (first cs ≡ 0) = was-sound b words cs (passed _ (stored b (traded (view b) seller buyer k yen)) b a) in
      (w.0, tradeable w.1)

  -- an accepted trade leaves a sound book, with the traded day in it
  pub trade-sound : (trade_of b seller buyer k yen).0 ≡ accepted
      → (view (trade_of b seller buyer k yen).1 ≡ traded (view b) seller buyer k yen) × (sound_book (trade_of b seller buyer k yen).1 ≡ true)
  unfolding trade_of
  trade-sound a =
      let y : Day = traded (view b) seller buyer k yen in
      let e : ℕ = refusal (sound_book b) (trade_checks (view b) seller buyer k yen) in
      let z : e ≡ 0 = passed e (stored b y) b a in
      let w : SoundBook b × (first (trade_checks (view b) seller buyer k yen) ≡ 0) = was-sound b words (trade_checks (view b) seller buyer k yen) z in
      let h : Tradeable (view b) seller buyer k yen = tradeable w.1 in
      rw (left e (stored b y) b z)
      (stored-sound y (traded-shaped (view b) (shape w.0 h) seller buyer k yen h) (traded-signed w.0 h) (traded-sound (view b) (shape w.0 h) seller buyer k yen h w.0.day) b w.0.readable.size)

module _ (b : List ℕ) (words : (j : ℕ) → get_or b j 0 < 18446744073709551616) (p : ℕ) (issues lots : List ℕ) where
  pub noticeable : first (notice_checks (view b) p issues lots) ≡ 0 → Noticeable (view b) p issues lots
  unfolding notice_checks
  noticeable h =
      shown (no_row (notice_checks (view b) p issues lots) refl h)
    where
      shown : None (notice_checks (view b) p issues lots) → Noticeable (view b) p issues lots
      shown (runs, (sender, (_, (sizes, (named, (once, (few, _))))))) =
          let same : length issues ≡ length lots = eqb-true _ _ (not-false _ sizes) in
          record {
            runs = leb-false _ _ runs;
            sender = leb-false _ _ sender;
            named = λ j l. ltb-true _ _ (all-at (λ j. ltb (get_or issues j 0) (view b).given.issues) (length issues) (not-false _ named) j l);
            once = not-false _ once;
            few = λ j l. leb-true _ _ (all-at (λ j. leb (get_or lots j 0) notice_limit) (length lots) (not-false _ few) j (omega arith));
          }

  -- an accepted notice had a sound book, and passed every row
  pub notice-passed : (notice_of b p issues lots).0 ≡ accepted → SoundBook b × Noticeable (view b) p issues lots
  unfolding notice_of
  notice-passed a =
      let w : SoundBook b × (first (notice_checks (view b) p issues lots) ≡ 0) = was-sound b words (notice_checks (view b) p issues lots) (passed _ (stored b (noticed (view b) p issues lots)) b a) in
      (w.0, noticeable w.1)

  -- an accepted notice leaves a sound book, with the noticed day in it
  pub notice-sound : (notice_of b p issues lots).0 ≡ accepted
      → (view (notice_of b p issues lots).1 ≡ noticed (view b) p issues lots) × (sound_book (notice_of b p issues lots).1 ≡ true)
  unfolding notice_of noticed
  notice-sound a =
      let y : Day = noticed (view b) p issues lots in
      let e : ℕ = refusal (sound_book b) (notice_checks (view b) p issues lots) in
      let z : e ≡ 0 = passed e (stored b y) b a in
      let w : SoundBook b × (first (notice_checks (view b) p issues lots) ≡ 0) = was-sound b words (notice_checks (view b) p issues lots) z in
      let h : Noticeable (view b) p issues lots = noticeable w.1 in
      let s : Shaped (view b) = view-shaped b w.0.readable in
      rw (left e (stored b y) b z)
      (stored-sound y (noticed-shaped (view b) s p issues lots h) (noticed-signed w.0 h) (noticed-sound (view b) s p issues lots h w.0.day) b w.0.readable.size)
    where
      noticed-signed : (s : SoundBook b) (h : Noticeable (view b) p issues lots) → Signed (noticed (view b) p issues lots) (noticed-shaped (view b) (view-shaped b s.readable) p issues lots h)
      noticed-signed s h = record { positions = (view-signed b s.readable).positions; tally = (view-signed b s.readable).tally }
