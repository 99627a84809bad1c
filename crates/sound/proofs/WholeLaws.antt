-- A day's soundness is that of its book's cells, in the order in which the code looks at them. Assumes nothing.
use Rattle.std.proofs.Common.{◌≡◌, ℕ, ◌+◌, ◌*◌, ◌<◌, ◌≤◌, Bool, true, false, ◌&&◌, ◌||◌, eqb, ltb, leb, List, [], ◌∷◌, map, length, get_or, sym, refl, ap, ◌∙◌, ap₂, arith, ne_eqb, le-leb, leb-true}
use mathlib.Core.Bool.{and-true, and_assoc}
use lib.ListN.{get_or-map}
use Rattle.lists.specs.Tests.{pick, all_below, holds}
use Rattle.lists.specs.Tables.{row, cell}
use Rattle.lists.specs.Folds.{total, sum}
use Rattle.lists.specs.Parts.{block, grid}
use Rattle.lists.proofs.TestLaws.{and_no, and_left, and_right, all_of, all-at, all-ext}
use Rattle.lists.proofs.TableLaws.{get_or-table}
use Rattle.lists.proofs.PartLaws.{grid-get}
use Rattle.rule.specs.Day.{baskets, term_size}
use Rattle.rule.specs.Sound.{sound, sizes_fit, receipts_fit, at_most, pairs_fit, tradable, position_limit, notice_limit, tally_limit, trade_limit}
use Rattle.rule.specs.Layout.{runs_at, trades_at, book_length, terms_at, receipts_at, pairs_at, positions_at, notices_at, today_at, tally_at, plus, minus, cube, view, book_fits, sound_book, most_issues, most_participants, position_row}
use Rattle.ranges.specs.Ranges.{row_passes, terms_in_range}
use Rattle.layout.specs.InBook.{book_terms, book_marks, participants_in, issues_in}
use Rattle.sound.specs.Sized.{Sized, is_within, while_runs, basket_fits, positions_fit, tally_fits, codes_fit, given_fits, state_within, state_fits}
use Rattle.ranges.proofs.ScanLaws.{all-and}

-- ---- tests in another order

failed : Bool → ℕ
failed t = pick t 0 1

-- every test holds where none failed, and that does not depend on their order
holds-count : (ts : List Bool) → holds ts ≡ eqb (total failed ts) 0
unfolding holds failed
holds-count [] = refl
holds-count (true ∷ ts) = let e : total failed ts ≡ 0 + total failed ts = omega arith in holds-count ts ∙ ap (λ (n : ℕ). eqb n 0) e
holds-count (false ∷ ts) = sym (ne_eqb (1 + total failed ts) 0 (λ e. omega arith))

same_tests : (ts us : List Bool) → total failed ts ≡ total failed us → holds ts ≡ holds us
same_tests ts us e = holds-count ts ∙ ap (λ (n : ℕ). eqb n 0) e ∙ sym (holds-count us)

or-each : (l o d f : Bool) → (l || (o && (d && f))) ≡ ((l || o) && ((l || d) && (l || f)))
or-each true o d f = refl
or-each false o d f = refl

-- the tests as the code has them
abbrev code : (r z c t e f g o d s w p q x y l o' d' f' : Bool) → Bool
code r z c t e f g o d s w p q x y l o' d' f' =
    holds (z ∷ holds (c ∷ t ∷ e ∷ x ∷ []) ∷ holds (r ∷ g ∷ (f && (l || f')) ∷ ((o && (l || o')) && (d && (l || d')) && s && w) ∷ (p && q) ∷ y ∷ []) ∷ [])

-- and as the definition has them
arranged : (r z c t e f g o d s w p q x y l o' d' f' : Bool)
    → holds (r ∷ f ∷ g ∷ z ∷ c ∷ t ∷ e ∷ x ∷ o ∷ d ∷ s ∷ w ∷ p ∷ q ∷ y ∷ (l || (o' && d' && f')) ∷ [])
    ≡ code r z c t e f g o d s w p q x y l o' d' f'
unfolding holds
arranged r z c t e f g o d s w p q x y l o' d' f' = left ∙ same_tests ts us (omega arith) ∙ sym right
  where
    ts : List Bool
    ts = r ∷ f ∷ g ∷ z ∷ c ∷ t ∷ e ∷ x ∷ o ∷ d ∷ s ∷ w ∷ p ∷ q ∷ y ∷ (l || o') ∷ (l || d') ∷ (l || f') ∷ []

    us : List Bool
    us = z ∷ c ∷ t ∷ e ∷ x ∷ r ∷ g ∷ f ∷ (l || f') ∷ o ∷ (l || o') ∷ d ∷ (l || d') ∷ s ∷ w ∷ p ∷ q ∷ y ∷ []

    left : holds (r ∷ f ∷ g ∷ z ∷ c ∷ t ∷ e ∷ x ∷ o ∷ d ∷ s ∷ w ∷ p ∷ q ∷ y ∷ (l || (o' && d' && f')) ∷ []) ≡ holds ts
    left = simp (or-each, and_assoc)

    right : code r z c t e f g o d s w p q x y l o' d' f' ≡ holds us
    right = simp (and_assoc, and-true)

-- ---- a limit that falls to 0

at-most-less : (a b n m : ℕ) (t : List (List ℕ)) → a ≤ b → at_most a n m t ≡ true → at_most b n m t ≡ true
unfolding at_most
at-most-less a b n m t l h =
    all_of _ n (λ p k. all_of _ m (λ i j. le-leb (cell t p i) b
    (omega (arith, leb-true (cell t p i) a (all-at (λ i. leb (cell t p i) a) m (all-at (λ p. all_below m (λ i. leb (cell t p i) a)) n h p k) i j)))))

-- within the limit, and where it fell to 0, none
at-most-still : (l : Bool) (limit n m : ℕ) (t : List (List ℕ)) → at_most (pick l limit 0) n m t ≡ (at_most limit n m t && (l || at_most 0 n m t))
at-most-still true limit n m t = sym (and-true (at_most limit n m t))
at-most-still false limit n m t = go (at_most 0 n m t) refl
  where
    go : (r : Bool) → at_most 0 n m t ≡ r → at_most 0 n m t ≡ (at_most limit n m t && at_most 0 n m t)
    go true e = rw (e, at-most-less 0 limit n m t (omega arith) e)
    go false e = rw e (sym (and_no (at_most limit n m t)))

-- ---- signed cells

row-map : (f : ℕ → ℕ) (g : List (List ℕ)) (p : ℕ) → row (map (map f) g) p ≡ map f (row g p)
row-map f g p = get_or-map (map f) g p []

sum-map : (f : ℕ → ℕ) (l : List ℕ) → sum (map f l) ≡ total f l
sum-map f [] = refl
sum-map f (x ∷ xs) = ap (λ (n : ℕ). f x + n) (sum-map f xs)

module _ (b : List ℕ) (at stride n m : ℕ) where
  abbrev g : List (List ℕ)
  g = grid b at stride n m

  side-get : (f : ℕ → ℕ) → f 0 ≡ 0 → (p i : ℕ) → p < n → i < m → cell (map (map f) g) p i ≡ f (get_or b (at + stride * p + i) 0)
  side-get f z p i k l =
      ap (λ (r : List ℕ). get_or r i 0) (row-map f g p) ∙ ap (λ (d : ℕ). get_or (map f (row g p)) i d) (sym z) ∙ get_or-map f (row g p) i 0
      ∙ ap f (grid-get b at stride n m p i k l)

  side-sum : (f : ℕ → ℕ) (p : ℕ) → p < n → sum (row (map (map f) g) p) ≡ total f (block b (at + stride * p) m)
  side-sum f p k =
      ap sum (row-map f g p) ∙ sum-map f (row g p) ∙ ap (total f) (get_or-table n (λ q. block b (at + stride * q) m) p [] k)

  pub sides-are : (limit : ℕ) → (at_most limit n m (map (map plus) g) && at_most limit n m (map (map minus) g)) ≡ all_below n (λ p. row_passes (is_within limit) b (at + stride * p) m)
  unfolding at_most
  sides-are limit =
      sym (all-and (λ p. all_below m (λ i. leb (cell (map (map plus) g) p i) limit)) (λ p. all_below m (λ i. leb (cell (map (map minus) g) p i) limit)) n)
      ∙ all-ext _ _ n (λ p k. sym (all-and (λ i. leb (cell (map (map plus) g) p i) limit) (λ i. leb (cell (map (map minus) g) p i) limit) m)
      ∙ all-ext _ _ m (λ i l. ap₂ (λ (u v : ℕ). leb u limit && leb v limit) (side-get plus refl p i k l) (side-get minus refl p i k l)))

-- ---- the tests of the cells

module _ (b : List ℕ) where
  abbrev n : ℕ
  n = participants_in b

  abbrev m : ℕ
  m = issues_in b

  abbrev runs : ℕ
  runs = get_or b runs_at 0

  abbrev positions : List (List ℕ)
  positions = grid b positions_at most_participants baskets n

  abbrev owed : List (List ℕ)
  owed = map (map plus) positions

  abbrev due : List (List ℕ)
  due = map (map minus) positions

  abbrev tally : List (List ℕ)
  tally = grid b tally_at most_issues n m

  abbrev notices : List (List ℕ)
  notices = grid b notices_at most_issues n m

  abbrev balanced : ℕ → Bool
  balanced k = eqb (sum (row owed k)) (sum (row due k))

  abbrev tradable_if : ℕ → Bool
  tradable_if k = eqb (sum (row owed k) + sum (row due k)) 0 || tradable k (book_terms b) (book_marks b)

  positions-are : (limit : ℕ) → (at_most limit baskets n owed && at_most limit baskets n due && all_below baskets balanced && all_below baskets tradable_if) ≡ positions_fit b limit
  unfolding basket_fits
  positions-are limit =
      ap (λ (t : Bool). t && all_below baskets balanced && all_below baskets tradable_if) (sides-are b positions_at most_participants baskets n limit)
      ∙ ap (λ (t : Bool). t && all_below baskets tradable_if) (sym (all-and within balanced baskets))
      ∙ sym (all-and (λ k. within k && balanced k) tradable_if baskets)
      ∙ all-ext _ _ baskets (λ k l. ap₂ (λ (x y : ℕ). within k && eqb x y && (eqb (x + y) 0 || tradable k (book_terms b) (book_marks b)))
      (side-sum b positions_at most_participants baskets n plus k l) (side-sum b positions_at most_participants baskets n minus k l))
    where
      within : ℕ → Bool
      within k = row_passes (is_within limit) b (position_row k) n

  -- "after three runs positions and notices are zero": a limit, and the last test of the definition
  abbrev still : ℕ → ℕ → ℕ → List (List ℕ) → Bool
  still limit p i t = at_most limit p i t && (ltb runs 3 || at_most 0 p i t)

  abbrev standing : Bool
  standing = still position_limit baskets n owed && still position_limit baskets n due && all_below baskets balanced && all_below baskets tradable_if

  abbrev tallied : Bool
  tallied = at_most (tally_limit * runs) n m (map (map plus) tally) && at_most (tally_limit * runs) n m (map (map minus) tally)

  standing-is : standing ≡ positions_fit b (while_runs runs position_limit)
  standing-is =
      ap₂ (λ (x y : Bool). x && y && all_below baskets balanced && all_below baskets tradable_if)
      (sym (at-most-still (ltb runs 3) position_limit baskets n owed)) (sym (at-most-still (ltb runs 3) position_limit baskets n due))
      ∙ positions-are (while_runs runs position_limit)

  abbrev state_of : Bool → Bool → Bool → Bool
  state_of u v w = holds (leb runs 3 ∷ leb (get_or b trades_at 0) trade_limit ∷ u ∷ v ∷ w ∷ pairs_fit n (cube b today_at n) ∷ [])

  state-there : state_of (still notice_limit n m notices) standing tallied ≡ state_fits b
  unfolding state_fits state_within
  state-there =
      ap (λ (u : Bool). state_of u standing tallied) (sym (at-most-still (ltb runs 3) notice_limit n m notices))
      ∙ ap₂ (state_of (at_most (while_runs runs notice_limit) n m notices)) standing-is (sides-are b tally_at most_issues n m (tally_limit * runs))

  sound-is : sound_book b ≡ (book_fits b && holds (sizes_fit n m ∷ given_fits b ∷ state_fits b ∷ []))
  unfolding sound_book sound view given_fits
  sound-is =
      ap (λ (t : Bool). book_fits b && t)
      (arranged _ _ _ _ _ _ _ _ _ _ _ _ _ _ _ (ltb runs 3) (at_most 0 baskets n owed) (at_most 0 baskets n due) (at_most 0 n m notices)
      ∙ ap (λ (t : Bool). holds (sizes_fit n m ∷ given_fits b ∷ t ∷ [])) state-there)

-- the tests of a book whose day has n participants and m issues
module _ (b : List ℕ) (n m : ℕ) (e : n ≡ participants_in b) (f : m ≡ issues_in b) where
  pub given_is : given_fits b
      ≡ (codes_fit b
      && (terms_in_range m (grid b terms_at term_size m term_size)
      && (at_most 1000000000000 n m (grid b receipts_at most_issues n m) && pairs_fit n (cube b pairs_at n))))
  unfolding given_fits receipts_fit holds
  given_is = rw (e, f) (simp and-true)

  pub state_is : (runs lots yen : ℕ) → runs ≡ get_or b runs_at 0 → lots ≡ while_runs runs notice_limit → yen ≡ while_runs runs position_limit
      → state_fits b
      ≡ (leb runs 3 && (leb (get_or b trades_at 0) trade_limit
      && (at_most lots n m (grid b notices_at most_issues n m)
      && (positions_fit b yen && (tally_fits b (tally_limit * runs) && pairs_fit n (cube b today_at n))))))
  unfolding state_fits state_within holds
  state_is runs lots yen r l y = rw (e, f, l, y, r) (simp and-true)

pub sound_is : (b : List ℕ) → sound_book b ≡ (eqb (length b) book_length && (sizes_fit (participants_in b) (issues_in b) && (given_fits b && state_fits b)))
unfolding book_fits holds
sound_is b = sound-is b ∙ simp and-true

-- a book of its length whose sizes fit
pub sized : (b : List ℕ) → length b ≡ book_length → sizes_fit (participants_in b) (issues_in b) ≡ true → Sized b
unfolding sizes_fit
sized b e h =
    let k : leb 2 (participants_in b) && leb (participants_in b) 12 && leb 1 (issues_in b) ≡ true = and_left _ (leb (issues_in b) 32) h in
    let p : leb 2 (participants_in b) && leb (participants_in b) 12 ≡ true = and_left _ (leb 1 (issues_in b)) k in
    record {
      cells = e;
      participants = leb-true _ _ (and_right (leb 2 (participants_in b)) _ p);
      issues = leb-true _ _ (and_right (leb 2 (participants_in b) && leb (participants_in b) 12 && leb 1 (issues_in b)) _ h);
    }
