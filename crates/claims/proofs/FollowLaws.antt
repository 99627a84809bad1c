-- Laws of a close after three runs: it is accepted, and tomorrow's opening takes what it wrote. Assumes nothing.
use mathlib.Core.Path.{◌≡◌, refl, sym, ap, ap₂, ◌∙◌, subst}
use Prim.Native.Nat.{ℕ, ◌+◌, ◌*◌, ◌≤◌, ◌<◌}
use native.Mathlib.Nat.{mul_comm, mul-suc, mul-le-mul_left, le_refl}
use native.Mathlib.Omega.{arith}
use mathlib.Core.Bool.{Bool, true, false, not}
use mathlib.Core.List.{List, [], ◌∷◌, map}
use lib.ListN.{length, get_or, length-map}
use lib.Seq.{ext_get_or}
use borrow.Author.Tests.{eq-eqb, le-ltb}
use Rattle.lists.specs.Tests.{first}
use Rattle.lists.specs.Tables.{table, zeros, row}
use Rattle.lists.specs.Folds.{joined, Every}
use Rattle.lists.specs.Parts.{grid, block, over}
use Rattle.lists.proofs.TableLaws.{length-table, get_or-table, get_d_map}
use Rattle.lists.proofs.PartLaws.{Shape, over-same, stands-grid}
use Rattle.rule.specs.Day.{Given, baskets, given_of, opened}
use Rattle.rule.specs.Sound.{receipts_fit, pairs_fit, tally_limit}
use Rattle.rule.specs.Calls.{Reply, accepted, answer, open_checks, refusal, close_checks, tomorrow_receipts, tomorrow_pairs}
use Rattle.rule.specs.Layout.{book_length, view, stored, book_fits, sound_book, open_of, close_of}
use Rattle.rule.proofs.SoundLaws.{of-most}
use Rattle.rule.proofs.LayoutLaws.{Shaped, view-shaped}
use Rattle.rule.proofs.BookLaws.{SoundBook}
use Rattle.rule.proofs.OpenLaws.{Openable}
use Rattle.rule.proofs.CallLaws.{open-passed}
use Rattle.rule.proofs.AnswerLaws.{granted}
use Rattle.lists.proofs.AppendLaws.{joined_length}
use Rattle.claims.proofs.JoinLaws.{joined-get, joined-grid, shape-rows}

-- ---- with no row's condition a call is accepted

no-first : (cs : List (ℕ × Bool)) → Every (λ c. c.1 ≡ false) cs → first cs ≡ 0
unfolding first
no-first [] h = refl
no-first (c ∷ cs) h = rw h.0 (no-first cs h.1)

accepts : {X : Type 0} (e : ℕ) (new old : X) → e ≡ 0 → answer e accepted new old ≡ (accepted, new)
accepts e new old h = rw h

open-accepts : (n m : ℕ) (codes terms receipts pairs b : List ℕ) → Openable n m codes terms receipts pairs → book_fits b ≡ true
    → (open_of n m codes terms receipts pairs b).0 ≡ accepted
unfolding open_of open_checks given_of
open-accepts n m codes terms receipts pairs b h fits =
    ap (λ (r : Reply × List ℕ). r.0) (accepts _ (stored (zeros book_length) (opened (given_of n m codes terms receipts pairs))) b
    (no-first (open_checks (book_fits b) n m codes terms receipts pairs) (
      granted _ h.sizes,
      (
        granted _ (eq-eqb _ _ h.codes_size),
        (
          granted _ (eq-eqb _ _ h.terms_size),
          (
            granted _ (eq-eqb _ _ h.receipts_size),
            (
              granted _ (eq-eqb _ _ h.pairs_size),
              (granted _ fits, (granted _ h.given.codes, (granted _ h.given.terms, (granted _ h.given.receipts, (granted _ h.given.pairs, tt))))),
            ),
          ),
        ),
      ),
    )))

-- ---- tables written one after the other are read back

-- n rows of m
block-table : (b : List ℕ) (t : List (List ℕ)) (n m : ℕ) → Shape t n m → n * m ≤ length b → block (over b 0 (joined t)) 0 (n * m) ≡ joined t
block-table b t n m s fit =
    let e : length (joined t) ≡ n * m = joined_length m t (shape-rows t n m s) ∙ ap (λ (k : ℕ). m * k) s.rows ∙ mul_comm m n in
    ap (λ (k : ℕ). block (over b 0 (joined t)) 0 k) (sym e) ∙ over-same b (joined t) 0 (omega arith)

grid-table : (t : List (List ℕ)) (n m : ℕ) → Shape t n m → grid (joined t) 0 m n m ≡ t
grid-table t n m s =
    ap (λ (k : ℕ). grid (joined t) 0 m k m) (sym s.rows)
    ∙ joined-grid m (joined t) t (shape-rows t n m s) (omega (arith, joined_length m t (shape-rows t n m s))) (λ i l. refl)

-- tables of n rows of n, joined each
module _ (c : List (List (List ℕ))) (n : ℕ) (size : length c ≡ 7) (s : (k : ℕ) → k < 7 → Shape (row c k) n n) where
  abbrev flat : List (List ℕ)
  flat = map joined c

  flat-row : (k : ℕ) → k < 7 → row flat k ≡ joined (row c k)
  flat-row k l = get_d_map joined c k [] [] (omega arith)

  flat-length : length flat ≡ 7
  flat-length = length-map c joined ∙ size

  table-length : (k : ℕ) → k < 7 → length (joined (row c k)) ≡ n * n
  table-length k l = joined_length n (row c k) (shape-rows (row c k) n n (s k l)) ∙ ap (λ (x : ℕ). n * x) (s k l).rows

  flat-shape : Shape flat 7 (n * n)
  flat-shape = record { rows = flat-length; cells = λ k l. ap length (flat-row k l) ∙ table-length k l }

  flat-grid : (k : ℕ) → k < 7 → grid (joined flat) (n * n * k) n n n ≡ row c k
  flat-grid k l =
      let rows : Every (λ r. length r ≡ n * n) flat = shape-rows flat 7 (n * n) flat-shape in
      let all : length (joined flat) ≡ n * n * 7 = joined_length (n * n) flat rows ∙ ap (λ (x : ℕ). n * n * x) flat-length in
      stands-grid (joined flat) (n * n * k) n n n (row c k) (s k l) (le_refl n) (omega (arith, all, mul-le-mul_left (n * n) l, mul-suc (n * n) k))
      (λ p i a b.
      let place : n * n * k + n * p + i ≡ n * n * k + (n * p + i) = omega arith in
      let inside : n * p + i < n * n = omega (arith, mul-le-mul_left n a, mul-suc n p) in
      ap (λ (j : ℕ). get_or (joined flat) j 0) place ∙ joined-get (n * n) flat rows k (n * p + i) (omega (arith, flat-length)) inside
      ∙ ap (λ (r : List ℕ). get_or r (n * p + i) 0) (flat-row k l)
      ∙ joined-get n (row c k) (shape-rows (row c k) n n (s k l)) p i (omega (arith, (s k l).rows)) b)

  cube-table : table 7 (λ k. grid (joined flat) (n * n * k) n n n) ≡ c
  cube-table = ext_get_or [] (table 7 (λ k. grid (joined flat) (n * n * k) n n n)) c (length-table 7 (λ k. grid (joined flat) (n * n * k) n n n) ∙ sym size) (λ k l.
      let l' : k < 7 = omega (arith, length-table 7 (λ k. grid (joined flat) (n * n * k) n n n)) in
      get_or-table 7 (λ k. grid (joined flat) (n * n * k) n n n) k [] l' ∙ flat-grid k l')

-- ---- close, of a sound book after three runs

-- close is accepted, and an opening of n participants and m issues takes what it wrote
unfoldable pub Follows : List ℕ → ℕ → ℕ → List ℕ → List ℕ → List ℕ → List ℕ → Type 0
Follows b n m codes terms receipts pairs =
    let c : Reply × (List ℕ × List ℕ) = close_of b receipts pairs in
    (c.0 ≡ accepted) × ((open_of n m codes terms (block c.1.0 0 (n * m)) (block c.1.1 0 (baskets * (n * n))) b).0 ≡ accepted)

module _ (b : List ℕ) (s : SoundBook b) (sound : sound_book b ≡ true) (three : (view b).state.runs ≡ 3) where
  abbrev n : ℕ
  n = (view b).given.participants

  abbrev m : ℕ
  m = (view b).given.issues

  abbrev shape : Shaped (view b)
  shape = view-shaped b s.readable

  module _ (receipts pairs : List ℕ) (room : n * m ≤ length receipts) (places : baskets * (n * n) ≤ length pairs) where
    pub close-accepts : close_of b receipts pairs ≡ (accepted, (over receipts 0 (joined (view b).state.delivered), over pairs 0 (joined (map joined (view b).state.today))))
    unfolding close_of refusal close_checks tomorrow_receipts tomorrow_pairs
    close-accepts =
        accepts _ (over receipts 0 (joined (view b).state.delivered), over pairs 0 (joined (map joined (view b).state.today))) (receipts, pairs)
        (no-first ((5, not (sound_book b)) ∷ close_checks (view b) (length receipts) (length pairs))
        (granted (sound_book b) sound, (le-ltb (view b).state.runs 3 (omega (arith, three)), (le-ltb (length receipts) (n * m) room, (le-ltb (length pairs) (baskets * (n * n)) places, tt)))))

    receipts-back : block (over receipts 0 (joined (view b).state.delivered)) 0 (n * m) ≡ joined (view b).state.delivered
    receipts-back = block-table receipts (view b).state.delivered n m shape.delivered room

    pairs-back : block (over pairs 0 (joined (map joined (view b).state.today))) 0 (baskets * (n * n)) ≡ joined (map joined (view b).state.today)
    pairs-back =
        block-table pairs (map joined (view b).state.today) 7 (n * n) (flat-shape (view b).state.today n shape.today_baskets shape.today) places

  -- a tally is at most 3 × 10^11 lots
  receipts-right : receipts_fit n m (view b).state.delivered ≡ true
  unfolding receipts_fit
  receipts-right = of-most 1000000000000 n m (view b).state.delivered (λ p i l k.
      omega (arith, s.day.tallies.delivered p i l k, ap (λ (r : ℕ). tally_limit * r) three))

  -- what tomorrow's opening has shown with no receipts and pairs, it shows with these
  openable-next : (codes terms : List ℕ) → Openable n m codes terms (zeros (n * m)) (zeros (baskets * (n * n)))
      → Openable n m codes terms (joined (view b).state.delivered) (joined (map joined (view b).state.today))
  unfolding given_of
  openable-next codes terms h = record {
    sizes = h.sizes;
    codes_size = h.codes_size;
    terms_size = h.terms_size;
    receipts_size = joined_length m (view b).state.delivered (shape-rows (view b).state.delivered n m shape.delivered) ∙ ap (λ (k : ℕ). m * k) shape.delivered.rows ∙ mul_comm m n;
    pairs_size = joined_length (n * n) flat-today (shape-rows flat-today 7 (n * n) today-shape) ∙ ap (λ (k : ℕ). n * n * k) today-shape.rows ∙ mul_comm (n * n) 7;
    given = record {
      sizes = h.sizes;
      codes = h.given.codes;
      terms = h.given.terms;
      receipts = ap (receipts_fit n m) (grid-table (view b).state.delivered n m shape.delivered) ∙ receipts-right;
      pairs = ap (pairs_fit n) (cube-table (view b).state.today n shape.today_baskets shape.today) ∙ s.day.today;
    };
  }
    where
      flat-today : List (List ℕ)
      flat-today = map joined (view b).state.today

      today-shape : Shape flat-today 7 (n * n)
      today-shape = flat-shape (view b).state.today n shape.today_baskets shape.today

  fits : book_fits b ≡ true
  unfolding book_fits
  fits = eq-eqb (length b) book_length s.readable.size

  -- tomorrow's opening takes what close wrote
  follows-own : (codes terms receipts pairs : List ℕ) → n * m ≤ length receipts → baskets * (n * n) ≤ length pairs
      → (open_of n m codes terms (zeros (n * m)) (zeros (baskets * (n * n))) b).0 ≡ accepted → Follows b n m codes terms receipts pairs
  unfolding Follows
  follows-own codes terms receipts pairs room places a =
      let e : close_of b receipts pairs ≡ (accepted, (over receipts 0 (joined (view b).state.delivered), over pairs 0 (joined (map joined (view b).state.today)))) =
      close-accepts receipts pairs room places in
      let r : block (close_of b receipts pairs).1.0 0 (n * m) ≡ joined (view b).state.delivered =
      ap (λ (x : Reply × (List ℕ × List ℕ)). block x.1.0 0 (n * m)) e ∙ receipts-back receipts pairs room places in
      let p : block (close_of b receipts pairs).1.1 0 (baskets * (n * n)) ≡ joined (map joined (view b).state.today) =
      ap (λ (x : Reply × (List ℕ × List ℕ)). block x.1.1 0 (baskets * (n * n))) e ∙ pairs-back receipts pairs room places in (
        ap (λ (x : Reply × (List ℕ × List ℕ)). x.0) e,
        ap₂ (λ (x z : List ℕ). (open_of n m codes terms x z b).0) r p
            ∙ open-accepts n m codes terms (joined (view b).state.delivered) (joined (map joined (view b).state.today)) b
            (openable-next codes terms (open-passed n m codes terms (zeros (n * m)) (zeros (baskets * (n * n))) b a)) fits,
      )

  pub follows : (g : Given) → (view b).given ≡ g → (codes terms receipts pairs : List ℕ) → g.participants * g.issues ≤ length receipts
      → baskets * (g.participants * g.participants) ≤ length pairs
      → (open_of g.participants g.issues codes terms (zeros (g.participants * g.issues)) (zeros (baskets * (g.participants * g.participants))) b).0 ≡ accepted
      → Follows b g.participants g.issues codes terms receipts pairs
  follows g e codes terms receipts pairs =
      subst (λ (x : Given). x.participants * x.issues ≤ length receipts → baskets * (x.participants * x.participants) ≤ length pairs
      → (open_of x.participants x.issues codes terms (zeros (x.participants * x.issues)) (zeros (baskets * (x.participants * x.participants))) b).0 ≡ accepted
      → Follows b x.participants x.issues codes terms receipts pairs) e (follows-own codes terms receipts pairs)
