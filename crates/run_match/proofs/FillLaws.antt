-- Laws of what a match may use, and of filling it. Assumes nothing.
use mathlib.Core.Path.{◌≡◌, sym, ap, ap₂, ◌∙◌, subst}
use mathlib.Core.Bool.{Bool, false}
use mathlib.Core.List.{List, map}
use Prim.Native.Nat.{ℕ, ◌+◌, ◌≤◌, ◌<◌}
use native.Mathlib.Omega.{arith}
use lib.ListN.{length, get_or, length-map}
use Rattle.lists.specs.Tables.{table}
use Rattle.lists.specs.Parts.{block}
use Rattle.lists.proofs.TableLaws.{length-table, get_or-table}
use Rattle.lists.proofs.PartLaws.{block-get, length-block, table-agree}
use Rattle.rule.specs.Day.{terms_of, marks_of}
use Rattle.rule.specs.Filling.{Filled, filled, forced_issue}
use Rattle.rule.specs.Layout.{runs_at, notices_at, row_start, lots_row}
use Rattle.filling.specs.Match.{FilledAs}
use Rattle.filling.specs.declared.Filling.{Filling}
use Rattle.matching.specs.declared.Match.{Match as Entry}
use Rattle.run_usable.specs.Stock.{usable_of, may_use, UsableRowAsks, UsableRowGives}
use Rattle.run_usable.proofs.StockLaws.{usable_most}
use Rattle.layout.specs.InBook.{issues_in, issue_rows, book_terms, book_marks}
use Rattle.run_match.specs.declared.Basket.{Basket}
use Rattle.run_match.specs.Filled.{match_may_use, match_usable, UsableLotsAsks, UsableLotsGives, filled_in}

-- ---- what may be used

module _ {b : List ℕ} {B : Basket} {e : Entry} {used : List ℕ} {places : ℕ} (h : UsableLotsAsks b B e used places) where
  abbrev m : ℕ
  m = issues_in b

  abbrev at : ℕ
  at = row_start e.deliverer

  abbrev inside : List Bool
  inside = B.inside.now

  module _ {allocable gone : List ℕ} (a : allocable ≡ block B.stock.allocable.now at m) (g : gone ≡ block used at m) where
    allocable-at : (i : ℕ) → i < m → get_or allocable i 0 ≡ get_or B.stock.allocable.now (at + i) 0
    allocable-at i l = ap (λ (p : List ℕ). get_or p i 0) a ∙ block-get B.stock.allocable.now at m i l

    gone-at : (i : ℕ) → i < m → get_or gone i 0 ≡ get_or used (at + i) 0
    gone-at i l = ap (λ (p : List ℕ). get_or p i 0) g ∙ block-get used at m i l

    pub usable-asks : UsableRowAsks inside allocable gone B.stock.quotes.now places
    usable-asks = rw h.row (record {
      few = h.sized.issues;
      marked = h.marked;
      stock = omega (arith, ap length a, length-block B.stock.allocable.now at m (omega (arith, h.stock, h.deliverer, h.sized.issues)));
      gone = omega (arith, ap length g, length-block used at m (omega (arith, h.gone, h.deliverer, h.sized.issues)));
      quotes_there = h.quotes.there;
      allocable_most = λ i l. omega (arith, allocable-at i l, h.allocable_most i l);
      enough = λ i l x. omega (arith, gone-at i l, allocable-at i l, h.enough i l x);
    })

    module _ {usable : List ℕ} {all : ℕ} (w : UsableRowGives inside allocable gone B.stock.quotes.now places usable all) where
      abbrev f : ℕ → ℕ
      f i = match_may_use B used e.deliverer i

      row_is : usable ≡ match_usable b B used e.deliverer
      row_is =
          w.row_is ∙ ap (λ (n : ℕ). table n (may_use inside allocable gone)) h.row
          ∙ table-agree m (may_use inside allocable gone) f (λ i l. ap₂ (usable_of (get_or inside i false)) (allocable-at i l) (gone-at i l))

      most : (i : ℕ) → i < m → get_or usable i 0 ≤ 200_000_000
      most i l =
          omega (
            arith,
            ap (λ (r : List ℕ). get_or r i 0) row_is,
            get_or-table m f i 0 l,
            usable_most (get_or inside i false) (get_or B.stock.allocable.now (at + i) 0) (get_or used (at + i) 0) 200_000_000 (h.allocable_most i l),
          )

      pub usable-are : UsableLotsGives b B e used usable all
      usable-are = record {
        row = row_is;
        most = most;
        worth_is = w.worth_is (book_terms b) (length-map (issue_rows b) terms_of ∙ length-table m _ ∙ sym h.row) h.quotes.quoted;
      }

-- ---- filling

pub fill_is : (b : List ℕ) (e : Entry) (usable : List ℕ) {order : List ℕ} (k : ℕ) {listed notified : List ℕ} {issues : List (List ℕ)} {f : Filling} {lots' : List ℕ}
    → listed ≡ order → issues ≡ issue_rows b → notified ≡ block b (lots_row notices_at e.deliverer) (issues_in b)
    → FilledAs (filled (get_or b runs_at 0) e.preferential (map terms_of issues) usable listed (forced_issue k (map terms_of issues) (map marks_of issues) notified) e.amount.0) f lots'
    → FilledAs (filled_in b k e usable order) f lots'
unfolding filled_in
fill_is b e usable {order} k {listed} {notified} {f = r} {lots'} o i n q =
    subst (λ (x : Filled). FilledAs x r lots')
    (ap₂ (λ (l : List ℕ) (r : List (List ℕ)). filled (get_or b runs_at 0) e.preferential (map terms_of r) usable l (forced_issue k (map terms_of r) (map marks_of r) notified) e.amount.0) o i
    ∙ ap (λ (r : List ℕ). filled (get_or b runs_at 0) e.preferential (book_terms b) usable order (forced_issue k (book_terms b) (book_marks b) r) e.amount.0) n)
    q
