-- Laws of the order of a deliverer's issues. Assumes nothing.
use mathlib.Core.Path.{◌≡◌, refl, sym, ap, ap₂, ◌∙◌, subst}
use mathlib.Core.Logic.{◌≢◌, inl}
use mathlib.Core.Bool.{Bool, false}
use mathlib.Core.List.{List, [], ◌∷◌, ◌++◌}
use Rattle.std.specs.Prelude.{Option}
use Prim.Native.Nat.{ℕ, ◌+◌, ◌<◌}
use native.Mathlib.Nat.{le_refl}
use native.Mathlib.Decide.{ℕ_discrete}
use native.Mathlib.Omega.{arith}
use lib.ListN.{length, get_or, set, length-set}
use lib.Seq.{get_or-set_same, get_or-set_other}
use lib.Dec.{eqb}
use borrow.Author.Tests.{eqb-false}
use Rattle.std.proofs.lemmas.List.{get_or_default}
use Rattle.arrayvec.specs.ArrayVec.{ArrayVec}
use Rattle.lists.specs.Tables.{up_to}
use Rattle.lists.specs.Folds.{Every}
use Rattle.lists.specs.Order.{ranked}
use Rattle.lists.proofs.TableLaws.{length_from}
use Rattle.lists.proofs.FoldLaws.{every-from}
use Rattle.lists.proofs.PartLaws.{block-get, length-block}
use Rattle.lists.proofs.AppendLaws.{up_to-more}
use Rattle.lists.proofs.OrderLaws.{ranked-alike}
use Rattle.lists.specs.Parts.{block}
use Rattle.rule.specs.Layout.{notices_at, lots_row, row_start, most_participants, most_issues}
use Rattle.filling.specs.Rows.{NamesOnce}
use Rattle.filling.proofs.OnceLaws.{kept-named}
use Rattle.ranking.specs.Ranks.{SortAsks}
use Rattle.matching.specs.declared.Match.{Match}
use Rattle.issue_order.specs.Ordered.{IssueOrderAsks, Ordered, order_key}
use Rattle.issue_order.proofs.OrderLaws.{ordered-moved}
use Rattle.layout.specs.InBook.{issues_in}
use Rattle.run_order.specs.Orders.{Same, notified_in, ranking_in, RankedAt, Orders, RankIssuesAsks, OrderedAt, LoadOrderAsks, LoadOrderGives, OrderForAsks, OrderForGives}

-- ---- a deliverer's issues, ranked

-- so many are numbered, in a ranking that was empty
pub record NumberedTo (ranks : List ℕ) (i : ℕ) : Type 0 where
  pub items : ranks ≡ up_to i

pub numbered-none : (ranks : List ℕ) → length ranks ≡ 0 → NumberedTo ranks 0
numbered-none [] e = record { items = refl }
numbered-none (x ∷ xs) e = absurd (omega (arith, e))

module _ {ranks : List ℕ} {i : ℕ} (w : NumberedTo ranks i) where
  pub numbered-room : i < most_issues → length ranks < most_issues
  numbered-room l = omega (arith, ap length w.items, length_from 0 i)

  pub numbered-more : {ranks' : List ℕ} → ranks' ≡ ranks ++ (i ∷ []) → NumberedTo ranks' (i + 1)
  numbered-more e = record { items = e ∙ ap (λ (l : List ℕ). l ++ (i ∷ [])) w.items ∙ sym (up_to-more i) }

  module _ (notified : List ℕ) (e : i ≡ length notified) where
    pub numbered-sortable : {lent : List ℕ} → lent ≡ ranks → SortAsks notified lent
    numbered-sortable f = record { places = subst (Every (λ p. p < length notified)) (sym (f ∙ w.items)) (rw e (every-from (λ p. p < length notified) 0 (length notified) (λ p a b. omega arith))) }

-- ---- the order of a deliverer's issues

module _ {b before : List ℕ} {d : ℕ} {usable : List ℕ} {orders : List (ArrayVec ℕ)} (L : LoadOrderAsks b before d usable orders) where
  abbrev m : ℕ
  m = issues_in b

  module _ {notified : List ℕ} (there : notified ≡ block b (lots_row notices_at d) m) where
    notified-size : length notified ≡ m
    notified-size = ap length there ∙ length-block b (lots_row notices_at d) m (omega (arith, L.sized.cells, L.sized.issues, L.deliverer))

    notified-at : (i : ℕ) → i < m → get_or notified i 0 ≡ notified_in b d i
    notified-at i l = ap (λ (p : List ℕ). get_or p i 0) there ∙ block-get b (lots_row notices_at d) m i l

    abbrev ranks : List ℕ
    ranks = ranked (λ i. get_or notified i 0) (length notified)

    ranks-are : ranks ≡ ranked (notified_in b d) m
    ranks-are = ap (ranked (λ i. get_or notified i 0)) notified-size ∙ ranked-alike _ _ m notified-at

    deliverer-there : d < length orders
    deliverer-there = omega (arith, L.kept.places, L.deliverer)

    pub rank-asks : (x : ArrayVec ℕ) → RankIssuesAsks notified (get_or orders d x).items
    rank-asks x =
        let same : (get_or orders d x).items ≡ ranking_in orders d = ap (λ (o : ArrayVec ℕ). o.items) (get_or_default orders d x (record { items = [] }) deliverer-there) in
        record {
          few = omega (arith, notified-size, L.sized.issues);
          already = λ l. same ∙ L.kept.each d L.deliverer (omega (arith, ap length same)) ∙ sym ranks-are;
        }

    -- the ranking is back
    module _ {own : ArrayVec ℕ} (e : own.items ≡ ranks) where
      abbrev back : List (ArrayVec ℕ)
      back = set orders d own

      own_row : RankedAt b d back
      own_row = ap (λ (o : ArrayVec ℕ). o.items) (get_or-set_same orders d own (record { items = [] }) deliverer-there) ∙ e ∙ ranks-are

      -- the other rankings are as before
      other_row : (p : ℕ) → p ≢ d → p < most_participants → 0 < length (ranking_in back p) → RankedAt b p back
      other_row p x y l =
          let same : ranking_in back p ≡ ranking_in orders p = ap (λ (o : ArrayVec ℕ). o.items) (get_or-set_other orders d p own (record { items = [] }) x) in
          same ∙ L.kept.each p y (omega (arith, ap length same))

      kept : Orders b back
      kept = record { places = length-set orders d own ∙ L.kept.places; each = λ p y l. go p y l (ℕ_discrete p d) }
        where
          go : (p : ℕ) → p < most_participants → 0 < length (ranking_in back p) → Dec (p ≡ d) → RankedAt b p back
          go p y l (yes x) = subst (λ (q : ℕ). RankedAt b q back) (sym x) own_row
          go p y l (no x) = other_row p x y l

      pub order-asks : {earlier : List ℕ} → length earlier ≡ m → {lent : List ℕ} → lent ≡ own.items → IssueOrderAsks notified earlier lent (length usable)
      order-asks long f = record {
        issues_most = omega (arith, notified-size, L.sized.issues);
        earlier = long ∙ sym notified-size;
        usable_there = omega (arith, notified-size, L.usable_there);
        notified_most = λ i l. let k : i < m = omega (arith, notified-size) in omega (arith, notified-at i k, L.notified_most i k);
        ranks = f ∙ e;
      }

      pub all-loaded : {earlier : List ℕ} → earlier ≡ block before (row_start d) m → (preferential : Bool) {order : List ℕ}
          → Ordered (length notified) (λ i. order_key preferential (get_or notified i 0) (get_or earlier i 0)) (λ i. get_or usable i 0) order
          → LoadOrderGives b before d preferential usable back order
      all-loaded before-is preferential o = record {
        ordered = ordered-moved notified-size
            (λ i l.
            let k : i < m = omega (arith, notified-size) in
            ap₂ (order_key preferential) (notified-at i k) (ap (λ (p : List ℕ). get_or p i 0) before-is ∙ block-get before (row_start d) m i k))
            (λ i l. le_refl _) o;
        kept = kept;
      }

-- ---- a match's order

pub not-empty : (empty : Bool) (n : ℕ) → empty ≡ eqb n 0 → empty ≡ false → 0 < n
not-empty empty n e f = omega (arith, eqb-false n 0 (sym e ∙ f))

module _ {b before : List ℕ} {last : Option Match} {m : Match} {usable : List ℕ} {orders : List (ArrayVec ℕ)} {order : List ℕ} (a : OrderForAsks b before last m usable orders order) (all : ℕ) where
  named-of : {order' : List ℕ} → OrderedAt b before m (λ i. get_or usable i 0) order' → NamesOnce (issues_in b) order'
  named-of o = subst (NamesOnce (issues_in b)) (sym o.names) (kept-named (issues_in b) _ o.live)

  -- the order of the match before is that of match m
  pub still-listed : 0 < length order → Same last m → OrderForGives b before m usable all orders order
  still-listed h s =
      let o : OrderedAt b before m (λ i. get_or usable i 0) order = a.last_is h s in
      record { kept = a.loadable.kept; named = named-of o; fits = inl o; listed = λ z. o }

  pub now-listed : {orders' : List (ArrayVec ℕ)} {order' : List ℕ} → LoadOrderGives b before m.deliverer m.preferential usable orders' order' → OrderForGives b before m usable all orders' order'
  now-listed l = record { kept = l.kept; named = named-of l.ordered; fits = inl l.ordered; listed = λ z. l.ordered }

-- ---- the rows of a run

-- none is ranked where a run begins
pub orders-begin : (b : List ℕ) (orders : List (ArrayVec ℕ)) → length orders ≡ most_participants → ((d : ℕ) → d < most_participants → ranking_in orders d ≡ [])
    → Orders b orders
orders-begin b orders l e = record { places = l; each = λ d x s. absurd (omega (arith, ap length (e d x))) }

-- a book with the same notices has the same rankings
pub orders-moved : (b c : List ℕ) {orders : List (ArrayVec ℕ)} → issues_in b ≡ issues_in c
    → ((d i : ℕ) → d < most_participants → i < issues_in b → notified_in b d i ≡ notified_in c d i)
    → Orders b orders → Orders c orders
orders-moved b c e same o = record {
  places = o.places;
  each = λ d x l.
      o.each d x l
      ∙ ranked-alike (notified_in b d) (notified_in c d) (issues_in b) (λ i k. same d i x k) ∙ ap (ranked (notified_in c d)) e;
}
