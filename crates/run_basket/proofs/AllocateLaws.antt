-- Laws of the loop over a basket's matches. Assumes nothing.
use mathlib.Core.Path.{◌≡◌, sym, ap, ◌∙◌, subst}
use mathlib.Core.Bool.{Bool}
use mathlib.Core.List.{List, []}
use Rattle.std.specs.Prelude.{Option, Some}
use Rattle.std.specs.Option.{unwrap_or}
use Prim.Native.Nat.{ℕ, ◌+◌, ◌≤◌, ◌<◌}
use native.Mathlib.Omega.{arith}
use lib.ListN.{length, get_or, length-map}
use Rattle.arrayvec.specs.ArrayVec.{ArrayVec}
use Rattle.lists.specs.Tables.{zeros}
use Rattle.rule.specs.Run.{Allocation, basket_plan}
use Rattle.rule.specs.Layout.{view, most_issues}
use Rattle.filling.specs.Match.{FilledAs}
use Rattle.filling.specs.declared.Filling.{Filling}
use Rattle.matching.specs.Plans.{rule_match}
use Rattle.matching.specs.declared.Match.{Match as Entry}
use Rattle.issue_order.specs.Ordered.{Ordered}
use Rattle.layout.specs.InBook.{issues_in}
use Rattle.run_order.specs.Orders.{Same, Orders, key_in, OrderedAt, OrderForAsks, OrderForGives}
use Rattle.run_match.specs.declared.Basket.{Basket}
use Rattle.run_match.specs.Filled.{match_may_use, UsableLotsAsks, UsableLotsGives, FillNextAsks, filled_in, WriteNextAsks, WriteNextGives}
use Rattle.run_post.specs.declared.listing.Lists.{Lists}
use Rattle.run_post.specs.Listed.{SameLists}
use Rattle.run_post.proofs.ListingLaws.{same-lists, same-then}
use Rattle.run_basket.specs.Running.{done_to, done_at, Running, Done, AllocateAsks}
use Rattle.run_basket.proofs.DoneLaws.{done-begin, done_end}
use Rattle.run_basket.proofs.ReadLaws.{issues-kept}
use Rattle.run_basket.proofs.RunningLaws.{usable-asks, orders-kept, order-asks, order-next, fill-asks, write-asks, running_more}

module _ (B : Basket) (b₁ : List ℕ) (made : List Entry) (orders₁ : List (ArrayVec ℕ)) (used₁ : List ℕ) (t₁ : Lists) where
  abbrev k : ℕ
  k = B.number

  abbrev before : List ℕ
  before = B.before.now

  abbrev Asks : Type 0
  Asks = AllocateAsks B b₁ made orders₁ used₁ t₁

  -- the first j matches are filled, listed and booked, whatever book and lists the run began with; the order is that of the last of them, if it lists any issue
  pub record Allocating (b : List ℕ) (orders : List (ArrayVec ℕ)) (used order : List ℕ) (t : Lists) (last : Option Entry) (usable : List ℕ) (j : ℕ) : Type 0 where
    pub here : j ≤ length made
    pub wide : length usable ≡ get_or b₁ 1 0
    pub running : (s : Asks) → Running s.b₀ s.m₀ s.l₀ (done_at (view s.b₀) s.draw k j) b used t
    pub kept : (s : Asks) → Orders s.b₀ orders
    pub same : SameLists t₁ t
    pub last_is : (s : Asks) → 0 < length order → (x : Entry) → last ≡ Some x → OrderedAt s.b₀ before x (match_may_use B used x.deliverer) order

  pub allocating-none : {order usable : List ℕ} (last : Option Entry) → order ≡ [] → length usable ≡ get_or b₁ 1 0 → Allocating b₁ orders₁ used₁ order t₁ last usable 0
  allocating-none last e r = record {
    here = omega arith;
    wide = r;
    running = λ s. subst (λ (x : List Allocation). Running s.b₀ s.m₀ s.l₀ x b₁ used₁ t₁) (sym (done-begin (view s.b₀) s.draw k)) s.begun.running;
    kept = λ s. s.begun.kept;
    same = same-lists t₁;
    last_is = λ s t x z. absurd (omega (arith, ap length e));
  }

  pub issues-few : Asks → get_or b₁ 1 0 ≤ most_issues
  issues-few s = omega (arith, issues-kept s.b₀ s.begun.start.book _ b₁ s.begun.running.booked, s.begun.start.book.sizes.most)

  counted : (s : Asks) → length (basket_plan (view s.b₀) s.draw k) ≡ length made
  counted s = sym (ap length s.planning.planned) ∙ length-map made rule_match

  pub allocating-all : {b : List ℕ} {orders : List (ArrayVec ℕ)} {used order : List ℕ} {t : Lists} {last : Option Entry} {usable₀ : List ℕ} {j : ℕ}
      → length made ≤ j → Allocating b orders used order t last usable₀ j
      → (s : Asks) → Done s.b₀ s.m₀ s.l₀ (done_to (view s.b₀) s.draw (k + 1)) b orders used t
  allocating-all {b} {orders} {used} {order} {t} {last} {usable₀} {j} h w s = record {
    running = subst (λ (x : List Allocation). Running s.b₀ s.m₀ s.l₀ x b used t) (done_end (view s.b₀) s.draw k j (omega (arith, counted s))) (w.running s);
    kept = w.kept s;
  }

  module _ {b : List ℕ} {orders : List (ArrayVec ℕ)} {used order : List ℕ} {t : Lists} {last : Option Entry} {usable₀ : List ℕ} {j : ℕ}
      (w : Allocating b orders used order t last usable₀ j) where
    -- ---- the lengths of what is lent stay

    module _ (s : Asks) where
      -- the code has the number of issues from the book as the basket began
      pub issues-same : get_or b₁ 1 0 ≡ issues_in b
      issues-same = issues-kept s.b₀ s.begun.start.book _ b₁ s.begun.running.booked ∙ sym (issues-kept s.b₀ s.begun.start.book _ b (w.running s).booked)

    -- ---- the next match

    module _ (e : Entry) (h : j < length made) (E : e ≡ get_or made j e) where
      pub usable-asked : Asks → UsableLotsAsks b B e used (length usable₀)
      usable-asked s =
          usable-asks s.b₀ s.draw s.m₀ s.l₀ s.begun.start B s.begun.basket made s.planning j e h E s.begun.stocked
          b used t (w.running s) (length usable₀) (w.wide ∙ issues-same s)

      module _ {usable : List ℕ} {all : ℕ} (U : UsableLotsGives b B e used usable all) where
        pub order-asked : Asks → OrderForAsks b before last e usable orders order
        order-asked s =
            order-asks s.b₀ s.draw s.m₀ s.l₀ s.begun.start B s.begun.basket made s.planning j e h E s.begun.stocked
            b used t (w.running s) usable all U last orders order (w.kept s) (λ x y. same y (w.last_is s x y.before y.there))
          where
            -- the match before is of the same deliverer and sort
            same : (y : Same last e) → OrderedAt s.b₀ before y.before (match_may_use B used y.before.deliverer) order
                → OrderedAt s.b₀ before e (match_may_use B used e.deliverer) order
            same y o =
                subst (λ (x : Bool). Ordered (issues_in s.b₀) (key_in s.b₀ before e.deliverer x) (match_may_use B used e.deliverer) order) y.sort
                (subst (λ (x : ℕ). Ordered (issues_in s.b₀) (key_in s.b₀ before x y.before.preferential) (match_may_use B used x) order) y.deliverer o)

      module _ {usable : List ℕ} {all : ℕ} (U : UsableLotsGives b B e used usable all) {orders' : List (ArrayVec ℕ)} {order' : List ℕ} (O : OrderForGives b before e usable all orders' order') where
        pub fill-asked : (lots : List ℕ) → lots ≡ zeros (issues_in b) → Asks → FillNextAsks b B.stock e usable all order' lots
        fill-asked lots v s =
            fill-asks s.b₀ s.draw s.m₀ s.l₀ s.begun.start B s.begun.basket made s.planning j e h E s.begun.stocked
            b used t (w.running s) usable all U orders' order' O lots v

        module _ {f : Filling} {lots : List ℕ} (A : FilledAs (filled_in b k e usable order') f lots) where
          pub write-asked : Asks → WriteNextAsks b k e f lots used t
          write-asked s =
              write-asks s.b₀ s.draw s.m₀ s.l₀ s.begun.start B s.begun.basket made s.planning j e h E s.begun.stocked
              b used t (w.running s) usable all U orders' order' O f lots A

          pub allocating-more : {b' used' : List ℕ} {t' : Lists} → length usable ≡ length usable₀ → WriteNextGives b k e f lots used t b' used' t'
              → Allocating b' orders' used' order' t' (Some e) usable (j + 1)
          allocating-more {b'} {used'} {t'} z₀ W = record {
            here = omega arith;
            wide = z₀ ∙ w.wide;
            running = λ s.
                running_more s.b₀ s.draw s.m₀ s.l₀ s.begun.start B s.begun.basket made s.planning j e h E s.begun.stocked
                b used t (w.running s) usable all U orders' order' O f lots A b' used' t' W;
            kept = λ s.
                orders-kept s.b₀ s.draw s.m₀ s.l₀ s.begun.start B s.begun.basket made s.planning j e h E s.begun.stocked
                b used t (w.running s) orders' O.kept;
            same = same-then w.same W.same;
            last_is = λ s x p z. subst (λ (q : Entry). OrderedAt s.b₀ before q (match_may_use B used' q.deliverer) order') (ap (λ (o : Option Entry). unwrap_or o e) z)
                (order-next s.b₀ s.draw s.m₀ s.l₀ s.begun.start B s.begun.basket made s.planning j e h E s.begun.stocked
                b used t (w.running s) usable all U orders' order' O f lots A b' used' t' W x);
          }
