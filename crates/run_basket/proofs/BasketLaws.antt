-- Laws of a basket's step. Assumes nothing.
use mathlib.Core.Path.{◌≡◌, ap, ◌∙◌}
use mathlib.Core.Bool.{Bool, false}
use mathlib.Core.List.{List, map}
use Prim.Native.Nat.{ℕ, ◌+◌, ◌≤◌}
use native.Mathlib.Omega.{arith}
use denote.Bor.{Bor}
use lib.ListN.{length, get_or, take, replicate, length-replicate}
use lib.Seq.{length-take-le}
use Rattle.lists.specs.Tables.{table}
use Rattle.lists.proofs.PartLaws.{table-agree}
use Rattle.rule.specs.Baskets.{within}
use Rattle.rule.specs.Run.{Allocation, basket_plan}
use Rattle.rule.specs.Layout.{view, row_cell, most_issues}
use Rattle.rule.proofs.BookLaws.{SoundBook}
use Rattle.matching.specs.Plans.{rule_match, Planned}
use Rattle.matching.specs.declared.Match.{Match as Entry}
use Rattle.arrayvec.specs.ArrayVec.{ArrayVec}
use Rattle.run_usable.specs.Stock.{inside_of}
use Rattle.run_usable.specs.declared.Stock.{Stock}
use Rattle.layout.specs.InBook.{issues_in}
use Rattle.run_match.specs.Filled.{plan_in}
use Rattle.run_match.specs.declared.Basket.{Basket}
use Rattle.run_post.specs.declared.listing.Lists.{Lists}
use Rattle.run_basket.specs.Running.{done_to, BookedTo, Done, RunBasketAsks, AllocateAsks}
use Rattle.run_basket.proofs.ReadLaws.{issues-kept, terms-in-kept, plan-kept, nothing-covered}

module _ (k : ℕ) (b draw : List ℕ) (stock : Stock) (orders : List (ArrayVec ℕ)) (used' : List ℕ) (t : Lists) (s : RunBasketAsks k b draw stock orders used' t) where
  abbrev b₀ : List ℕ
  b₀ = s.b₀

  abbrev sound : SoundBook s.b₀
  sound = s.begun.start.book

  abbrev done : List Allocation
  done = done_to (view s.b₀) draw k

  abbrev booked : BookedTo s.b₀ (done_to (view s.b₀) draw k) b
  booked = s.begun.running.booked

  abbrev n : ℕ
  n = issues_in b

  same : issues_in b ≡ issues_in b₀
  same = issues-kept b₀ sound done b booked

  pub issues_most : issues_in b ≤ most_issues
  issues_most = omega (arith, same, sound.sizes.most)

  -- ---- the plan

  plan-same : plan_in b draw k ≡ basket_plan (view b₀) draw k
  plan-same = plan-kept b₀ sound done b booked k s.begun.basket (λ p. nothing-covered (view b₀) draw k p) draw

  -- ---- the issues of the basket

  abbrev places : ℕ
  places = length (take (issues_in b) (replicate most_issues false))

  places-are : places ≡ n
  places-are = length-take-le (issues_in b) (replicate most_issues false) (omega (arith, issues_most, length-replicate most_issues false))

  -- ---- the matches

  -- the issues of the basket are marked, and the lots used before it are kept
  module _ (inside : Bor (List Bool)) (before : Bor (List ℕ)) (marked : inside.now ≡ table places (inside_of b k)) (earlier : before.now ≡ used') where
    abbrev B : Basket
    B = record { number = k; stock = stock; inside = inside; before = before }

    inside-is : inside.now ≡ table (issues_in b₀) (inside_of b₀ k)
    unfolding inside_of
    inside-is =
        marked ∙ ap (λ (q : ℕ). table q (inside_of b k)) (places-are ∙ same)
        ∙ table-agree (issues_in b₀) (inside_of b k) (inside_of b₀ k) (λ i h.
        ap (within k) (terms-in-kept b₀ sound done b booked i (omega (arith, sound.sizes.most))))

    pub allocate-asked : {made : ArrayVec Entry} {lent : List Entry} → Planned (plan_in b draw k) made → lent ≡ made.items → AllocateAsks B b lent orders used' t
    allocate-asked p l = record {
      b₀ = s.b₀;
      draw = draw;
      m₀ = s.m₀;
      l₀ = s.l₀;
      begun = s.begun;
      planning = record {
        planned = ap (map rule_match) l ∙ p.matches ∙ plan-same;
        inside_is = inside-is;
        earlier = ap length earlier ∙ s.begun.running.places;
        before_at = λ d i x v. ap (λ (q : List ℕ). get_or q (row_cell d i) 0) earlier ∙ s.begun.running.gone d i x v;
      };
    }

    -- what the loop leaves
    pub basket-done : {made : ArrayVec Entry} {lent : List Entry} → Planned (plan_in b draw k) made → lent ≡ made.items → {b' : List ℕ} {orders' : List (ArrayVec ℕ)} {used'' : List ℕ} {t' : Lists}
        → ((a : AllocateAsks B b lent orders used' t) → Done a.b₀ a.m₀ a.l₀ (done_to (view a.b₀) a.draw (k + 1)) b' orders' used'' t')
        → Done s.b₀ s.m₀ s.l₀ (done_to (view s.b₀) draw (k + 1)) b' orders' used'' t'
    unfolding allocate-asked
    basket-done p l f = f (allocate-asked p l)
