-- A run in progress: the matches filled so far, and what stands where. Assumes nothing.
use Rattle.std.specs.Prelude.{◌≡◌, ◌≢◌, List, [], ◌∷◌, ◌++◌, map, ℕ, ◌+◌, ◌-◌, ◌*◌, ◌≤◌, ◌<◌, length, get_or, take, ltb}
use Rattle.lists.specs.Tests.{pick}
use Rattle.arrayvec.specs.ArrayVec.{ArrayVec}
use Rattle.lists.specs.Tables.{up_to, table, cell}
use Rattle.lists.specs.Folds.{foldl, joined}
use Rattle.lists.specs.Parts.{over}
use Rattle.rule.specs.Day.{baskets, Day, mark}
use Rattle.rule.specs.Run.{Allocation, used, used_table, allocate, basket_plan, basket, covered_from, covered_to, covered_pair, lots_from, lots_to, match_list, line_list}
use Rattle.rule.specs.Entries.{match_size, line_size}
use Rattle.rule.specs.Calls.{most_matches, most_lines}
use Rattle.rule.specs.Layout.{book_length, view, signed, position_cell, lots_cell, tally_at, mark_cell, today_at, lots_size, row_cell}
use Rattle.rule.proofs.BookLaws.{SoundBook}
use Rattle.rule.proofs.DrawLaws.{EachOnce}
use Rattle.matching.specs.Plans.{rule_match}
use Rattle.matching.specs.declared.Match.{Match as Entry}
use Rattle.run_usable.specs.Stock.{inside_of, AllocableRowsGives}
use Rattle.run_usable.specs.declared.Stock.{Stock}
use Rattle.run_post.specs.declared.listing.Lists.{Lists}
use Rattle.layout.specs.InBook.{participants_in, issues_in}
use Rattle.run_order.specs.Orders.{Orders}
use Rattle.run_match.specs.Filled.{QuotesOf}
use Rattle.run_match.specs.declared.Basket.{Basket}

-- ---- the matches so far

-- of the baskets before k
unfoldable pub done_to : Day → List ℕ → ℕ → List Allocation
done_to y draw k = foldl (λ done k. done ++ basket y draw (used_table y.given done) k) [] (up_to k)

-- of basket k, the first j
unfoldable pub done_in : Day → List ℕ → ℕ → ℕ → List Allocation
done_in y draw k j = foldl (λ done m. done ++ (allocate y k (used_table y.given (done_to y draw k)) done m ∷ [])) [] (take j (basket_plan y draw k))

unfoldable pub done_at : Day → List ℕ → ℕ → ℕ → List Allocation
done_at y draw k j = done_to y draw k ++ done_in y draw k j

-- ---- the book so far

-- a place that no match changes
pub record Elsewhere (b : List ℕ) (j : ℕ) : Type 0 where
  pub positions : (k p : ℕ) → k < baskets → p < participants_in b → j ≢ position_cell k p
  pub marks : (k d r : ℕ) → k < baskets → d < participants_in b → r < participants_in b → j ≢ mark_cell today_at k d r
  pub tally : (p i : ℕ) → p < participants_in b → i < issues_in b → j ≢ lots_cell tally_at p i

-- lots delivered and received, those of the day so far and of the matches
abbrev pub out_of : List ℕ → List Allocation → ℕ → ℕ → ℕ
out_of b done p i = cell (view b).state.delivered p i + lots_from done p i

abbrev pub back_to : List ℕ → List Allocation → ℕ → ℕ → ℕ
back_to b done p i = cell (view b).state.received p i + lots_to done p i

-- the book b after the matches of done were booked is c
pub record BookedTo (b : List ℕ) (done : List Allocation) (c : List ℕ) : Type 0 where
  pub size : length c ≡ book_length
  pub positions : (k p : ℕ) → k < baskets → p < participants_in b
      → get_or c (position_cell k p) 0 ≡ signed (cell (view b).state.owed k p - covered_from done k p) (cell (view b).state.due k p - covered_to done k p)
  pub marks : (k d r : ℕ) → k < baskets → d < participants_in b → r < participants_in b
      → get_or c (mark_cell today_at k d r) 0 ≡ pick (ltb 0 (covered_pair done k d r)) 1 (mark (view b).state.today k d r)
  pub tally : (p i : ℕ) → p < participants_in b → i < issues_in b
      → get_or c (lots_cell tally_at p i) 0 ≡ signed (out_of b done p i - back_to b done p i) (back_to b done p i - out_of b done p i)
  pub kept : (j : ℕ) → Elsewhere b j → get_or c j 0 ≡ get_or b j 0

-- ---- all of it

-- what a run asks: a sound book, a run left, a right draw and lists that are long enough
pub record RunAsks (b draw matches lines : List ℕ) : Type 0 where
  pub book : SoundBook b
  pub runs : (view b).state.runs < 3
  pub once : EachOnce draw (participants_in b)
  pub match_places : match_size * most_matches ≤ length matches
  pub line_places : line_size * most_lines ≤ length lines

-- from book b₀ and lists m₀ and l₀, after the matches of done: the book, the lots used, and the lists with their counts
pub record Running (b₀ m₀ l₀ : List ℕ) (done : List Allocation) (b used' : List ℕ) (t : Lists) : Type 0 where
  pub booked : BookedTo b₀ done b
  pub places : length used' ≡ lots_size
  pub gone : (d i : ℕ) → d < participants_in b₀ → i < issues_in b₀ → get_or used' (row_cell d i) 0 ≡ used done d i
  pub match_size : length t.matches.now ≡ length m₀
  pub entries : t.matches.now ≡ over m₀ 0 (joined (match_list done))
  pub line_size : length t.lines.now ≡ length l₀
  pub rows : t.lines.now ≡ over l₀ 0 (joined (line_list done))
  pub match_count : t.counts.matches ≡ length done
  pub line_count : t.counts.lines ≡ length (line_list done)

-- and the deliverers' issues by notified lots
pub record Done (b₀ m₀ l₀ : List ℕ) (done : List Allocation) (b : List ℕ) (orders : List (ArrayVec ℕ)) (used' : List ℕ) (t : Lists) : Type 0 where
  pub running : Running b₀ m₀ l₀ done b used' t
  pub kept : Orders b₀ orders

-- ---- what a basket's step and its loop ask

-- the stock of a run, from the book as it was
pub record Stocked (b : List ℕ) (s : Stock) : Type 0 where
  pub quotes : QuotesOf b s
  pub lots : AllocableRowsGives b s.allocable.now

pub record Begun (b₀ draw m₀ l₀ : List ℕ) (k : ℕ) (b : List ℕ) (s : Stock) (orders : List (ArrayVec ℕ)) (used' : List ℕ) (t : Lists) : Type 0 where
  pub start : RunAsks b₀ draw m₀ l₀
  pub basket : k < baskets
  pub stocked : Stocked b₀ s
  pub running : Running b₀ m₀ l₀ (done_to (view b₀) draw k) b used' t
  pub kept : Orders b₀ orders

-- some book and lists from which the run began
pub record RunBasketAsks (k : ℕ) (b draw : List ℕ) (s : Stock) (orders : List (ArrayVec ℕ)) (used' : List ℕ) (t : Lists) : Type 0 where
  pub b₀ : List ℕ
  pub m₀ : List ℕ
  pub l₀ : List ℕ
  pub begun : Begun b₀ draw m₀ l₀ k b s orders used' t

-- the plan of the basket, its issues, and the lots used before it
pub record Planning (b₀ draw : List ℕ) (B : Basket) (made : List Entry) : Type 0 where
  pub planned : map rule_match made ≡ basket_plan (view b₀) draw B.number
  pub inside_is : B.inside.now ≡ table (issues_in b₀) (inside_of b₀ B.number)
  pub earlier : length B.before.now ≡ lots_size
  pub before_at : (d i : ℕ) → d < participants_in b₀ → i < issues_in b₀ → get_or B.before.now (row_cell d i) 0 ≡ used (done_to (view b₀) draw B.number) d i

pub record AllocateAsks (B : Basket) (b : List ℕ) (made : List Entry) (orders : List (ArrayVec ℕ)) (used' : List ℕ) (t : Lists) : Type 0 where
  pub b₀ : List ℕ
  pub draw : List ℕ
  pub m₀ : List ℕ
  pub l₀ : List ℕ
  pub begun : Begun b₀ draw m₀ l₀ B.number b B.stock orders used' t
  pub planning : Planning b₀ draw B made
