-- What a whole run asks and leaves. Assumes nothing.
use Rattle.std.specs.Prelude.{◌≡◌, ◌≢◌, List, ℕ, ◌<◌, length, get_or}
use Rattle.lists.specs.Folds.{joined}
use Rattle.lists.specs.Parts.{over}
use Rattle.rule.specs.Run.{allocations, ran, match_list, line_list}
use Rattle.rule.specs.Layout.{notices_at, lots_cell, view, stored}
use Rattle.run_post.specs.declared.listing.Lists.{Lists}
use Rattle.layout.specs.InBook.{participants_in, issues_in}
use Rattle.run_usable.specs.declared.Stock.{Stock}
use Rattle.run_basket.specs.Running.{RunAsks, Running, Stocked}

-- the seven baskets: a run may begin, its stock is there, and nothing is listed
pub record RunBasketsAsks (b draw : List ℕ) (s : Stock) (t : Lists) : Type 0 where
  pub start : RunAsks b draw t.matches.now t.lines.now
  pub no_match : t.counts.matches ≡ 0
  pub no_line : t.counts.lines ≡ 0
  pub stocked : Stocked b s

-- all matches of the run are filled, listed and booked
pub record RunBasketsGives (b draw m₀ l₀ b' : List ℕ) (t : Lists) : Type 0 where
  pub used : List ℕ
  pub running : Running b m₀ l₀ (allocations (view b) draw) b' used t

-- the notices of the day's participants and issues are 0, all else is as before
pub record ClearNoticesGives (b c : List ℕ) : Type 0 where
  pub size : length c ≡ length b
  pub none : (p i : ℕ) → p < participants_in b → i < issues_in b → get_or c (lots_cell notices_at p i) 0 ≡ 0
  pub kept : (j : ℕ) → ((p i : ℕ) → p < participants_in b → i < issues_in b → j ≢ lots_cell notices_at p i) → get_or c j 0 ≡ get_or b j 0

-- the book, the lists and the counts are the definition's
pub record RunGives (b draw m₀ l₀ : List ℕ) (b' matches lines : List ℕ) (m l : ℕ) : Type 0 where
  pub book : b' ≡ stored b (ran (view b) (allocations (view b) draw))
  pub entries : matches ≡ over m₀ 0 (joined (match_list (allocations (view b) draw)))
  pub rows : lines ≡ over l₀ 0 (joined (line_list (allocations (view b) draw)))
  pub match_count : m ≡ length (allocations (view b) draw)
  pub line_count : l ≡ length (line_list (allocations (view b) draw))
