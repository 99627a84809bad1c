-- One match of a basket: what planning, filling and writing it ask and leave. Assumes nothing.
use Rattle.std.specs.Prelude.{◌≡◌, ◌≢◌, true, false, List, map, ℕ, ◌+◌, ◌*◌, ◌≤◌, ◌<◌, length, get_or, set}
use Rattle.lists.specs.Tables.{table, zeros}
use Rattle.lists.specs.Parts.{block, grid, over}
use Rattle.rule.specs.Day.{baskets}
use Rattle.rule.specs.Entries.{match_size, line_size}
use Rattle.rule.specs.Matching.{Match, plan}
use Rattle.matching.specs.declared.Match.{Match as Entry}
use Rattle.rule.specs.Filling.{worth, Filled, filled, forced_issue}
use Rattle.rule.specs.Layout.{most_participants, most_issues, lots_size, runs_at, pairs_at, notices_at, book_length, row_cell, lots_row, position_row, mark_square, plus, minus}
use Rattle.rule.proofs.DrawLaws.{EachOnce}
use Rattle.value.specs.Quotes.{Quotes}
use Rattle.layout.specs.InBook.{participants_in, issues_in, book_terms, book_marks}
use Rattle.run_order.specs.Sizes.{DaySized}
use Rattle.filling.specs.Rows.{NamesOnce}
use Rattle.filling.specs.declared.Filling.{Filling}
use Rattle.run_usable.specs.Stock.{usable_of}
use Rattle.run_usable.specs.declared.Stock.{Stock}
use Rattle.run_match.specs.declared.Basket.{Basket}
use Rattle.run_post.specs.declared.listing.Lists.{Lists}
use Rattle.run_post.specs.Listed.{entry_cells, lines_for, Listed, SameLists, LinesOnly}
use Rattle.run_post.specs.Booked.{MoveYenGives, LotsMoved}
use Rattle.rule.specs.Sound.{position_limit, notice_limit}

-- ---- the plan of a basket

-- basket k's positions
abbrev pub positions_in : List ℕ → ℕ → List ℕ
positions_in b k = block b (position_row k) (participants_in b)

unfoldable pub plan_in : List ℕ → List ℕ → ℕ → List Match
plan_in b draw k =
    plan (get_or b runs_at 0) (grid b (mark_square pairs_at k) most_participants (participants_in b) (participants_in b)) draw (map plus (positions_in b k)) (map minus (positions_in b k))

pub record PlanBasketAsks (b draw : List ℕ) (k : ℕ) : Type 0 where
  pub sized : DaySized b
  pub basket : k < baskets
  pub drawn : EachOnce draw (participants_in b)

-- and rows for the participants
pub record PlanRowsAsks (b draw : List ℕ) (k : ℕ) (owed due : List ℕ) : Type 0 where
  pub plannable : PlanBasketAsks b draw k
  pub owing : length owed ≡ participants_in b
  pub owned : length due ≡ participants_in b

-- ---- what may be used

-- what match m may use of issue i, where so many lots are used
abbrev pub match_may_use : Basket → List ℕ → ℕ → ℕ → ℕ
match_may_use B used d i = usable_of (get_or B.inside.now i false) (get_or B.stock.allocable.now (row_cell d i) 0) (get_or used (row_cell d i) 0)

abbrev pub match_usable : List ℕ → Basket → List ℕ → ℕ → List ℕ
match_usable b B used d = table (issues_in b) (match_may_use B used d)

-- the stock has the quote of each issue in the book
pub record QuotesOf (b : List ℕ) (s : Stock) : Type 0 where
  pub there : issues_in b ≤ length s.quotes.now
  pub quoted : Quotes (book_terms b) s.quotes.now

pub record UsableLotsAsks (b : List ℕ) (B : Basket) (m : Entry) (used : List ℕ) (places : ℕ) : Type 0 where
  pub sized : DaySized b
  pub deliverer : m.deliverer < most_participants
  pub quotes : QuotesOf b B.stock
  pub marked : issues_in b ≤ length B.inside.now
  pub stock : length B.stock.allocable.now ≡ lots_size
  pub gone : length used ≡ lots_size
  pub allocable_most : (i : ℕ) → i < issues_in b → get_or B.stock.allocable.now (row_cell m.deliverer i) 0 ≤ notice_limit
  pub enough : (i : ℕ) → i < issues_in b → get_or B.inside.now i false ≡ true
      → get_or used (row_cell m.deliverer i) 0 ≤ get_or B.stock.allocable.now (row_cell m.deliverer i) 0
  pub row : places ≡ issues_in b

-- what match m may use, and what all of it is worth
pub record UsableLotsGives (b : List ℕ) (B : Basket) (m : Entry) (used usable : List ℕ) (all : ℕ) : Type 0 where
  pub row : usable ≡ match_usable b B used m.deliverer
  pub most : (i : ℕ) → i < issues_in b → get_or usable i 0 ≤ notice_limit
  pub worth_is : all ≡ worth (book_terms b) usable

-- ---- filling

pub record FillNextAsks (b : List ℕ) (s : Stock) (m : Entry) (usable : List ℕ) (all : ℕ) (order lots : List ℕ) : Type 0 where
  pub sized : DaySized b
  pub deliverer : m.deliverer < most_participants
  pub amount : m.amount.0 ≤ position_limit
  pub quotes : QuotesOf b s
  pub wide : length usable ≡ issues_in b
  pub most : (i : ℕ) → i < issues_in b → get_or usable i 0 ≤ notice_limit
  pub worth_is : all ≡ worth (book_terms b) usable
  pub named : NamesOnce (issues_in b) order
  pub empty : lots ≡ zeros (issues_in b)

unfoldable pub filled_in : List ℕ → ℕ → Entry → List ℕ → List ℕ → Filled
filled_in b k m usable order =
    filled (get_or b runs_at 0) m.preferential (book_terms b) usable order
    (forced_issue k (book_terms b) (book_marks b) (block b (lots_row notices_at m.deliverer) (issues_in b))) m.amount.0

-- ---- writing

-- the match's lots with the forced ones
abbrev pub lots_with : Filling → List ℕ → List ℕ
lots_with f lots = set lots f.forced (get_or lots f.forced 0 + f.forced_lots.0)

-- a match's lots are to be written: two participants, room for the lines, and sums that 64 bits hold
pub record WriteLotsAsks (b used : List ℕ) (s : Lists) (m : Entry) (f : Filling) (lots : List ℕ) : Type 0 where
  pub book : length b ≡ book_length
  pub deliverer : m.deliverer < most_participants
  pub receiver : m.receiver < most_participants
  pub apart : m.deliverer ≢ m.receiver
  pub few : length lots ≤ most_issues
  pub gone : length used ≡ lots_size
  pub small : (i : ℕ) → i < length lots → get_or used (row_cell m.deliverer i) 0 + get_or (lots_with f lots) i 0 < 18446744073709551616
  pub forced : f.forced < length lots
  pub forced_small : get_or lots f.forced 0 + f.forced_lots.0 < 18446744073709551616
  pub room : line_size * (s.counts.lines + length (lines_for s.counts.matches (lots_with f lots))) ≤ length s.lines.now

-- a deliverer's lots are used, in its row
pub record UsedBy (entry exit : List ℕ) (d : ℕ) (lots : List ℕ) : Type 0 where
  pub size : length exit ≡ length entry
  pub more : (i : ℕ) → i < length lots → get_or exit (row_cell d i) 0 ≡ get_or entry (row_cell d i) 0 + get_or lots i 0
  pub kept : (j : ℕ) → ((i : ℕ) → i < length lots → j ≢ row_cell d i) → get_or exit j 0 ≡ get_or entry j 0

-- lots used, and these with the forced ones listed and booked
pub record WriteLotsGives (b used : List ℕ) (s : Lists) (m : Entry) (f : Filling) (lots b' used' : List ℕ) (t : Lists) : Type 0 where
  pub gone : UsedBy used used' m.deliverer lots
  pub listed : Listed s.lines.now t.lines.now s.counts.lines s.counts.matches (lots_with f lots) t.counts.lines
  pub moved : LotsMoved b b' m.deliverer m.receiver (lots_with f lots)
  pub only : LinesOnly s t

pub record WriteNextAsks (b : List ℕ) (k : ℕ) (m : Entry) (f : Filling) (lots used : List ℕ) (s : Lists) : Type 0 where
  pub basket : k < baskets
  pub match_room : match_size * (s.counts.matches + 1) ≤ length s.matches.now
  pub match_few : s.counts.matches + 1 < 18446744073709551616
  pub lots_asked : WriteLotsAsks b used s m f lots

-- match m is written: its lots used, listed and booked
pub record WriteNextGives (b : List ℕ) (k : ℕ) (m : Entry) (f : Filling) (lots used : List ℕ) (s : Lists) (b' used' : List ℕ) (t : Lists) : Type 0 where
  pub gone : UsedBy used used' m.deliverer lots
  pub entry : t.matches.now ≡ over s.matches.now (match_size * s.counts.matches) (entry_cells k m.deliverer m.receiver m.amount.0 f)
  pub matched : t.counts.matches ≡ s.counts.matches + 1
  pub listed : Listed s.lines.now t.lines.now s.counts.lines s.counts.matches (lots_with f lots) t.counts.lines
  pub same : SameLists s t
  pub between : List ℕ
  pub yen : MoveYenGives b between k m.deliverer m.receiver f.covered.0
  pub moved : LotsMoved between b' m.deliverer m.receiver (lots_with f lots)
