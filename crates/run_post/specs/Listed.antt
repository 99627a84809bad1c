-- The two lists of a run: what writing one match and its lines asks and leaves. Assumes nothing.
use Rattle.std.specs.Prelude.{◌≡◌, ℕ, ◌+◌, ◌*◌, ◌<◌, ◌≤◌, List, map, length, nat_lt, slice_index}
use Rattle.lists.specs.Tables.{up_to}
use Rattle.lists.specs.Folds.{keep, joined}
use Rattle.lists.specs.Parts.{over}
use Rattle.rule.specs.Entries.{match_size, match_row, line_size, line_row}
use Rattle.filling.specs.declared.Filling.{Filling}
use Rattle.matching.specs.declared.Match.{Match}
use Rattle.run_post.specs.declared.listing.Lists.{Lists}

-- the cells of a match
abbrev pub entry_cells : ℕ → ℕ → ℕ → ℕ → Filling → List ℕ
entry_cells k d r amount f = match_row (record {
  basket = k;
  deliverer = d;
  receiver = r;
  matched = amount;
  covered = f.covered.0;
  forced = f.forced;
  forced_lots = f.forced_lots.0;
})

-- the lines of match `number`, of which the lots are given by issue
abbrev pub line_for : ℕ → List ℕ → ℕ → List ℕ
line_for number lots i = line_row (record { match = number; issue = i; lots = slice_index lots i })

-- those of the first n issues
unfoldable pub lines_to : ℕ → List ℕ → ℕ → List (List ℕ)
lines_to number lots n = map (line_for number lots) (keep (λ i. nat_lt 0 (slice_index lots i)) (up_to n))

unfoldable pub lines_for : ℕ → List ℕ → List (List ℕ)
lines_for number lots = lines_to number lots (length lots)

-- there is room for match `number`
pub record AddMatchAsks (matches : List ℕ) (number : ℕ) : Type 0 where
  pub places : match_size * (number + 1) ≤ length matches
  pub small : number < 18446744073709551616

-- for line `line`
pub record AddLineAsks (lines : List ℕ) (line : ℕ) : Type 0 where
  pub places : line_size * (line + 1) ≤ length lines

-- the slices that were lent are the same ones
pub record SameLists (s t : Lists) : Type 0 where
  pub matches : t.matches.ghost_name ≡ s.matches.ghost_name
  pub lines : t.lines.ghost_name ≡ s.lines.ghost_name
  pub match_places : length t.matches.now ≡ length s.matches.now
  pub line_places : length t.lines.now ≡ length s.lines.now

-- a match was written
pub record AddMatchGives (s t : Lists) (k : ℕ) (m : Match) (f : Filling) : Type 0 where
  pub entry : t.matches.now ≡ over s.matches.now (match_size * s.counts.matches) (entry_cells k m.deliverer m.receiver m.amount.0 f)
  pub matched : t.counts.matches ≡ s.counts.matches + 1
  pub lines : t.lines.now ≡ s.lines.now
  pub line_count : t.counts.lines ≡ s.counts.lines
  pub same : SameLists s t

-- only lines were written
pub record LinesOnly (s t : Lists) : Type 0 where
  pub matches : t.matches.now ≡ s.matches.now
  pub match_count : t.counts.matches ≡ s.counts.matches
  pub same : SameLists s t

-- a line of the next match was written
pub record AddLineGives (s t : Lists) (issue lots : ℕ) : Type 0 where
  pub cells : t.lines.now ≡ over s.lines.now (line_size * s.counts.lines) (line_row (record { match = s.counts.matches; issue = issue; lots = lots }))
  pub counted : t.counts.lines ≡ s.counts.lines + 1
  pub only : LinesOnly s t

-- a line was written, if the issue has lots; then there are `count`
pub record Lined (entry exit : List ℕ) (line number issue lots count : ℕ) : Type 0 where
  pub some : 0 < lots → (exit ≡ over entry (line_size * line) (line_row (record { match = number; issue = issue; lots = lots }))) × (count ≡ line + 1)
  pub none : lots ≤ 0 → (exit ≡ entry) × (count ≡ line)

-- for the lines of a match, of which the first is line `first`
pub record LinesRoom (lines : List ℕ) (first number : ℕ) (lots : List ℕ) : Type 0 where
  pub places : line_size * (first + length (lines_for number lots)) ≤ length lines

-- the lines were written from line `first` on; then there are `count`
pub record Listed (entry exit : List ℕ) (first number : ℕ) (lots : List ℕ) (count : ℕ) : Type 0 where
  pub cells : exit ≡ over entry (line_size * first) (joined (lines_for number lots))
  pub counted : count ≡ first + length (lines_for number lots)
