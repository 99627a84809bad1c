-- The issues of a filled match: what booking, using and listing their lots asks and leaves. Assumes nothing.
use Rattle.std.specs.Prelude.{◌≡◌, ℕ, ◌+◌, ◌<◌, ◌≤◌, ◌≢◌, List, length, slice_index, slice_index_or}
use Rattle.matching.specs.declared.Match.{Match}
use Rattle.run_post.specs.declared.listing.Lists.{Lists}
use Rattle.run_post.specs.Booked.{MoveLotsAsks, MoveLotsGives, LotsMoved}
use Rattle.run_post.specs.Listed.{AddLineAsks, Lined, LinesRoom, Listed, LinesOnly}
use Rattle.rule.specs.Layout.{most_participants, most_issues, book_length}

-- ---- lots used, in a deliverer's row

pub record IssueUsed (entry exit : List ℕ) (i lots : ℕ) : Type 0 where
  pub size : length exit ≡ length entry
  pub more : slice_index_or exit i 0 ≡ slice_index entry i + lots
  pub kept : (j : ℕ) → j ≢ i → slice_index exit j ≡ slice_index entry j

-- the first n issues'
pub record UsedTo (n : ℕ) (entry exit lots : List ℕ) : Type 0 where
  pub size : length exit ≡ length entry
  pub more : (i : ℕ) → i < n → slice_index exit i ≡ slice_index entry i + slice_index lots i
  pub kept : (j : ℕ) → n ≤ j → slice_index exit j ≡ slice_index entry j

abbrev pub Used : List ℕ → List ℕ → List ℕ → Type 0
Used entry exit lots = UsedTo (length lots) entry exit lots

-- ---- one issue

pub record WriteIssueAsks (b used : List ℕ) (s : Lists) (m : Match) (i lots : ℕ) : Type 0 where
  pub bookable : MoveLotsAsks b m.deliverer m.receiver i
  pub place : i < length used
  pub small : slice_index_or used i 0 + lots < 18446744073709551616
  pub room : 0 < lots → AddLineAsks s.lines.now s.counts.lines

pub record WriteIssueGives (b used : List ℕ) (s : Lists) (m : Match) (i lots : ℕ) (b' used' : List ℕ) (t : Lists) : Type 0 where
  pub moved : MoveLotsGives b b' m.deliverer m.receiver i lots
  pub gone : IssueUsed used used' i lots
  pub listed : Lined s.lines.now t.lines.now s.counts.lines s.counts.matches i lots t.counts.lines
  pub only : LinesOnly s t

-- ---- all issues

pub record WriteIssuesAsks (b used : List ℕ) (s : Lists) (m : Match) (lots : List ℕ) : Type 0 where
  pub cells : length b ≡ book_length
  pub deliverer : m.deliverer < most_participants
  pub receiver : m.receiver < most_participants
  pub apart : m.deliverer ≢ m.receiver
  pub few : length lots ≤ most_issues
  pub places : length lots ≤ length used
  pub small : (i : ℕ) → i < length lots → slice_index used i + slice_index lots i < 18446744073709551616
  pub room : LinesRoom s.lines.now s.counts.lines s.counts.matches lots

pub record WriteIssuesGives (b used : List ℕ) (s : Lists) (m : Match) (lots b' used' : List ℕ) (t : Lists) : Type 0 where
  pub moved : LotsMoved b b' m.deliverer m.receiver lots
  pub gone : Used used used' lots
  pub listed : Listed s.lines.now t.lines.now s.counts.lines s.counts.matches lots t.counts.lines
  pub only : LinesOnly s t
