-- Document 01, "a whole list of calls": calls one after the other on a book, with their replies and what their runs handed out. Assumes nothing.
use Rattle.std.specs.Prelude.{ℕ, List, [], ◌∷◌, ◌++◌, map}
use Rattle.lists.specs.Folds.{foldl}
use Rattle.lists.specs.Parts.{grid}
use Rattle.rule.specs.Entries.{MatchEntry, LineEntry, match_size, line_size, match_of, line_of}
use Rattle.rule.specs.Calls.{Reply, accepted, counts, refused}
use Rattle.rule.specs.Layout.{trade_of, notice_of, run_of, close_of}

-- ---- the lists that a run hands out

-- "the entries within the counts that accepted calls returned, as written then"; no other reply has entries
unfoldable pub matches_of : Reply → List ℕ → List MatchEntry
matches_of accepted matches = []
matches_of (counts m l) matches = map match_of (grid matches 0 match_size m match_size)
matches_of (refused e) matches = []

unfoldable pub lines_of : Reply → List ℕ → List LineEntry
lines_of accepted lines = []
lines_of (counts m l) lines = map line_of (grid lines 0 line_size l line_size)
lines_of (refused e) lines = []

-- ---- a history: calls one after the other, each on the book as the last one left it

pub data Call : Type 0 where
  -- seller, buyer, basket, yen
  trade : ℕ → ℕ → ℕ → ℕ → Call
  -- participant, issues, lots
  notice : ℕ → List ℕ → List ℕ → Call
  -- the draw, and the lists lent for matches and lines
  run : List ℕ → List ℕ → List ℕ → Call
  -- the lists lent for tomorrow's scheduled receipts and pairs
  close : List ℕ → List ℕ → Call

-- a call with its reply, and the two lists as a run left them
pub record Event : Type 0 where
  pub call : Call
  pub reply : Reply
  pub matches : List MatchEntry
  pub lines : List LineEntry

pub record History : Type 0 where
  pub events : List Event
  pub book : List ℕ

-- a call is made: what it answers, and the book and the lists, are those of the contracts
unfoldable pub next : History → Call → History
next h (trade seller buyer k yen) =
    let r : Reply × List ℕ = trade_of h.book seller buyer k yen in
    record { events = h.events ++ (record { call = trade seller buyer k yen; reply = r.0; matches = []; lines = [] } ∷ []); book = r.1 }
next h (notice p issues lots) =
    let r : Reply × List ℕ = notice_of h.book p issues lots in
    record { events = h.events ++ (record { call = notice p issues lots; reply = r.0; matches = []; lines = [] } ∷ []); book = r.1 }
next h (run draw matches lines) =
    let r : Reply × (List ℕ × List ℕ × List ℕ) = run_of h.book draw matches lines in
    record {
      events = h.events
          ++ (record { call = run draw matches lines; reply = r.0; matches = matches_of r.0 r.1.1; lines = lines_of r.0 r.1.2 } ∷ []);
      book = r.1.0;
    }
-- "The book stays"
next h (close receipts pairs) = record {
  events = h.events ++ (record { call = close receipts pairs; reply = (close_of h.book receipts pairs).0; matches = []; lines = [] } ∷ []);
  book = h.book;
}

unfoldable pub history : List ℕ → List Call → History
history b calls = foldl next (record { events = []; book = b }) calls
