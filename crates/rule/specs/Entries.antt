-- Document 01, the entries of a run's two lists: the numbers of each, and their fields. Assumes nothing.
use Rattle.std.specs.Prelude.{ℕ, List, [], ◌∷◌, get_or}

-- "A match is basket, deliverer, receiver, matched yen, covered yen, forced issue, forced lots (both 0 if none)"
pub record MatchEntry : Type 0 where
  pub basket : ℕ
  pub deliverer : ℕ
  pub receiver : ℕ
  pub matched : ℕ
  pub covered : ℕ
  pub forced : ℕ
  pub forced_lots : ℕ

abbrev pub match_size : ℕ
match_size = 7

abbrev pub match_row : MatchEntry → List ℕ
match_row m = m.basket ∷ m.deliverer ∷ m.receiver ∷ m.matched ∷ m.covered ∷ m.forced ∷ m.forced_lots ∷ []

abbrev pub match_of : List ℕ → MatchEntry
match_of l = record {
  basket = get_or l 0 0;
  deliverer = get_or l 1 0;
  receiver = get_or l 2 0;
  matched = get_or l 3 0;
  covered = get_or l 4 0;
  forced = get_or l 5 0;
  forced_lots = get_or l 6 0;
}

-- "A line is match number (from 0 in this run), issue, lots with forced ones"
pub record LineEntry : Type 0 where
  pub match : ℕ
  pub issue : ℕ
  pub lots : ℕ

abbrev pub line_size : ℕ
line_size = 3

abbrev pub line_row : LineEntry → List ℕ
line_row l = l.match ∷ l.issue ∷ l.lots ∷ []

abbrev pub line_of : List ℕ → LineEntry
line_of l = record { match = get_or l 0 0; issue = get_or l 1 0; lots = get_or l 2 0 }
