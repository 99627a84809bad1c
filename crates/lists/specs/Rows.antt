-- What a loop over one row of cells leaves, and what rows that are copied ask. Assumes nothing.
use Rattle.std.specs.Prelude.{◌≡◌, List, ℕ, ◌*◌, ◌≤◌, ◌<◌, length, get_or}

-- P holds of each cell of the row, by its place
pub record Becomes (P : ℕ → ℕ → Type 0) (entry exit : List ℕ) : Type 0 where
  pub size : length exit ≡ length entry
  pub cells : (i : ℕ) → i < length entry → P i (get_or exit i 0)

-- n rows of m cells, so far apart
pub record Spaced (cells : List ℕ) (apart n m : ℕ) : Type 0 where
  pub wide : m ≤ apart
  pub room : apart * n ≤ length cells
