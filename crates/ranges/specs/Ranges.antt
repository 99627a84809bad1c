-- The ranges of opening data as tests on cells, and what their slices need. Assumes nothing.
use Rattle.std.specs.Prelude.{◌≡◌, ℕ, ◌+◌, ◌*◌, ◌≤◌, Bool, ◌&&◌, List, map, length, nat_eq, slice_index}
use Rattle.lists.specs.Tests.{all_below}
use Rattle.lists.specs.Parts.{grid}
use Rattle.rule.specs.Day.{terms_of, marks_of}
use Rattle.rule.specs.Sound.{at_most, terms_fit, marks_fit, all_terms_fit}

-- an issue's six cells have its terms and marks in their ranges
abbrev pub issue_fits : List ℕ → Bool
issue_fits issue = terms_fit (terms_of issue) && marks_fit (marks_of issue)

-- the terms and marks of m issues, a row for each
abbrev pub terms_in_range : ℕ → List (List ℕ) → Bool
terms_in_range m rows = all_terms_fit m (map terms_of rows) (map marks_of rows)

-- n rows of n cells, a stride apart
pub record SquareOf (marks : List ℕ) (stride n : ℕ) : Type 0 where
  pub wide : n ≤ stride
  pub size : length marks ≡ stride * n

-- at the front of some cells
pub record SquareFitsAsks (square : List ℕ) (stride n : ℕ) : Type 0 where
  pub wide : n ≤ stride
  pub room : stride * n ≤ length square

-- for each of the seven baskets
pub record PairsFitAsks (marks : List ℕ) (apart stride n : ℕ) : Type 0 where
  pub wide : n ≤ stride
  pub square : stride * n ≤ apart
  pub room : apart * 7 ≤ length marks

-- every cell passes a test
abbrev pub all_pass : (ℕ → Bool) → List ℕ → Bool
all_pass test b = all_below (length b) (λ i. test (slice_index b i))

-- m cells from a place on pass a test
abbrev pub row_passes : (ℕ → Bool) → List ℕ → ℕ → ℕ → Bool
row_passes test b at m = all_below m (λ i. test (slice_index b (at + i)))

-- a basket's pair marks: none of a participant with itself, and each 0 or 1
abbrev pub none_on_oneself : List ℕ → ℕ → ℕ → ℕ → Bool
none_on_oneself b at stride n = all_below n (λ p. nat_eq (slice_index b (at + stride * p + p)) 0)

abbrev pub square_fits : List ℕ → ℕ → ℕ → ℕ → Bool
square_fits b at stride n = at_most 1 n n (grid b at stride n n) && none_on_oneself b at stride n
