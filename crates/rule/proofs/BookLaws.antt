-- What a sound book shows to a call that has asked. Assumes nothing.
use mathlib.Core.Path.{◌≡◌, sym, ap, ◌∙◌}
use Prim.Native.Nat.{ℕ, ◌<◌}
use native.Mathlib.Omega.{arith}
use mathlib.Core.Bool.{true}
use mathlib.Core.List.{List}
use lib.ListN.{length, get_or}
use lib.Seq.{ext_get_or}
use lib.Dec.{eqb}
use borrow.Author.Tests.{eqb-true}
use Rattle.lists.specs.Tables.{table, row, cell}
use Rattle.lists.specs.Parts.{grid}
use Rattle.lists.proofs.TestLaws.{and_left, and_right}
use Rattle.lists.proofs.TableLaws.{length-table, get_or-table}
use Rattle.lists.proofs.PartLaws.{Shape, grid-get, grid-shape}
use Rattle.rule.specs.Day.{baskets}
use Rattle.rule.specs.Sound.{sound}
use Rattle.rule.specs.Layout.{issues_at, participants_at, positions_at, book_length, plus, minus, view, book_fits, sound_book, most_participants, position_cell}
use Rattle.rule.proofs.SoundLaws.{Sizes, sizes-of, SoundDay, sound-facts}
use Rattle.rule.proofs.LayoutLaws.{Readable, map-cell, view-shaped}

pub record SoundBook (b : List ℕ) : Type 0 where
  pub readable : Readable b
  pub day : SoundDay (view b)
  pub sizes : Sizes (get_or b participants_at 0) (get_or b issues_at 0)

sizes-in : (b : List ℕ) → SoundDay (view b) → Sizes (get_or b participants_at 0) (get_or b issues_at 0)
unfolding view
sizes-in b d = sizes-of (get_or b participants_at 0) (get_or b issues_at 0) d.given.sizes

pub sound-book : (b : List ℕ) → ((j : ℕ) → get_or b j 0 < 18446744073709551616) → sound_book b ≡ true → SoundBook b
unfolding sound_book book_fits
sound-book b words h =
    let d : SoundDay (view b) = sound-facts (view b) (and_right (eqb (length b) book_length) (sound (view b)) h) in
    let z : Sizes (get_or b participants_at 0) (get_or b issues_at 0) = sizes-in b d in
    record {
      readable = record { size = eqb-true (length b) book_length (and_left (eqb (length b) book_length) (sound (view b)) h); few = z.few; most = z.most; words = words };
      day = d;
      sizes = z;
    }

-- a list by its cells
table_of : (l : List ℕ) (n : ℕ) (f : ℕ → ℕ) → length l ≡ n → ((i : ℕ) → i < n → get_or l i 0 ≡ f i) → l ≡ table n f
table_of l n f e h =
    ext_get_or 0 l (table n f) (e ∙ sym (length-table n f)) (λ i k. h i (omega arith) ∙ sym (get_or-table n f i 0 (omega arith)))

module _ (b : List ℕ) (r : Readable b) where
  abbrev n : ℕ
  n = get_or b participants_at 0

  abbrev positions : List (List ℕ)
  positions = grid b positions_at most_participants baskets n

  positions-shape : Shape positions baskets n
  positions-shape = grid-shape b positions_at most_participants baskets n r.few (omega (arith, r.size))

  -- a position in the book
  pub view-owed : (k p : ℕ) → k < baskets → p < n → cell (view b).state.owed k p ≡ plus (get_or b (position_cell k p) 0)
  unfolding view
  view-owed k p l h =
      map-cell plus positions baskets n k p positions-shape l h
      ∙ ap plus (grid-get b positions_at most_participants baskets n k p l h)

  pub view-due : (k p : ℕ) → k < baskets → p < n → cell (view b).state.due k p ≡ minus (get_or b (position_cell k p) 0)
  unfolding view
  view-due k p l h =
      map-cell minus positions baskets n k p positions-shape l h
      ∙ ap minus (grid-get b positions_at most_participants baskets n k p l h)

  -- a basket's positions, at their places
  module _ (k : ℕ) (l : k < baskets) where
    row-size : length (row (view b).state.owed k) ≡ n
    unfolding view
    row-size = (view-shaped b r).owed.cells k l

    due_size : length (row (view b).state.due k) ≡ n
    unfolding view
    due_size = (view-shaped b r).due.cells k l

    pub row-owed : row (view b).state.owed k ≡ table n (λ p. plus (get_or b (position_cell k p) 0))
    row-owed =
        table_of (row (view b).state.owed k) n (λ p. plus (get_or b (position_cell k p) 0)) row-size (λ p h. view-owed k p l h)

    pub row-due : row (view b).state.due k ≡ table n (λ p. minus (get_or b (position_cell k p) 0))
    row-due =
        table_of (row (view b).state.due k) n (λ p. minus (get_or b (position_cell k p) 0)) due_size (λ p h. view-due k p l h)
