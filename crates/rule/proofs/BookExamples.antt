-- Examples of the calls on a book. By computation. Assumes nothing.
use mathlib.Core.Path.{◌≡◌, refl}
use Prim.Native.Nat.{ℕ, ◌+◌, ◌-◌}
use mathlib.Core.List.{List, [], ◌∷◌, ◌++◌}
use lib.ListN.{take, drop}
use Rattle.lists.specs.Tables.{zeros, table}
use Rattle.lists.specs.Parts.{written}
use Rattle.rule.specs.Calls.{Reply, accepted, counts, refused}
use Rattle.rule.specs.Layout.{codes_at, terms_at, receipts_at, notices_at, today_at, tally_at, book_length, open_of, trade_of, notice_of, run_of, close_of, mark_square, position_row}
use Rattle.rule.proofs.ExampleDays.{on_book, codes, issue}
use Rattle.rule.proofs.WholeRule.{book_rule}

-- a book of two participants and one issue after some runs, with rows at their places
unfoldable book : ℕ → List (ℕ × List ℕ) → List ℕ
book runs rows = written (zeros book_length) ((0, 2 ∷ 1 ∷ runs ∷ 0 ∷ []) ∷ (codes_at, codes 1) ∷ (terms_at, issue 2 0 0) ∷ rows)

-- a number less than 0 as its cell
abbrev below : ℕ → ℕ
below n = 18446744073709551616 - n

abbrev nines : ℕ → List ℕ
nines n = table n (λ i. 9)

-- after three runs participant 0 has delivered 2 lots to participant 1 in basket C. What stands in the place of a third participant is not read
unfoldable closed : Reply × (List ℕ × List ℕ)
closed = on_book (book 3 ((tally_at, 2 ∷ []) ∷ (tally_at + 32, below 2 ∷ []) ∷ (mark_square today_at 2 + 1, 1 ∷ []) ∷ (tally_at + 64, 9 ∷ []) ∷ [])) (λ b. close_of b (nines 3) (nines 30))

-- participant 0 has a lot scheduled and notified, and owes its value to participant 1 in basket C
unfoldable ran : Reply × (List ℕ × List ℕ)
ran =
    on_book (book 0 ((receipts_at, 1 ∷ []) ∷ (notices_at, 1 ∷ []) ∷ (position_row 2, 50000 ∷ below 50000 ∷ []) ∷ [])) (λ b.
    let r : Reply × (List ℕ × List ℕ × List ℕ) = run_of b (0 ∷ 1 ∷ []) (nines 540) (nines 7392) in
    (r.0, (take 8 r.1.1, take 4 r.1.2)))

-- a book of nines after an opening: the last code's place, and the last cells
unfoldable reopened : List ℕ × List ℕ
reopened =
    let r : Reply × List ℕ = open_of 2 1 (codes 1) (issue 2 0 0) (zeros 2) (zeros 28) (nines book_length) in
    on_book r.1 (λ b. (take 2 (drop (terms_at - 12) b), drop (book_length - 2) b))

record Books : Type 0 where
  -- "A refusal returns its number alone; book and lists stay". "unsound book" comes first: a book of one cell, and calls with other faults
  opening : open_of 1 1 [] [] [] [] (7 ∷ []) ≡ (refused 1, 7 ∷ [])
  trade : trade_of (7 ∷ []) 0 0 9 0 ≡ (refused 5, 7 ∷ [])
  notice : notice_of (7 ∷ []) 9 [] [] ≡ (refused 5, 7 ∷ [])
  run : run_of (7 ∷ []) [] (8 ∷ []) (9 ∷ []) ≡ (refused 5, (7 ∷ [], 8 ∷ [], 9 ∷ []))
  close : close_of (7 ∷ []) (8 ∷ []) (9 ∷ []) ≡ (refused 5, (8 ∷ [], 9 ∷ []))
  -- "Opening sets all but its own data to 0, places beyond the day's sizes too"
  beyond_zero : reopened ≡ (0 ∷ 0 ∷ [], 0 ∷ 0 ∷ [])
  -- "Entries past the counts stay"
  past_counts : ran ≡ (counts 1 1, (2 ∷ 0 ∷ 1 ∷ 50000 ∷ 50000 ∷ 0 ∷ 0 ∷ 9 ∷ [], 0 ∷ 0 ∷ 1 ∷ 9 ∷ []))
  -- "the tally where positive, else 0", and "covered above 0 today"; the rest of longer lists stays
  tomorrow : closed ≡ (accepted, (2 ∷ 0 ∷ 9 ∷ [], zeros 9 ++ (1 ∷ (zeros 18 ++ (9 ∷ 9 ∷ [])))))

books : Books
unfolding book_rule book closed ran reopened
books = record {
  opening = refl;
  trade = refl;
  notice = refl;
  run = refl;
  close = refl;
  beyond_zero = refl;
  past_counts = refl;
  tomorrow = refl;
}
