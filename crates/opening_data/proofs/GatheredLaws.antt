-- What a line gathers, said of the numbers that its words are.
use Rattle.std.specs.Prelude.{◌≡◌, ◌+◌, ◌*◌, ℕ, slice_set}
use Rattle.opening_data.specs.Gathered.{empty}
use Rattle.opening_data.specs.declared.OpeningData.{OpeningData}

pub emptied : (new : OpeningData) (p q i j : ℕ) → new ≡ empty p i → q ≡ p → j ≡ i → new ≡ empty q j
emptied new p q i j is is-p is-i = search

-- the lots of a receipt at its place
pub receipt-placed : (old : OpeningData) (place : ℕ) {p q i j l k : ℕ} →
    place ≡ p * old.issues + i → q ≡ p → j ≡ i → k ≡ l →
    record old { receipts = slice_set old.receipts place l } ≡ record old { receipts = slice_set old.receipts (q * old.issues + j) k }
receipt-placed old place at is-p is-i is-l = search

-- the mark of a pair at its place
pub pair-placed : (old : OpeningData) (place : ℕ) {k b d e r s : ℕ} →
    place ≡ (b * old.participants + d) * old.participants + r → k ≡ b → e ≡ d → s ≡ r →
    record old { pairs = slice_set old.pairs place 1 } ≡ record old { pairs = slice_set old.pairs ((k * old.participants + e) * old.participants + s) 1 }
pair-placed old place at is-b is-d is-r = search
