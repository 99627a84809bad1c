-- Document 01, "Quantities and the book": a day as tables, and what opening, trade and notice make of it. Assumes nothing.
use Rattle.std.specs.Prelude.{ℕ, ◌+◌, ◌-◌, ◌*◌, List, map, length, get_or, set}
use Rattle.lists.specs.Tables.{up_to, table, zeros, zero_rows, row, cell, put}
use Rattle.lists.specs.Folds.{foldl}
use Rattle.lists.specs.Parts.{grid}
use Rattle.rule.specs.Value.{Terms}
use Rattle.rule.specs.Allocable.{Marks}

-- what opening brings: sizes, codes, terms and marks, scheduled receipts by participant and issue, and yesterday's pair marks by basket,
-- deliverer and receiver
pub record Given : Type 0 where
  pub participants : ℕ
  pub issues : ℕ
  pub codes : List (List ℕ)
  pub terms : List Terms
  pub marks : List Marks
  pub receipts : List (List ℕ)
  pub pairs : List (List (List ℕ))

-- what the other calls change. A position is owed less due, by basket and participant: "Positive is owed to the clearing house, negative
-- is due from it". A tally is delivered less received, by participant and issue. Of each two numbers one is 0. Today's pairs are as
-- yesterday's
pub record State : Type 0 where
  pub runs : ℕ
  pub trades : ℕ
  pub owed : List (List ℕ)
  pub due : List (List ℕ)
  pub notices : List (List ℕ)
  pub today : List (List (List ℕ))
  pub delivered : List (List ℕ)
  pub received : List (List ℕ)

pub record Day : Type 0 where
  pub given : Given
  pub state : State

-- "Baskets A to G are 0 to 6"
abbrev pub baskets : ℕ
baskets = 7

-- a pair's mark
abbrev pub mark : List (List (List ℕ)) → ℕ → ℕ → ℕ → ℕ
mark t k d r = cell (row t k) d r

-- ---- opening

-- "sizes first (participants, issues), then two parallel arrays, codes and terms .. Then come scheduled receipts .. and pair marks": a code
-- is 12 bytes, terms are six numbers, the marks last
abbrev pub code_size : ℕ
code_size = 12

abbrev pub term_size : ℕ
term_size = 6

abbrev pub kind_at : ℕ
kind_at = 0

abbrev pub price_at : ℕ
price_at = 1

abbrev pub coupon_at : ℕ
coupon_at = 2

abbrev pub days_at : ℕ
days_at = 3

abbrev pub redeemed_at : ℕ
redeemed_at = 4

abbrev pub interest_at : ℕ
interest_at = 5

abbrev pub terms_of : List ℕ → Terms
terms_of l = record { kind = get_or l kind_at 0; price = get_or l price_at 0; coupon = get_or l coupon_at 0; days = get_or l days_at 0 }

abbrev pub marks_of : List ℕ → Marks
marks_of l = record { redeemed = get_or l redeemed_at 0; interest = get_or l interest_at 0 }

unfoldable pub given_of : ℕ → ℕ → List ℕ → List ℕ → List ℕ → List ℕ → Given
given_of n m codes terms receipts pairs = record {
  participants = n;
  issues = m;
  codes = grid codes 0 code_size m code_size;
  terms = map terms_of (grid terms 0 term_size m term_size);
  marks = map marks_of (grid terms 0 term_size m term_size);
  receipts = grid receipts 0 m n m;
  pairs = table baskets (λ k. grid pairs (n * n * k) n n n);
}

-- "Opening sets all but its own data to 0"
unfoldable pub opened : Given → Day
opened g =
    let n : ℕ = g.participants in
    let m : ℕ = g.issues in
    record {
      given = g;
      state = record {
        runs = 0;
        trades = 0;
        owed = zero_rows baskets n;
        due = zero_rows baskets n;
        notices = zero_rows n m;
        today = table baskets (λ k. zero_rows n n);
        delivered = zero_rows n m;
        received = zero_rows n m;
      };
    }

-- ---- trade

-- position (k, p) becomes a less b
abbrev pub with_position : State → ℕ → ℕ → ℕ → ℕ → State
with_position s k p a b = record s { owed = put s.owed k p (a - b); due = put s.due k p (b - a) }

-- "A trade adds its yen to the seller's position in a basket and takes them from the buyer's"
unfoldable pub traded : Day → ℕ → ℕ → ℕ → ℕ → Day
traded y seller buyer k yen =
    let s : State = y.state in
    let sold : State = with_position s k seller (cell s.owed k seller + yen) (cell s.due k seller) in
    let bought : State = with_position sold k buyer (cell sold.owed k buyer) (cell sold.due k buyer + yen) in
    record y { state = record bought { trades = s.trades + 1 } }

-- ---- notice

-- m cells: each entry's lots at its issue, "unnamed issues counting 0"
unfoldable pub notice_row : ℕ → List ℕ → List ℕ → List ℕ
notice_row m issues lots = foldl (λ r j. set r (get_or issues j 0) (get_or lots j 0)) (zeros m) (up_to (length issues))

-- "A notice replaces its sender's earlier one for the coming run"
unfoldable pub noticed : Day → ℕ → List ℕ → List ℕ → Day
noticed y p issues lots =
    record y { state = record y.state { notices = set y.state.notices p (notice_row y.given.issues issues lots) } }
