-- The order of a deliverer's issues: what asking for it takes, and what it leaves. Assumes nothing.
use Rattle.std.specs.Prelude.{◌≡◌, ◌⊎◌, Bool, List, [], Option, Some, ℕ, ◌≤◌, ◌<◌, length, get_or}
use Rattle.arrayvec.specs.ArrayVec.{ArrayVec}
use Rattle.lists.specs.Order.{ranked}
use Rattle.rule.specs.Layout.{most_participants, most_issues, lots_size, runs_at, notices_at, lots_cell, row_cell}
use Rattle.matching.specs.declared.Match.{Match}
use Rattle.issue_order.specs.Ordered.{Ordered, order_key}
use Rattle.filling.specs.Rows.{NamesOnce}
use Rattle.filling.specs.Match.{Idle}
use Rattle.layout.specs.InBook.{issues_in}
use Rattle.run_order.specs.Sizes.{DaySized}
use Rattle.rule.specs.Sound.{position_limit, notice_limit}

-- the match before m is of the same deliverer and sort
pub record Same (last : Option Match) (m : Match) : Type 0 where
  pub before : Match
  pub there : last ≡ Some before
  pub deliverer : before.deliverer ≡ m.deliverer
  pub sort : before.preferential ≡ m.preferential

-- participant d's notified lots of issue i
abbrev pub notified_in : List ℕ → ℕ → ℕ → ℕ
notified_in b d i = get_or b (lots_cell notices_at d i) 0

-- participant d's ranking
abbrev pub ranking_in : List (ArrayVec ℕ) → ℕ → List ℕ
ranking_in orders d = (get_or orders d (record { items = [] })).items

-- it has the participant's issues, larger notified lots first
abbrev pub RankedAt : List ℕ → ℕ → List (ArrayVec ℕ) → Type 0
RankedAt b d orders = ranking_in orders d ≡ ranked (notified_in b d) (issues_in b)

-- each participant's ranking is so, unless it is empty
pub record Orders (b : List ℕ) (orders : List (ArrayVec ℕ)) : Type 0 where
  pub places : length orders ≡ most_participants
  pub each : (d : ℕ) → d < most_participants → 0 < length (ranking_in orders d) → RankedAt b d orders

-- such a ranking, and the notified lots
pub record RankIssuesAsks (notified ranks : List ℕ) : Type 0 where
  pub few : length notified ≤ most_issues
  pub already : 0 < length ranks → ranks ≡ ranked (λ i. get_or notified i 0) (length notified)

-- what participant d's issues are ranked by in a match; before are the lots used in earlier baskets
abbrev pub key_in : List ℕ → List ℕ → ℕ → Bool → ℕ → ℕ
key_in b before d preferential i = order_key preferential (notified_in b d i) (get_or before (row_cell d i) 0)

-- the order is that of match m, where `may` is what may be used of each issue
abbrev pub OrderedAt : List ℕ → List ℕ → Match → (ℕ → ℕ) → List ℕ → Type 0
OrderedAt b before m may order = Ordered (issues_in b) (key_in b before m.deliverer m.preferential) may order

pub record LoadOrderAsks (b before : List ℕ) (d : ℕ) (usable : List ℕ) (orders : List (ArrayVec ℕ)) : Type 0 where
  pub sized : DaySized b
  pub usable_there : issues_in b ≤ length usable
  pub deliverer : d < most_participants
  pub notified_most : (i : ℕ) → i < issues_in b → notified_in b d i ≤ notice_limit
  pub earlier : length before ≡ lots_size
  pub kept : Orders b orders

pub record LoadOrderGives (b before : List ℕ) (d : ℕ) (preferential : Bool) (usable : List ℕ) (orders : List (ArrayVec ℕ)) (order : List ℕ) : Type 0 where
  pub ordered : Ordered (issues_in b) (key_in b before d preferential) (λ i. get_or usable i 0) order
  pub kept : Orders b orders

-- match m's order is asked for. If that of the match before lists some issue, it is m's too where the two are of the same deliverer and sort
pub record OrderForAsks (b before : List ℕ) (last : Option Match) (m : Match) (usable : List ℕ) (orders : List (ArrayVec ℕ)) (order : List ℕ) : Type 0 where
  pub amount : m.amount.0 ≤ position_limit
  pub loadable : LoadOrderAsks b before m.deliverer usable orders
  pub last_is : 0 < length order → Same last m → OrderedAt b before m (λ i. get_or usable i 0) order

-- it is match m's, or filling does not go through it and it lists no issue
pub record OrderForGives (b before : List ℕ) (m : Match) (usable : List ℕ) (all : ℕ) (orders : List (ArrayVec ℕ)) (order : List ℕ) : Type 0 where
  pub kept : Orders b orders
  pub named : NamesOnce (issues_in b) order
  pub fits : OrderedAt b before m (λ i. get_or usable i 0) order ⊎ Idle (get_or b runs_at 0) all m.amount.0
  pub listed : 0 < length order → OrderedAt b before m (λ i. get_or usable i 0) order
