-- A deliverer's turn, and all turns, one after the other. Assumes nothing.
use mathlib.Core.Path.{◌≡◌, refl, sym, ap, ap₂, ◌∙◌}
use mathlib.Core.Bool.{false}
use mathlib.Core.List.{List, [], ◌∷◌, ◌++◌, map, append-nil}
use Prim.Native.Nat.{ℕ, ◌+◌, ◌-◌, ◌≤◌, ◌<◌}
use native.Mathlib.Nat.{le_trans, le_refl}
use native.Mathlib.Numerals.{add-one}
use native.Mathlib.Omega.{arith}
use lib.ListN.{length, get_or, take, drop, length-append, length-map, length-take, length-drop, drop_of_length-le}
use lib.Seq.{drop-cons, take_all, take_at, drop_at}
use Rattle.std.proofs.lemmas.List.{take-map, drop-map}
use borrow.Rule.Slice.PartMut.{put_mid}
use Rattle.std.specs.List.{refill}
use Rattle.lists.specs.Folds.{foldl}
use Rattle.lists.specs.Order.{sorted, ranked}
use Rattle.lists.proofs.AppendLaws.{map-append}
use Rattle.lists.proofs.FoldLaws.{every-at, every-all, every_map}
use Rattle.lists.proofs.OrderLaws.{length-sorted, ranked-below}
use Rattle.rule.specs.Matching.{Match, meet, with, turn, deliverers}
use Rattle.rule.specs.Matching as rule
use Rattle.ranking.specs.Ranks.{SortByKeyAsks}
use Rattle.matching.specs.declared.Match.{Match as Entry}
use Rattle.matching.specs.declared.Left.{Left}
use Rattle.matching.specs.Plans.{rule_match, left_of, SameBuffers, Room, MeetAsks, TurnAsks, TurnsAsks}
use Rattle.matching.proofs.ListLaws.{with_all, map-sorted}
use Rattle.matching.proofs.MeetLaws.{meets-none, meets-on, meets-room, meets-grow, meets_from}
use Rattle.matching.proofs.PairLaws.{same_still}

-- ---- deliverer d and the receivers in drawn order

-- those left to meet lead to the whole
pub record Drawn (draw : List ℕ) (d : ℕ) (s₀ s : Left) (j : ℕ) : Type 0 where
  pub same : SameBuffers s₀ s
  pub leads : foldl (meet false) (left_of s) (with (drop j draw) d) ≡ foldl (meet false) (left_of s₀) (with draw d)

pub drawn-begin : (draw : List ℕ) (d : ℕ) (s : Left) → Drawn draw d s s 0
drawn-begin draw d s = record { same = record { owed = refl; due = refl; made = refl; owed_size = refl; due_size = refl }; leads = refl }

-- the turn with its matches in drawn order
abbrev met : List ℕ → rule.Left → ℕ → rule.Left
met draw s d = foldl (meet false) s (with draw d)

-- what is met from the positions alone
abbrev alone : List ℕ → rule.Left → ℕ → rule.Left
alone draw s d = met draw (record { owed = s.owed; due = s.due; made = [] }) d

met-is : (draw : List ℕ) (s : rule.Left) (d : ℕ) → met draw s d ≡ record { owed = (alone draw s d).owed; due = (alone draw s d).due; made = s.made ++ (alone draw s d).made }
met-is draw s d =
    ap (λ (ms : List Match). met draw (record { owed = s.owed; due = s.due; made = ms }) d) (sym (append-nil s.made)) ∙ meets_from false (with draw d) s.owed s.due s.made []

-- there is room for the turn's matches, in whatever order
length-turn : (draw : List ℕ) (s : rule.Left) (d : ℕ) → length (turn draw s d).made ≡ length (met draw s d).made
unfolding turn
length-turn draw s d =
    length-append s.made _ ∙ ap (λ (n : ℕ). length s.made + n) (length-sorted (λ m. m.amount) (alone draw s d).made) ∙ sym (length-append s.made _)
    ∙ sym (ap (λ (t : rule.Left). length t.made) (met-is draw s d))

module _ {draw : List ℕ} {d : ℕ} {s₀ s : Left} {j : ℕ} (t : TurnAsks draw s₀ d) (w : Drawn draw d s₀ s j) where
  abbrev next : List (ℕ × ℕ)
  next = (d, get_or draw j 0) ∷ []

  module _ (h : j < length draw) where
    leads-next : foldl (meet false) (left_of s) (next ++ with (drop (j + 1) draw) d) ≡ met draw (left_of s₀) d
    leads-next =
        let e : get_or draw j 0 ∷ drop (j + 1) draw ≡ drop j draw = rw (add-one j, drop-cons draw j 0 h) in
        ap (λ (rs : List ℕ). foldl (meet false) (left_of s) (with rs d)) e ∙ w.leads

    pub drawn-asks : MeetAsks false s d (get_or draw j 0)
    drawn-asks = record {
      deliverer = omega (arith, t.deliverer, w.same.owed_size);
      receiver = omega (arith, every-at (λ p. p < length s₀.due.now) 0 draw t.receivers j h, w.same.due_size);
      room = meets-room false (left_of s) (met draw (left_of s₀) d) next (with (drop (j + 1) draw) d) leads-next (omega (arith, t.room, length-turn draw (left_of s₀) d));
    }

    pub drawn-met : {u : Left} → left_of u ≡ meet false (left_of s) (d, get_or draw j 0) → SameBuffers s u → Drawn draw d s₀ u (j + 1)
    drawn-met e b = record {
      same = same_still w.same b;
      leads = ap (λ (v : rule.Left). foldl (meet false) v (with (drop (j + 1) draw) d)) e
          ∙ meets-on false (left_of s) (met draw (left_of s₀) d) next (with (drop (j + 1) draw) d) leads-next;
    }

  pub drawn-stop : get_or s.owed.now d 0 ≡ 0 → left_of s ≡ met draw (left_of s₀) d
  drawn-stop e = sym (meets-none false d (with (drop j draw) d) (left_of s) (with_all d (drop j draw)) e) ∙ w.leads

  pub drawn-end : length draw ≤ j → left_of s ≡ met draw (left_of s₀) d
  drawn-end h = ap (λ (rs : List ℕ). foldl (meet false) (left_of s) (with rs d)) (sym (drop_of_length-le draw h)) ∙ w.leads

-- ---- their order

-- the matches made since are sorted by amount: the turn
pub turn_is : (draw : List ℕ) (d : ℕ) (owed due owed' due' : List ℕ) (made made' : List Entry)
    → record { owed = owed'; due = due'; made = map rule_match made' } ≡ met draw (record { owed = owed; due = due; made = map rule_match made }) d
    → record { owed = owed'; due = due'; made = map rule_match (take (length made) made' ++ sorted (λ m. m.amount.0) (drop (length made) made')) }
    ≡ turn draw (record { owed = owed; due = due; made = map rule_match made }) d
unfolding turn
turn_is draw d owed due owed' due' made made' e =
    rw (ap (λ (t : rule.Left). t.owed) (e ∙ met-is draw s d), ap (λ (t : rule.Left). t.due) (e ∙ met-is draw s d))
    (ap (λ (ms : List Match). record { owed = its.owed; due = its.due; made = ms })
    (map-append rule_match (take n made') (sorted (λ m. m.amount.0) (drop n made'))
    ∙ ap₂ (λ (xs ys : List Match). xs ++ ys) front (map-sorted rule_match (λ m. m.amount) (drop n made') ∙ ap (sorted (λ m. m.amount)) behind)))
  where
    s : rule.Left
    s = record { owed = owed; due = due; made = map rule_match made }

    n : ℕ
    n = length made

    its : rule.Left
    its = alone draw s d

    all : map rule_match made' ≡ map rule_match made ++ its.made
    all = ap (λ (t : rule.Left). t.made) (e ∙ met-is draw s d)

    front : map rule_match (take n made') ≡ map rule_match made
    front = sym (take-map rule_match n made') ∙ ap (take n) all ∙ take_at (map rule_match made) its.made n (length-map made rule_match)

    behind : map rule_match (drop n made') ≡ its.made
    behind = sym (drop-map rule_match n made') ∙ ap (drop n) all ∙ drop_at (map rule_match made) its.made n (length-map made rule_match)

-- no match is lost
pub met-grows : (draw : List ℕ) (d : ℕ) (s t : Left) → left_of t ≡ met draw (left_of s) d → length s.made.now.items ≤ length t.made.now.items
met-grows draw d s t e =
    omega (arith, meets-grow false (with draw d) (left_of s), ap (λ (u : rule.Left). length u.made) e, length-map s.made.now.items rule_match, length-map t.made.now.items rule_match)

-- every match has its amount
unfoldable pub amount-keyed : (items : List Entry) (pre : Entry → Type 0) (post : Entry → ℕ → Type 0) → ((m : Entry) → pre m) → ((m : Entry) (n : ℕ) → post m n → n ≡ m.amount.0)
    → SortByKeyAsks pre post items
amount-keyed items pre post a g = record { by = λ m. m.amount.0; asks = every-all pre a items; gives = every-all (λ m. (n : ℕ) → post m n → n ≡ m.amount.0) g items }

-- as `turn` leaves them: the matches from the n-th on are lent as a part, sorted and back in their place
module _ (draw : List ℕ) (d : ℕ) (s t : Left) (n : ℕ) (made : List Entry) (e : left_of t ≡ met draw (left_of s) d)
    (z : n ≡ length s.made.now.items) (m : made ≡ t.made.now.items) where
  pub turn-within : n ≤ length made
  turn-within = omega (arith, met-grows draw d s t e, ap length m)

  module _ {ordered : List Entry} (o : ordered ≡ sorted (λ m. m.amount.0) (take (length made - n) (drop n made))) where
    abbrev now : List Entry
    now = t.made.now.items

    abbrev first : ℕ
    first = length s.made.now.items

    abbrev in_order : List Entry
    in_order = take first now ++ sorted (λ m. m.amount.0) (drop first now)

    back : put_mid n (length made - n) made ordered ≡ in_order
    back =
        rw (
          o,
          take_all (length made - n) (drop n made) (omega (arith, length-drop n made)),
          drop_of_length-le (drop n made) {i = length made - n} (omega (arith, length-drop n made)),
          append-nil (sorted (λ m. m.amount.0) (drop n made)),
          z,
          m,
        )

    as-long : length in_order ≡ length now
    as-long =
        length-append (take first now) (sorted (λ m. m.amount.0) (drop first now))
        ∙ omega (arith, length-take first now, length-sorted (λ m. m.amount.0) (drop first now), length-drop first now, met-grows draw d s t e)

    pub turn-left : record { owed = t.owed.now; due = t.due.now; made = map rule_match (refill (length now) now (put_mid n (length made - n) made ordered)) } ≡ turn draw (left_of s) d
    turn-left =
        rw (back, take_at in_order (drop (length in_order) now) (length now) as-long)
        (turn_is draw d s.owed.now s.due.now t.owed.now t.due.now s.made.now.items now e)

-- ---- the deliverers' turns

turn-grows : (draw : List ℕ) (s : rule.Left) (d : ℕ) → length s.made ≤ length (turn draw s d).made
turn-grows draw s d = omega (arith, length-turn draw s d, meets-grow false (with draw d) s)

turns-grow : (draw ds : List ℕ) (s : rule.Left) → length s.made ≤ length (foldl (turn draw) s ds).made
turns-grow draw [] s = le_refl _
turns-grow draw (d ∷ ds) s = le_trans (turn-grows draw s d) (turns-grow draw ds (turn draw s d))

-- the turns from the k-th on lead to the whole
pub record Turns (draw ds : List ℕ) (s₀ s : Left) (k : ℕ) : Type 0 where
  pub same : SameBuffers s₀ s
  pub leads : foldl (turn draw) (left_of s) (drop k ds) ≡ foldl (turn draw) (left_of s₀) ds

pub turns-begin : (draw ds : List ℕ) (s : Left) → Turns draw ds s s 0
turns-begin draw ds s = record { same = record { owed = refl; due = refl; made = refl; owed_size = refl; due_size = refl }; leads = refl }

module _ {draw ds : List ℕ} {s₀ s : Left} {k : ℕ} (p : TurnsAsks draw s₀) (f : ds ≡ ranked (λ p. get_or s₀.owed.now p 0) (length s₀.owed.now)) (w : Turns draw ds s₀ s k) where
  abbrev whole : rule.Left
  whole = foldl (turn draw) (left_of s₀) ds

  room-of-all : Room whole
  unfolding deliverers
  room-of-all = rw f p.room

  module _ (h : k < length ds) where
    abbrev who : ℕ
    who = get_or ds k 0

    leads-turn : foldl (turn draw) (turn draw (left_of s) who) (drop (k + 1) ds) ≡ whole
    leads-turn =
        let e : who ∷ drop (k + 1) ds ≡ drop k ds = rw (add-one k, drop-cons ds k 0 h) in
        ap (foldl (turn draw) (left_of s)) e ∙ w.leads

    pub turns-ask : TurnAsks draw s who
    turns-ask = record {
      deliverer = omega (arith, every-at (λ p. p < length s₀.owed.now) 0 ds (rw f (ranked-below (λ p. get_or s₀.owed.now p 0) (length s₀.owed.now))) k h, w.same.owed_size);
      receivers = every_map (λ r. r < length s₀.due.now) (λ r. r < length s.due.now) (λ r l. omega (arith, w.same.due_size)) draw p.receivers;
      room = omega (arith, room-of-all, turns-grow draw (drop (k + 1) ds) (turn draw (left_of s) who), ap (λ (t : rule.Left). length t.made) leads-turn);
    }

    pub turns-on : {t : Left} → left_of t ≡ turn draw (left_of s) who → SameBuffers s t → Turns draw ds s₀ t (k + 1)
    turns-on e b = record {
      same = same_still w.same b;
      leads = ap (λ (v : rule.Left). foldl (turn draw) v (drop (k + 1) ds)) e ∙ leads-turn;
    }

  pub turns-end : length ds ≤ k → left_of s ≡ foldl (turn draw) (left_of s₀) (deliverers s₀.owed.now)
  unfolding deliverers
  turns-end h = ap (foldl (turn draw) (left_of s)) (sym (drop_of_length-le ds h)) ∙ w.leads ∙ ap (foldl (turn draw) (left_of s₀)) f
