-- Laws of meetings: one, and many, of which some are left to go through. Assumes nothing.
use mathlib.Core.Path.{◌≡◌, refl, sym, ap, ◌∙◌}
use mathlib.Core.Bool.{Bool}
use mathlib.Core.List.{List, [], ◌∷◌, ◌++◌, map, append-nil, append_assoc}
use Prim.Native.Nat.{ℕ, zero, suc, ◌+◌, ◌-◌, ◌≤◌, ◌<◌, min}
use native.Mathlib.Nat.{not-suc-le-zero, le_trans, le_refl, zero-min}
use native.Mathlib.Omega.{arith}
use lib.ListN.{length, get_or, length-append, length-map}
use lib.Seq.{set-get_or}
use Rattle.lists.specs.Tables.{less}
use Rattle.lists.specs.Folds.{foldl, Every}
use Rattle.lists.proofs.FoldLaws.{foldl-append}
use Rattle.lists.proofs.AppendLaws.{map-append}
use Rattle.rule.specs.Matching.{Match, Left, matched, meet}
use Rattle.matching.specs.declared.Match.{Match as Entry}
use Rattle.matching.specs.Plans.{rule_match, Room}

-- the smaller of what the two have left
abbrev pub smaller : Left → ℕ × ℕ → ℕ
smaller s c = min (get_or s.owed c.0 0) (get_or s.due c.1 0)

less_none : (l : List ℕ) (i : ℕ) → less l i 0 ≡ l
less_none l i = let e : get_or l i 0 - 0 ≡ get_or l i 0 = omega arith in rw e (set-get_or l i 0)

-- nothing is left of the one or the other: nothing changes
pub meet-none : (q : Bool) (s : Left) (c : ℕ × ℕ) → smaller s c ≡ 0 → meet q s c ≡ s
unfolding meet matched
meet-none q s c e = rw (e, less_none s.owed c.0, less_none s.due c.1, append-nil s.made)

matched-some : (q : Bool) (c : ℕ × ℕ) (x : ℕ) → 0 < x → matched q c x ≡ record { deliverer = c.0; receiver = c.1; amount = x; preferential = q } ∷ []
unfolding matched
matched-some q c zero h = absurd (not-suc-le-zero h)
matched-some q c (suc n) h = refl

-- ---- the number of matches

length-meet-some : (q : Bool) (s : Left) (c : ℕ × ℕ) → 0 < smaller s c → length (meet q s c).made ≡ length s.made + 1
unfolding meet
length-meet-some q s c h = length-append s.made (matched q c (smaller s c)) ∙ ap (λ (l : List Match). length s.made + length l) (matched-some q c (smaller s c) h)

meet-grows : (q : Bool) (s : Left) (c : ℕ × ℕ) → length s.made ≤ length (meet q s c).made
unfolding meet
meet-grows q s c = omega (arith, length-append s.made (matched q c (smaller s c)))

pub meets-grow : (q : Bool) (cs : List (ℕ × ℕ)) (s : Left) → length s.made ≤ length (foldl (meet q) s cs).made
meets-grow q [] s = le_refl _
meets-grow q (c ∷ cs) s = le_trans (meet-grows q s c) (meets-grow q cs (meet q s c))

-- ---- one meeting, of which x is the amount

module _ (q : Bool) (owed due : List ℕ) (made : List Entry) (d r x : ℕ) (e : x ≡ min (get_or owed d 0) (get_or due r 0)) where
  abbrev here : Left
  here = record { owed = owed; due = due; made = map rule_match made }

  pub nothing-met : x ≡ 0 → here ≡ meet q here (d, r)
  nothing-met z = sym (meet-none q here (d, r) (sym e ∙ z))

  pub room-to-meet : Room (meet q here (d, r)) → (x ≡ 0 → ⊥) → length made < 11
  room-to-meet m z = omega (arith, m, length-meet-some q here (d, r) (omega arith), length-map made rule_match)

  pub one-met : (m : Entry) → rule_match m ≡ record { deliverer = d; receiver = r; amount = x; preferential = q } → (x ≡ 0 → ⊥)
      → record { owed = less owed d x; due = less due r x; made = map rule_match (made ++ (m ∷ [])) } ≡ meet q here (d, r)
  unfolding meet
  one-met m f z = rw (map-append rule_match made (m ∷ []), f, ← e, matched-some q (d, r) x (omega arith))

-- ---- many meetings

-- a deliverer with nothing left meets nobody
pub meets-none : (q : Bool) (d : ℕ) (cs : List (ℕ × ℕ)) (s : Left) → Every (λ c. c.0 ≡ d) cs → get_or s.owed d 0 ≡ 0 → foldl (meet q) s cs ≡ s
meets-none q d [] s h e = refl
meets-none q d (c ∷ cs) s h e =
    let z : smaller s c ≡ 0 = rw (h.0, e, zero-min (get_or s.due c.1 0)) in
    ap (λ (t : Left). foldl (meet q) t cs) (meet-none q s c z) ∙ meets-none q d cs s h.1 e

-- matches made before stay in front
pub meets_from : (q : Bool) (cs : List (ℕ × ℕ)) (o u : List ℕ) (before made : List Match)
    → let t : Left = foldl (meet q) (record { owed = o; due = u; made = made }) cs in
    foldl (meet q) (record { owed = o; due = u; made = before ++ made }) cs ≡ record { owed = t.owed; due = t.due; made = before ++ t.made }
unfolding meet
meets_from q [] o u before made = refl
meets_from q (c ∷ cs) o u before made =
    let x : ℕ = min (get_or o c.0 0) (get_or u c.1 0) in
    ap (λ (ms : List Match). foldl (meet q) (record { owed = less o c.0 x; due = less u c.1 x; made = ms }) cs) (append_assoc before made (matched q c x))
    ∙ meets_from q cs (less o c.0 x) (less u c.1 x) before (made ++ matched q c x)

-- the meetings left lead to the whole: those next have room, since the whole has
module _ (q : Bool) (s whole : Left) (next rest : List (ℕ × ℕ)) (e : foldl (meet q) s (next ++ rest) ≡ whole) where
  pub meets-on : foldl (meet q) (foldl (meet q) s next) rest ≡ whole
  meets-on = sym (foldl-append (meet q) next rest s) ∙ e

  pub meets-room : Room whole → Room (foldl (meet q) s next)
  meets-room h = omega (arith, h, meets-grow q rest (foldl (meet q) s next), ap (λ (t : Left). length t.made) meets-on)
