-- The forced issue, chosen on the way down the issues: what is known of those met so far. Assumes nothing.
use Rattle.std.specs.Prelude.{◌≡◌, Bool, ◌&&◌, List, ◌∷◌, ℕ, ◌≤◌, ◌<◌, min, length, get_or, eqb, Option, Some, None}
use Rattle.lists.specs.Folds.{keep, Every}
use Rattle.rule.specs.Value.{Terms, no_terms}
use Rattle.rule.specs.Baskets.{within}
use Rattle.rule.specs.Allocable.{Marks, no_marks, unmarked}
use Rattle.rule.specs.Filling.{or_else, fifth_largest}
use Rattle.forced.specs.declared.Best.{Best}
use Rattle.forced.specs.declared.Fifth.{Fifth}

-- the notified lots of an issue
abbrev pub noted : List ℕ → ℕ → ℕ
noted notified i = get_or notified i 0

-- an issue of these terms and marks is one of basket k, and unmarked
abbrev pub takes : ℕ → Terms → Marks → Bool
takes k t m = within k t && unmarked m

abbrev pub is_eligible : ℕ → List Terms → List Marks → ℕ → Bool
is_eligible k ts ms i = takes k (get_or ts i no_terms) (get_or ms i no_marks)

-- the issues of kind 2
abbrev pub ten_year : List Terms → List ℕ → List ℕ
ten_year ts l = keep (λ i. eqb (get_or ts i no_terms).kind 2) l

-- the forced issue among those of a basket that are unmarked, where none has notified lots
abbrev pub fifth_among : List Terms → List ℕ → ℕ
fifth_among ts l = fifth_largest (or_else (ten_year ts l) l)

-- of the issues with `most` notified lots the first, and a place where it stands
pub record FirstOf (n : ℕ → ℕ) (l : List ℕ) (most issue : ℕ) : Type 0 where
  pub place : ℕ
  pub inside : place < length l
  pub there : n (get_or l place 0) ≡ most
  pub rest : List ℕ
  pub first : keep (λ j. eqb (n j) most) l ≡ issue ∷ rest

-- no issue has more, and if any has some, it is the first that has the most
pub record BestAt (n : ℕ → ℕ) (l : List ℕ) (most issue : ℕ) : Type 0 where
  pub all : Every (λ j. n j ≤ most) l
  pub some : 0 < most → FirstOf n l most issue

-- the best has some lots; with none, no issue has any
abbrev pub BestOf : (ℕ → ℕ) → List ℕ → Option Best → Type 0
BestOf n l None = BestAt n l 0 0
BestOf n l (Some b) = (0 < b.most.0) × BestAt n l b.most.0 b.issue

-- the fewest lots that make an issue the best
abbrev pub least_of : Option Best → ℕ
least_of None = 1
least_of (Some b) = b.most.0

pub record FifthAt (l : List ℕ) (met issue : ℕ) : Type 0 where
  pub met_is : met ≡ min 5 (length l)
  pub issue_is : issue ≡ fifth_largest l

-- none where none was met
abbrev pub FifthOf : List ℕ → Option Fifth → Type 0
FifthOf l None = FifthAt l 0 0
FifthOf l (Some f) = (0 < f.met) × FifthAt l f.met f.issue
