-- An issue's turn in each of the passes. Assumes nothing.
use Rattle.std.specs.Prelude.{◌≡◌, ℕ, ◌+◌, ◌*◌, ◌/◌, ◌%◌, ◌≤◌}
use Rattle.rule.specs.Value.{Terms}
use Rattle.rule.specs.Filling.{unit, target}
use Rattle.turns.specs.Turns.{lots_up_to, whole_units, FurtherLotsAsks}
use Rattle.turns.specs.declared.Pass.{Pass}
use Rattle.turns.specs.declared.Pass.TheVariants.{Units, Remainders, Rest}
use Rattle.rule.specs.Sound.{notice_limit}

-- all that a pass may have of an issue: whole units; those that the first pass took, and the remainder; all
abbrev pub bound_of : Pass → ℕ → ℕ → ℕ
bound_of Units usable had = usable / unit * unit
bound_of Remainders usable had = had / unit * unit + usable % unit
bound_of Rest usable had = usable

-- the lots after the turn
abbrev pub next_of : Pass → Terms → ℕ → ℕ → ℕ → ℕ → ℕ
next_of Units t usable had reached amount = whole_units t usable had reached (target amount)
next_of Remainders t usable had reached amount = lots_up_to t (bound_of Remainders usable had) had reached amount
next_of Rest t usable had reached amount = lots_up_to t usable had reached amount

-- what the match has of an issue that the pass did not meet yet: none in the first, which keeps to its target; what the first took in
-- the second
abbrev pub Fresh : Pass → ℕ → ℕ → ℕ → Type 0
Fresh Units had reached amount = (had ≡ 0) × (reached ≤ target amount)
Fresh Remainders had reached amount = had / unit * unit ≡ had
Fresh Rest had reached amount = Unit {0}

-- what a turn asks
pub record NextAsks (pass : Pass) (had usable reached amount : ℕ) : Type 0 where
  pub short : FurtherLotsAsks reached amount
  pub bounded : had ≤ bound_of pass usable had
  pub within : had ≤ usable
  pub usable_most : usable ≤ notice_limit
  pub fresh : Fresh pass had reached amount
