-- What a call hands to C: the one number for its reply, beside the book and the lists. Assumes nothing.
use Rattle.std.specs.Prelude.{ℕ, ◌+◌, ◌*◌, ◌≤◌}
use Rattle.rule.specs.Calls.{Reply, accepted, counts, refused, most_matches, most_lines}

-- 0 accepted, a refusal's number, of a run 2^32 + matches × 2^16 + lines
abbrev pub returned : Reply → ℕ
returned accepted = 0
returned (counts matches lines) = 4294967296 + matches * 65536 + lines
returned (refused number) = number

-- what a call comes to, with that number for its reply
abbrev pub for_c : {X : Type 0} → Reply × X → ℕ × X
for_c out = (returned out.0, out.1)

-- a run's counts leave room for each other in the number
abbrev pub ReturnedRunAsks : Reply → Type 0
ReturnedRunAsks accepted = Unit {0}
ReturnedRunAsks (counts matches lines) = (matches ≤ most_matches) × (lines ≤ most_lines)
ReturnedRunAsks (refused number) = Unit {0}
