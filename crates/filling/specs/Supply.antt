-- What a match is supplied with, as the rule reads it. Assumes nothing.
use Rattle.std.specs.Prelude.{List, map, ℕ}
use Rattle.rule.specs.Value.{Terms}
use Rattle.rule.specs.Day.{terms_of, marks_of}
use Rattle.rule.specs.Filling.{forced_issue}
use Rattle.filling.specs.declared.Supply.{Supply}

-- the terms of the day's issues
abbrev pub supply_terms : Supply → List Terms
supply_terms s = map terms_of s.issues.now

-- the forced issue of a match in basket k
abbrev pub forced_in : ℕ → Supply → ℕ
forced_in k s = forced_issue k (supply_terms s) (map marks_of s.issues.now) s.notified.now
