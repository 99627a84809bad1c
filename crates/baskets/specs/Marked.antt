-- The code's marks as the rule's. Assumes nothing.
use Rattle.rule.specs.Allocable as rule
use Rattle.baskets.specs.declared.Marks.{Marks}

abbrev pub rule_marks : Marks → rule.Marks
rule_marks m = record { redeemed = m.redeemed; interest = m.interest }
