-- What the contracts of the forced issue cite besides the rule.
pub mod Choice
