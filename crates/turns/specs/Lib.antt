-- What the contracts of a turn cite besides the rule.
pub mod Turns
pub mod Passes
