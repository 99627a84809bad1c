-- What the contracts of a close cite besides the rule.
pub mod Closed
