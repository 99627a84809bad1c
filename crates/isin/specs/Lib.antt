-- What the contracts of codes cite besides the rule.
pub mod Code
pub mod Summing
