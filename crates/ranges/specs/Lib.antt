-- What the contracts of the ranges cite besides the rule.
pub mod Ranges
