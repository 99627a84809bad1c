-- What the contracts of an opening cite besides the rule.
pub mod Opened
