-- What the contracts of one match cite besides the rule.
pub mod Filled
