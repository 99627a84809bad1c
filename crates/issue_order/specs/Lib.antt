-- What the contracts of the order cite besides the rule.
pub mod Ordered
