-- What the contracts of baskets cite besides the rule.
pub mod Kinds
pub mod Marked
