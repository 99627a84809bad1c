-- What the contracts of a trade cite besides the rule.
pub mod Positions
pub mod Checked
