-- What the contracts of a notice cite besides the rule.
pub mod Checked
