-- What the contracts of a run cite besides the rule.
pub mod Ran
pub mod Checked
