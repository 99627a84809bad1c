-- What the contracts of filling cite besides the rule.
pub mod Rows
pub mod Match
pub mod Supply
