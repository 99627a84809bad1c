-- What the contracts of the book cite besides the rule.
pub mod Sized
