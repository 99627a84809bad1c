-- Document 01 as definitions, in its order.
pub mod Value
pub mod Baskets
pub mod Isin
pub mod Allocable
pub mod Matching
pub mod Filling
pub mod Day
pub mod Entries
pub mod Run
pub mod Sound
pub mod Calls
pub mod Layout
pub mod History
pub mod WorkedIssues
