-- The definitions that the contracts cite.
pub mod Range
pub mod Quote
pub mod Quotes
