-- What the contracts cite.
pub mod Ranks
