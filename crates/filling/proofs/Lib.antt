-- Laws that the proofs cite.
pub mod OnceLaws
pub mod PassLaws
pub mod WalkLaws
pub mod NothingLaws
pub mod MatchLaws
pub mod KeptLaws
