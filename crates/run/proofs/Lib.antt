-- Laws that the proofs cite.
pub mod RanLaws
pub mod RunLaws
