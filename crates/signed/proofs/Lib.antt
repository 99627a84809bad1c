-- Laws of sums of signed numbers, that the proofs of a trade and of a run cite.
pub mod SignLaws
