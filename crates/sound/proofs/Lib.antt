-- Laws that the proofs of the book cite.
pub mod SoundLaws
pub mod WholeLaws
