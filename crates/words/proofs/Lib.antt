-- Laws that the lines' proofs cite, and examples.
pub mod ReadLaws
mod WordExamples
