-- The paper's number for each answer of the code.
pub mod Answers
