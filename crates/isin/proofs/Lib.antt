-- Laws of the code rule.
pub mod CodeLaws
