-- Laws of comparing yen and lots.
pub mod OrderLaws
