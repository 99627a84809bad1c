-- What belongs to no one function.
pub mod QuoteLaws
pub mod TermLaws
pub mod SumLaws
