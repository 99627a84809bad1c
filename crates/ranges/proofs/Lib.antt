-- Laws that the proofs of the ranges cite.
pub mod ScanLaws
pub mod RangeLaws
