-- Laws that the proofs cite.
pub mod ListingLaws
pub mod BookingLaws
pub mod IssueLaws
