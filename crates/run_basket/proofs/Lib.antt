-- Laws that the proofs cite.
pub mod DoneLaws
pub mod BookedLaws
pub mod ReadLaws
pub mod NextLaws
pub mod ListedLaws
pub mod RunningLaws
pub mod AllocateLaws
pub mod BasketLaws
