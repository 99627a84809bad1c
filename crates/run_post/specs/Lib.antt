-- What writing a match asks and leaves.
pub mod Listed
pub mod Booked
pub mod Issues
