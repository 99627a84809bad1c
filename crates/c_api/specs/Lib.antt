-- What a call hands to C.
pub mod Returned
