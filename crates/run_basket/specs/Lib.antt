-- What the functions of a basket's step ask and leave.
pub mod Running
