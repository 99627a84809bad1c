-- What the contracts cite.
pub mod Plans
