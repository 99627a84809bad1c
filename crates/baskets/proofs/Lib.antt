-- What belongs to no one function.
pub mod CompositionLaws
pub mod AllocableLaws
