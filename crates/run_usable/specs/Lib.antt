-- What may be used, as a run reads it in the book.
pub mod Stock
