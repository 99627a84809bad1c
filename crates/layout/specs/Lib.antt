-- What contracts of other crates say of a book's cells.
pub mod InBook
