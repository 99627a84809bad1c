-- What the program is proved to do, of every call and every list of calls, and the table of worked days.
pub mod Claims
pub mod WorkedDays
