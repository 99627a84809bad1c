-- What belongs to no one function.
pub mod InsertLaws
pub mod JoinLaws
pub mod SortLaws
pub mod RankLaws
