-- What belongs to no one function.
pub mod ListLaws
pub mod MeetLaws
pub mod PairLaws
pub mod TurnLaws
pub mod PlanLaws
pub mod CallerLaws
