-- The theorems of the claims, the worked days, and examples of what the claims read.
pub mod RefusalLaws
pub mod ClaimLaws
pub mod JoinLaws
pub mod SplitLaws
pub mod UsableLaws
pub mod WordLaws
pub mod HandedLaws
pub mod HandedRight
pub mod StepLaws
pub mod HistoryLaws
pub mod FollowLaws
pub mod Demands
pub mod ViewedLaws
pub mod Worked
pub mod ClaimExamples
