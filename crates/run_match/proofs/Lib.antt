-- Laws that the proofs cite.
pub mod PlanLaws
pub mod FillLaws
pub mod WriteLaws
