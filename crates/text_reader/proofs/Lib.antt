pub mod JudgeLaws
pub mod FoundLaws
pub mod LimitLaws
pub mod ItemLaws
pub mod MeasureLaws
pub mod WriteLaws
pub mod JobLaws
