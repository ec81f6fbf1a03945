pub mod Questions
pub mod OpenLaws
pub mod MakeLaws
