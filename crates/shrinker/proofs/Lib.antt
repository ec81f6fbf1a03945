pub mod UseLaws
pub mod ByteLaws
pub mod WriteLaws
pub mod JobLaws
