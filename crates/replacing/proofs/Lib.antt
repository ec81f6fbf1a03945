pub mod LocateLaws
pub mod UpdateLaws
pub mod BringLaws
pub mod ReplaceLaws
