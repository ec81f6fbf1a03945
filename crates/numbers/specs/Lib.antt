pub mod Answers
pub mod Weights
pub mod Limits
