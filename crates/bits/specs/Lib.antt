pub mod Tokens
pub mod Meeting
