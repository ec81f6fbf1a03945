pub mod Tokens
pub mod Keeping
pub mod Gathering
pub mod Walked
pub mod Programs
