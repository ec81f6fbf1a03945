pub mod Meeting
pub mod Rules
pub mod Shams
