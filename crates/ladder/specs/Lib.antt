pub mod Code
pub mod Running
pub mod Places
