pub mod Meanings
pub mod Places
