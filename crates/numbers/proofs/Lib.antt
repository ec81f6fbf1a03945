pub mod Tails
pub mod Answering
pub mod Reading
pub mod Writing
