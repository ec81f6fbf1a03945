pub mod Reading
pub mod Standing
pub mod Counting
