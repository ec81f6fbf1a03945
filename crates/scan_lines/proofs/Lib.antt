pub mod Driven
pub mod Showing
pub mod Counting
pub mod Texts
