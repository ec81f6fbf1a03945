pub mod Sizes
pub mod Working
pub mod Rows
pub mod Reaching
pub mod Whole
