pub mod Copying
pub mod Reaching
pub mod Rows
pub mod Working
