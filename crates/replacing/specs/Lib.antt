pub mod Locating
pub mod Updating
pub mod Replacing
