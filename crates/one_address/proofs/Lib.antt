pub mod Keeping
pub mod Listing
