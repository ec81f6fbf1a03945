pub mod Changing
pub mod Fresh
