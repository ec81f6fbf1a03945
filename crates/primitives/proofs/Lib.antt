pub mod Common
pub mod Syntax
pub mod Lists
pub mod Atoms
pub mod Choosing
