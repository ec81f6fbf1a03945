pub mod Sizes
pub mod Tags
pub mod Words
pub mod Lending
