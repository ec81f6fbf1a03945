pub mod Tails
pub mod Taking
pub mod Suits
pub mod Meaning
pub mod Readable
pub mod Root
