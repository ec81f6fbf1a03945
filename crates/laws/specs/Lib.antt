pub mod Ordered
pub mod Rivalry
