pub mod Stores
pub mod Words
pub mod Ops
pub mod Members
pub mod Order
pub mod Counting
pub mod Deciding
