pub mod Bits
pub mod Frame
pub mod Laws
