pub mod Refusing
pub mod Opening
pub mod Making
