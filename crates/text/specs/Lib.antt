pub mod Placing
pub mod Hexadecimal
